-- What leads to ports when procedures grow.
use Rattle.std.proofs.Common.{◌≡◌, ℕ, zero, suc, ◌+◌, ◌<◌, ◌≤◌, ◌⊎◌, inl, inr, refl, sym, ap, ◌∙◌, subst, arith, Bool, true, false, cond, ◌==◌, List, [], ◌∷◌, ◌++◌, length, Some, None, append_assoc, length-append}
use Rattle.std.specs.Prelude.{slice_get, get_or, not}
use Rattle.std.proofs.lemmas.Bool.{and_parts, and_from, cond-true, cond-false, cases_Bool, cases_eq, cases_lt, eqb-true, eq-eqb}
use Rattle.std.proofs.lemmas.List.{append-nil}
use Rattle.std.proofs.lemmas.Option.{get_or_from_slice_get}
use Rattle.u_program.specs.declared.program.Kind.{Kind}
use Rattle.u_program.specs.declared.program.Kind.TheVariants.{Switch}
use Rattle.u_compile.specs.declared.graph.Link.{Link}
use Rattle.u_compile.specs.declared.graph.Output.{Output}
use Rattle.u_compile.specs.declared.drawing.Scope.{Scope}
use Rattle.u_compile.specs.declared.drawing.Gate.{Gate}
use Rattle.u_compile.specs.declared.drawing.Carried.{Carried}
use Rattle.u_compile.specs.Drafts.{DraftParts}
use Rattle.u_compile.specs.Scoped.{GuardedRegionParts}
use Rattle.u_compile.specs.Graphs.{link, output, draft_at}
use Rattle.u_compile.specs.Drawings.{leads_to, feeders, DrawingParts, drawing, IsOfKind, IsFedBy, AreFed, IsFed, from_nothing, from_value, from_control, IsGate, IsDrawn, GoesOn, AddsOpen, Grows, Adds, Gives, Merges, IsGated, a_gate, with_value, links_to, input_links, AreValues, OnlyTo}
use Rattle.u_compile.proofs.Numbers.{at_within, at_last}

pub feeders-append : (n port : ℕ) (ls ms : List Link) → feeders n port (ls ++ ms) ≡ feeders n port ls ++ feeders n port ms
feeders-append n port [] ms = refl
feeders-append n port (l ∷ ls) ms = by (leads_to n port l) (feeders n port (ls ++ ms)) (feeders n port ls) (feeders n port ms) (feeders-append n port ls ms)
  where
    by : (b : Bool) (xs ys zs : List Output) → xs ≡ ys ++ zs → cond b (l.from ∷ xs) xs ≡ cond b (l.from ∷ ys) ys ++ zs
    by true xs ys zs e = ap (λ (v : List Output). l.from ∷ v) e
    by false xs ys zs e = e

-- what leads nowhere else adds nothing
pub feeders_none : (n port : ℕ) (ls ms : List Link) → feeders n port ms ≡ [] → feeders n port (ls ++ ms) ≡ feeders n port ls
feeders_none n port ls ms e = feeders-append n port ls ms ∙ (ap (λ (v : List Output). feeders n port ls ++ v) e ∙ append-nil (feeders n port ls))

pub feeders_first : (n port : ℕ) (ls ms : List Link) → feeders n port ls ≡ [] → feeders n port (ls ++ ms) ≡ feeders n port ms
feeders_first n port ls ms e = feeders-append n port ls ms ∙ ap (λ (v : List Output). v ++ feeders n port ms) e

pub links_here : (n port : ℕ) (os : List Output) → feeders n port (links_to n port os) ≡ os
links_here n port [] = refl
links_here n port (o ∷ os) =
    cond-true (leads_to n port (link o n port)) (o ∷ feeders n port (links_to n port os)) (feeders n port (links_to n port os)) (and_from (n == n) (port == port) (eq-eqb n n refl) (eq-eqb port port refl))
    ∙ ap (λ (v : List Output). o ∷ v) (links_here n port os)

leads_away : (m q n port : ℕ) (o : Output) → ((n ≡ m) × (port ≡ q) → ⊥) → leads_to m q (link o n port) ≡ false
leads_away m q n port o h =
    elim (cases_Bool (leads_to m q (link o n port))) [ inl e ↦ absurd (h (eqb-true n m (and_parts (n == m) (port == q) e).0, eqb-true port q (and_parts (n == m) (port == q) e).1)) | inr e ↦ e ]

pub links_away : (m q n port : ℕ) (os : List Output) → ((n ≡ m) × (port ≡ q) → ⊥) → feeders m q (links_to n port os) ≡ []
links_away m q n port [] h = refl
links_away m q n port (o ∷ os) h =
    cond-false (leads_to m q (link o n port)) (o ∷ feeders m q (links_to n port os)) (feeders m q (links_to n port os)) (leads_away m q n port o h)
    ∙ links_away m q n port os h

pub only_links : (n port : ℕ) (os : List Output) → OnlyTo n (links_to n port os)
only_links n port os m q h = links_away m q n port os (λ e. h (sym e.0))

pub only_both : (n : ℕ) (ls ms : List Link) → OnlyTo n ls → OnlyTo n ms → OnlyTo n (ls ++ ms)
only_both n ls ms a b m q h = feeders_first m q ls ms (a m q h) ∙ b m q h

pub only_inputs : (vs : List (List Output)) (n port : ℕ) (ins : List ℕ) → OnlyTo n (input_links vs n port ins)
only_inputs vs n port [] m q h = refl
only_inputs vs n port (v ∷ rest) m q h = only_both n (links_to n port (get_or vs v [])) (input_links vs n (port + 1) rest) (only_links n port (get_or vs v [])) (only_inputs vs n (port + 1) rest) m q h

-- to the ports before the first nothing leads
pub inputs_before : (vs : List (List Output)) (n q port : ℕ) (ins : List ℕ) → q < port → feeders n q (input_links vs n port ins) ≡ []
inputs_before vs n q port [] h = refl
inputs_before vs n q port (v ∷ rest) h =
    feeders_first n q (links_to n port (get_or vs v [])) (input_links vs n (port + 1) rest) (links_away n q n port (get_or vs v []) (λ e. omega (arith, h, e.1)))
    ∙ inputs_before vs n q (port + 1) rest (omega (arith, h))

pub are_fed : (ls : List Link) (vs : List (List Output)) (n port : ℕ) (ins : List ℕ) → AreValues vs ins → ((q : ℕ) → port ≤ q → feeders n q ls ≡ []) → AreFed (ls ++ input_links vs n port ins) vs n port ins
are_fed ls vs n port [] all none = λ q h. feeders_none n q ls [] refl ∙ none q h
are_fed ls vs n port (v ∷ rest) all none =
    let os = get_or vs v [] in
    let here = links_to n port os in
    let behind = input_links vs n (port + 1) rest in
    let same : feeders n port (ls ++ (here ++ behind)) ≡ os =
    feeders_first n port ls (here ++ behind) (none port (omega arith)) ∙ (feeders_none n port here behind (inputs_before vs n port (port + 1) rest (omega arith)) ∙ links_here n port os) in
    let is : slice_get vs v ≡ Some (feeders n port (ls ++ (here ++ behind))) =
    all.0.1 ∙ ap Some (sym (get_or_from_slice_get vs v all.0.0 [] all.0.1) ∙ sym same) in
    let next = are_fed (ls ++ here) vs n (port + 1) rest all.1 (λ q h. feeders_none n q ls here (links_away n q n port os (λ e. omega (arith, h, e.1))) ∙ none q (omega (arith, h))) in
    (is, subst (λ (ms : List Link). AreFed ms vs n (port + 1) rest) (append_assoc ls here behind) next)

up_from : (port q : ℕ) → port ≤ q → (q ≡ port) ⊎ (port + 1 ≤ q)
up_from port q h = elim (cases_lt port q) [ inl g ↦ inr (omega (arith, g)) | inr g ↦ inl (omega (arith, h, g)) ]

pub each_fed : (ds : List DraftParts) (ls : List Link) (vs : List (List Output)) (n port : ℕ) (ins : List ℕ) → AreFed ls vs n port ins → (q : ℕ) → port ≤ q → IsFed ds ls vs n q
each_fed ds ls vs n port [] fed q h = from_nothing (fed q h)
each_fed ds ls vs n port (v ∷ rest) fed q h =
    elim (up_from port q h) [ inl e ↦ subst (λ (p : ℕ). IsFed ds ls vs n p) (sym e) (from_value v fed.0) | inr g ↦ each_fed ds ls vs n (port + 1) rest fed.1 q g ]

-- what was there is there
pub get_on : {A : Type 0} (xs more : List A) (n : ℕ) (x : A) → slice_get xs n ≡ Some x → slice_get (xs ++ more) n ≡ Some x
get_on [] more n x e = cc
get_on (y ∷ xs) more zero x e = e
get_on (y ∷ xs) more (suc n) x e = get_on xs more n x e

pub get_goes_on : {A : Type 0} (xs ys : List A) (n : ℕ) (x : A) → GoesOn xs ys → slice_get xs n ≡ Some x → slice_get ys n ≡ Some x
get_goes_on {A} xs ys n x on e = ap (λ (l : List A). slice_get l n) on.1 ∙ get_on xs on.0 n x e

pub at_goes_on : (ds es : List DraftParts) (n : ℕ) (x : DraftParts) → GoesOn ds es → draft_at ds n ≡ Some x → draft_at es n ≡ Some x
at_goes_on ds es zero x on e = cc
at_goes_on ds es (suc n) x on e = get_goes_on ds es n x on e

pub kind_goes_on : (ds es : List DraftParts) (n : ℕ) (k : Kind) → GoesOn ds es → IsOfKind ds n k → IsOfKind es n k
kind_goes_on ds es n k on is = (is.0, at_goes_on ds es n is.0 on is.1, is.2)

pub on_self : {A : Type 0} (xs : List A) → GoesOn xs xs
on_self xs = ([], sym (append-nil xs))

pub on_then : {A : Type 0} (xs ys zs : List A) → GoesOn xs ys → GoesOn ys zs → GoesOn xs zs
on_then {A} xs ys zs a b = (a.0 ++ b.0, b.1 ∙ (ap (λ (l : List A). l ++ b.0) a.1 ∙ append_assoc xs a.0 b.0))

pub on_one : {A : Type 0} (xs : List A) (x : A) → GoesOn xs (xs ++ (x ∷ []))
on_one xs x = (x ∷ [], refl)

pub on_length : {A : Type 0} (xs ys : List A) → GoesOn xs ys → length xs ≤ length ys
on_length xs ys on = omega (arith, ap length on.1, length-append xs on.0)

-- a port to which the same leads is led to by what one value gives, as before
pub fed_kept : (ds es : List DraftParts) (ls ms : List Link) (vs ws : List (List Output)) (n port : ℕ) → GoesOn ds es → GoesOn vs ws → feeders n port ms ≡ feeders n port ls → IsFed ds ls vs n port → IsFed es ms ws n port
fed_kept ds es ls ms vs ws n port a b e (from_nothing f) = from_nothing (e ∙ f)
fed_kept ds es ls ms vs ws n port a b e (from_value v f) = from_value v (get_goes_on vs ws v (feeders n port ls) b f ∙ ap Some (sym e))
fed_kept ds es ls ms vs ws n port a b e (from_control o k p f) = from_control o (kind_goes_on ds es n Switch a k) p (e ∙ f)

pub fed_by_kept : (ls ms : List Link) (vs ws : List (List Output)) (n port v : ℕ) → GoesOn vs ws → feeders n port ms ≡ feeders n port ls → IsFedBy ls vs n port v → IsFedBy ms ws n port v
fed_by_kept ls ms vs ws n port v b e f = get_goes_on vs ws v (feeders n port ls) b f ∙ ap Some (sym e)

pub gate_kept : (ds es : List DraftParts) (ls ms : List Link) (vs ws : List (List Output)) (g : Gate) → GoesOn ds es → GoesOn vs ws → ((port : ℕ) → feeders g.switch port ms ≡ feeders g.switch port ls) → IsGate ds ls vs g → IsGate es ms ws g
gate_kept ds es ls ms vs ws g a b e is = record {
  switch = kind_goes_on ds es g.switch Switch a is.switch;
  value = fed_by_kept ls ms vs ws g.switch 1 g.value b (e 1) is.value;
  control = e 2 ∙ is.control;
}

pub are_fed_kept : (ls ms : List Link) (vs ws : List (List Output)) (n port : ℕ) (ins : List ℕ) → GoesOn vs ws → ((q : ℕ) → feeders n q ms ≡ feeders n q ls) → AreFed ls vs n port ins → AreFed ms ws n port ins
are_fed_kept ls ms vs ws n port [] b e fed = λ q h. e q ∙ fed q h
are_fed_kept ls ms vs ws n port (v ∷ rest) b e fed = (fed_by_kept ls ms vs ws n port v b (e port) fed.0, are_fed_kept ls ms vs ws n (port + 1) rest b e fed.1)

-- a gate's statement is there
gate_there : (ds : List DraftParts) (ls : List Link) (vs : List (List Output)) (g : Gate) → IsGate ds ls vs g → g.switch ≤ length ds
gate_there ds ls vs g is = (at_within ds g.switch is.switch.0 is.switch.1).1

-- it stays so with one statement more, and with links that lead to that one alone
pub drawn_added : (ds : List DraftParts) (ls : List Link) (vs : List (List Output)) (gs : List Gate) (b : Bool) → IsDrawn ds ls vs gs b → (x : DraftParts) (ms : List Link) (broken : Bool) → OnlyTo (length ds + 1) ms → (broken ≡ false → (b ≡ false) × ((q : ℕ) → IsFed (ds ++ (x ∷ [])) (ls ++ ms) vs (length ds + 1) q)) → IsDrawn (ds ++ (x ∷ [])) (ls ++ ms) vs gs broken
drawn_added ds ls vs gs b is x ms broken only last = record {
  there = λ n port h.
      let long : length (ds ++ (x ∷ [])) ≡ length ds + 1 = length-append ds (x ∷ []) in
      feeders_none n port ls ms (only n port (λ e. omega (arith, h, e, long))) ∙ is.there n port (omega (arith, h, long));
  fed = λ e n port.
      elim (cases_eq n (length ds + 1)) [
        | inl q ↦ subst (λ (k : ℕ). IsFed (ds ++ (x ∷ [])) (ls ++ ms) vs k port) (sym q) ((last e).1 port)
        | inr q ↦ fed_kept ds (ds ++ (x ∷ [])) ls (ls ++ ms) vs vs n port (on_one ds x) (on_self vs) (feeders_none n port ls ms (only n port q)) (is.fed (last e).0 n port)
      ];
  gates = λ g h.
      let w = gate_there ds ls vs g (is.gates g h) in
      gate_kept ds (ds ++ (x ∷ [])) ls (ls ++ ms) vs vs g (on_one ds x) (on_self vs) (λ port. feeders_none g.switch port ls ms (only g.switch port (λ e. omega (arith, w, e)))) (is.gates g h);
}

-- and with the values that lead to the ports of that one
pub drawn_inputs : (ds : List DraftParts) (ls : List Link) (vs : List (List Output)) (gs : List Gate) (b : Bool) → IsDrawn ds ls vs gs b → (x : DraftParts) (ins : List ℕ) → AreValues vs ins → IsDrawn (ds ++ (x ∷ [])) (ls ++ input_links vs (length ds + 1) 1 ins) vs gs b
drawn_inputs ds ls vs gs b is x ins all =
    let n = length ds + 1 in
    let none : (q : ℕ) → feeders n q ls ≡ [] = λ q. is.there n q (omega arith) in
    let fed = are_fed ls vs n 1 ins all (λ q h. none q) in
    drawn_added ds ls vs gs b is x (input_links vs n 1 ins) b (only_inputs vs n 1 ins) (λ e. (e, λ q. first q fed none))
  where
    first : (q : ℕ) → AreFed (ls ++ input_links vs (length ds + 1) 1 ins) vs (length ds + 1) 1 ins → ((q : ℕ) → feeders (length ds + 1) q ls ≡ []) → IsFed (ds ++ (x ∷ [])) (ls ++ input_links vs (length ds + 1) 1 ins) vs (length ds + 1) q
    first zero fed none = from_nothing (feeders_first (length ds + 1) 0 ls (input_links vs (length ds + 1) 1 ins) (none 0) ∙ inputs_before vs (length ds + 1) 0 1 ins (omega arith))
    first (suc q) fed none = each_fed (ds ++ (x ∷ [])) (ls ++ input_links vs (length ds + 1) 1 ins) vs (length ds + 1) 1 ins fed (suc q) (omega arith)

-- with a statement to which nothing leads yet, or only a part of a value
pub drawn_broken : (ds : List DraftParts) (ls : List Link) (vs : List (List Output)) (gs : List Gate) (b : Bool) → IsDrawn ds ls vs gs b → (x : DraftParts) (ms : List Link) → OnlyTo (length ds + 1) ms → IsDrawn (ds ++ (x ∷ [])) (ls ++ ms) vs gs true
drawn_broken ds ls vs gs b is x ms only = drawn_added ds ls vs gs b is x ms true only (λ e. cc)

-- with more values
pub drawn_values : (ds : List DraftParts) (ls : List Link) (vs ws : List (List Output)) (gs : List Gate) (b : Bool) → IsDrawn ds ls vs gs b → GoesOn vs ws → IsDrawn ds ls ws gs b
drawn_values ds ls vs ws gs b is on = record {
  there = is.there;
  fed = λ e n port. fed_kept ds ds ls ls vs ws n port (on_self ds) on refl (is.fed e n port);
  gates = λ g h. gate_kept ds ds ls ls vs ws g (on_self ds) on (λ port. refl) (is.gates g h);
}

-- what is carried in addition
pub opens_none : (cs : List Carried) → AddsOpen cs cs
opens_none cs number c is = inl is

pub opens_then : (cs ds es : List Carried) → AddsOpen cs ds → AddsOpen ds es → AddsOpen cs es
opens_then cs ds es f g number c is = elim (g number c is) [ inl i ↦ f number c i | inr q ↦ inr q ]

pub opens_one : (cs : List Carried) (x : Carried) → x.next ≡ None → AddsOpen cs (cs ++ (x ∷ []))
opens_one [] x q zero c is = inr (ap (λ (y : Carried). y.next) (some_one c x (sym is)) ∙ q)
  where
    some_one : (a b : Carried) → Some a ≡ Some b → a ≡ b
    some_one a b e = cc
opens_one [] x q (suc n) c is = absurd (cc)
opens_one (y ∷ ys) x q zero c is = inl is
opens_one (y ∷ ys) x q (suc n) c is = opens_one ys x q n c is

pub grows_self : (d : DrawingParts) → Grows d d
grows_self d = record {
  statements = on_self d.statements;
  links = on_self d.links;
  scopes = on_self d.scopes;
  values = on_self d.values;
  carried = on_self d.carried;
  opened = opens_none d.carried;
  places = on_self d.places;
  fed = λ n port h. refl;
}

pub grows_then : (a b c : DrawingParts) → Grows a b → Grows b c → Grows a c
grows_then a b c f g = record {
  statements = on_then a.statements b.statements c.statements f.statements g.statements;
  links = on_then a.links b.links c.links f.links g.links;
  scopes = on_then a.scopes b.scopes c.scopes f.scopes g.scopes;
  values = on_then a.values b.values c.values f.values g.values;
  carried = on_then a.carried b.carried c.carried f.carried g.carried;
  opened = opens_then a.carried b.carried c.carried f.opened g.opened;
  places = on_then a.places b.places c.places f.places g.places;
  fed = λ n port h. g.fed n port (omega (arith, h, on_length a.statements b.statements f.statements)) ∙ f.fed n port h;
}

-- what a statement adds to whose ports those values lead
pub adds_inputs : (d : DrawingParts) (gs : List Gate) (b : Bool) → IsDrawn d.statements d.links d.values gs b → (x : DraftParts) (at : GuardedRegionParts) (ins : List ℕ) → AreValues d.values ins → Adds d (record d { statements = d.statements ++ (x ∷ []); links = d.links ++ input_links d.values (length d.statements + 1) 1 ins; places = d.places ++ (at ∷ []) }) x.kind ins
adds_inputs d gs b is x at ins all = record {
  grows = record {
    statements = on_one d.statements x;
    links = (input_links d.values (length d.statements + 1) 1 ins, refl);
    scopes = on_self d.scopes;
    values = on_self d.values;
    carried = on_self d.carried;
    opened = opens_none d.carried;
    places = on_one d.places at;
    fed = λ n port h. feeders_none n port d.links (input_links d.values (length d.statements + 1) 1 ins) (only_inputs d.values (length d.statements + 1) 1 ins n port (λ e. omega (arith, h, e)));
  };
  one = length-append d.statements (x ∷ []);
  stands = (x, at_last d.statements x, refl);
  fed = are_fed d.links d.values (length d.statements + 1) 1 ins all (λ q h. is.there (length d.statements + 1) q (omega arith));
}

pub grows_value : (d : DrawingParts) (os : List Output) → Grows d (with_value d os)
grows_value d os = record {
  statements = on_self d.statements;
  links = on_self d.links;
  scopes = on_self d.scopes;
  values = on_one d.values os;
  carried = on_self d.carried;
  opened = opens_none d.carried;
  places = on_self d.places;
  fed = λ n port h. refl;
}

pub get_last : {A : Type 0} (xs : List A) (x : A) → slice_get (xs ++ (x ∷ [])) (length xs) ≡ Some x
get_last [] x = refl
get_last (y ∷ xs) x = get_last xs x

pub value_last : (d : DrawingParts) (os : List Output) → slice_get (with_value d os).values (length d.values) ≡ Some os
value_last d os = get_last d.values os

-- what it adds stays so while values are added
pub adds_value : (d e : DrawingParts) (kind : Kind) (ins : List ℕ) (os : List Output) → Adds d e kind ins → Adds d (with_value e os) kind ins
adds_value d e kind ins os a = record {
  grows = grows_then d e (with_value e os) a.grows (grows_value e os);
  one = a.one;
  stands = a.stands;
  fed = are_fed_kept e.links e.links e.values (e.values ++ (os ∷ [])) (length d.statements + 1) 1 ins (on_one e.values os) (λ q. refl) a.fed;
}

pub gives_value : (d e : DrawingParts) (kind : Kind) (ins : List ℕ) (n v : ℕ) (f : DrawingParts) → Adds d e kind ins → n ≡ length d.statements + 1 → v ≡ length e.values → f ≡ with_value e (output n false ∷ []) → Gives d f kind ins v
gives_value d e kind ins n v f a is at same =
    let os = output (length d.statements + 1) false ∷ [] in
    let good : Gives d (with_value e os) kind ins (length e.values) = record { adds = adds_value d e kind ins os a; value = value_last e os } in
    subst (λ (w : ℕ). Gives d f kind ins w) (sym at) (subst (λ (g : DrawingParts). Gives d g kind ins (length e.values)) (sym (same ∙ ap (λ (m : ℕ). with_value e (output m false ∷ [])) is)) good)

-- the outputs of both as one value
pub merged : (d e : DrawingParts) (left right v : ℕ) (ones others both : List Output) → slice_get d.values left ≡ Some ones → slice_get d.values right ≡ Some others → both ≡ ones ++ others → v ≡ length d.values → e ≡ with_value d both → Merges d e left right v
merged d e left right v ones others both l r b at is =
    let good : Merges d (with_value d both) left right (length d.values) = record { grows = grows_value d both; ones = ones; others = others; has_left = l; has_right = r; both = value_last d both ∙ ap Some b } in
    subst (λ (w : ℕ). Merges d e left right w) (sym at) (subst (λ (f : DrawingParts). Merges d f left right (length d.values)) (sym is) good)

-- gates, and what is carried in addition, change nothing of it
pub adds_again : (d : DrawingParts) (ds : List DraftParts) (ls : List Link) (ss : List Scope) (vs : List (List Output)) (gs hs : List Gate) (cs es : List Carried) (ps : List GuardedRegionParts) (kind : Kind) (ins : List ℕ) → Adds d (drawing ds ls ss vs gs cs ps) kind ins → (x : Carried) → x.next ≡ None → es ≡ cs ++ (x ∷ []) → Adds d (drawing ds ls ss vs hs es ps) kind ins
adds_again d ds ls ss vs gs hs cs es ps kind ins a x none more = record {
  grows = record { statements = a.grows.statements; links = a.grows.links; scopes = a.grows.scopes; values = a.grows.values; carried = on_then d.carried cs es a.grows.carried (x ∷ [], more); opened = opens_then d.carried cs es a.grows.opened (subst (λ (ys : List Carried). AddsOpen cs ys) (sym more) (opens_one cs x none)); places = a.grows.places; fed = a.grows.fed };
  one = a.one;
  stands = a.stands;
  fed = a.fed;
}

-- a value more
pub value_grows : (d e f : DrawingParts) (os : List Output) → Grows d e → f ≡ with_value e os → Grows d f
value_grows d e f os g is = subst (λ (h : DrawingParts). Grows d h) (sym is) (grows_then d e (with_value e os) g (grows_value e os))

-- what a gate sends, as a value
pub gated_value : (e f : DrawingParts) (c : Output) (on : Bool) (v n w : ℕ) → IsGate e.statements e.links e.values (a_gate c v n) → w ≡ length e.values → f ≡ with_value e (output n (not on) ∷ []) → IsGated f c on v w
gated_value e f c on v n w gate at is =
    let os = output n (not on) ∷ [] in
    let good : IsGated (with_value e os) c on v (length e.values) = record {
      switch = n;
      gate = gate_kept e.statements e.statements e.links e.links e.values (e.values ++ (os ∷ [])) (a_gate c v n) (on_self e.statements) (on_one e.values os) (λ port. refl) gate;
      sends = value_last e os;
    } in
    subst (λ (u : ℕ). IsGated f c on v u) (sym at) (subst (λ (h : DrawingParts). IsGated h c on v (length e.values)) (sym is) good)

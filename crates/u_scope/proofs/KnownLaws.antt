-- A name is known by a node whose scope has not ended.
use Rattle.std.proofs.Common.{◌≡◌, ℕ, zero, suc, ◌≤◌, Bool, true, false, cond, ◌||◌, List, [], ◌∷◌, ◌++◌, length, Option, Some, None, ◌⊎◌, inl, inr, refl, sym, ◌∙◌, ap, subst, arith}
use Rattle.u_source.specs.declared.form.Node.{Node}
use Rattle.u_source.specs.Tokens.{TokenParts}
use Rattle.u_scope.specs.declared.entry.Entry.{Entry}
use Rattle.u_scope.specs.declared.entry.Event.{Event}
use Rattle.u_scope.specs.declared.entry.Event.TheVariants.{Name, Procedure, Parameters, Parameter, Block, BlockEnd, Variables, Variable, Loop, LoopEnd, Definition, Next, Arguments, Argument, Call, Side, Other}
use Rattle.u_scope.specs.declared.finding.Found.{Found}
use Rattle.u_scope.specs.Entries.{event_of, opens, closes, stays, entry, kept, left_out, scopes_from, scopes_at}
use Rattle.u_scope.specs.Finding.{or_else, line_of, matching, matching_by, is_seen, seen_behind, known}
use Rattle.u_scope.specs.Scopes.{fewer, more, level, IsInScope}

-- an entry is among others
pub record IsAmong (e : Entry) (es : List Entry) : Type 0 where
  pub front : List Entry
  pub back : List Entry
  pub split : es ≡ front ++ e ∷ back

pub among_first : (e : Entry) (es : List Entry) → IsAmong e (e ∷ es)
among_first e es = record { front = []; back = es; split = refl }

among_more : (e d : Entry) (es : List Entry) → IsAmong e es → IsAmong e (d ∷ es)
among_more e d es h = record { front = d ∷ h.front; back = h.back; split = ap (λ t. d ∷ t) h.split }

-- the entry by which a name is known
pub record IsBy (ts : List TokenParts) (x : List ℕ) (es : List Entry) (f : Found) : Type 0 where
  pub by : Entry
  pub among : IsAmong by es
  pub gives : matching ts x by ≡ Some f

pub by_more : (ts : List TokenParts) (x : List ℕ) (d : Entry) (es : List Entry) (f : Found) → IsBy ts x es f → IsBy ts x (d ∷ es) f
by_more ts x d es f h = record { by = h.by; among = among_more h.by d es h.among; gives = h.gives }

known_here : (b : Bool) (ts : List TokenParts) (x : List ℕ) (e : Entry) (es : List Entry) (m o : Option Found) (f : Found) → matching ts x e ≡ m → or_else (cond b m None) o ≡ Some f → (o ≡ Some f → IsBy ts x es f) → IsBy ts x (e ∷ es) f
known_here false ts x e es m o f g h more = by_more ts x e es f (more h)
known_here true ts x e es None o f g h more = by_more ts x e es f (more h)
known_here true ts x e es (Some m) o f g h more = record { by = e; among = among_first e es; gives = g ∙ h }

pub known_by : (ts : List TokenParts) (x : List ℕ) (v : Bool) (es : List Entry) (f : Found) → known ts x v es ≡ Some f → IsBy ts x es f
known_by ts x v [] f h = cc
known_by ts x v (e ∷ es) f h = known_here (is_seen v e.event) ts x e es (matching ts x e) (known ts x (seen_behind v e.event) es) f refl h (λ g. known_by ts x (seen_behind v e.event) es f g)

-- an entry is that of a node behind which so many scopes have begun and not ended, d at least
pub record IsOf (e : Entry) (d : ℕ) (xs : List Node) : Type 0 where
  pub node : Node
  pub later : List Node
  pub earlier : List Node
  pub split : xs ≡ later ++ node ∷ earlier
  pub same : e ≡ entry (length earlier) node
  pub levels : ℕ
  pub lasts : level later ≡ Some levels
  pub deep : d ≤ levels

fewer_of : (o : Option ℕ) (n d : ℕ) → o ≡ Some n → suc d ≤ n → (m : ℕ) × (fewer o ≡ Some m) × (d ≤ m)
fewer_of None n d h k = cc
fewer_of (Some zero) n d h k =
    let none : zero ≡ n = cc in
    let wrong : ⊥ = omega arith in
    elim wrong [ ]
fewer_of (Some (suc m)) n d h k =
    let same : suc m ≡ n = cc in
    (m, refl, omega arith)

more_of : (o : Option ℕ) (n d : ℕ) → o ≡ Some n → d ≤ n → (m : ℕ) × (more o ≡ Some m) × (suc d ≤ m)
more_of o n d h k = (suc n, ap (λ p. more p) h, omega arith)

-- one node more behind it, where it and d more scopes have to be left out
level_more : (c o : Bool) (d n : ℕ) (p : Option ℕ) → p ≡ Some n → cond c (suc (suc d)) (cond o d (suc d)) ≤ n → (m : ℕ) × (cond c (fewer p) (cond o (more p) p) ≡ Some m) × (suc d ≤ m)
level_more true o d n p h k = fewer_of p n (suc d) h k
level_more false true d n p h k = more_of p n d h k
level_more false false d n p h k = (n, h, k)

level_last : (c o : Bool) (n : ℕ) (p : Option ℕ) → p ≡ Some n → cond c 1 0 ≤ n → (m : ℕ) × (cond c (fewer p) (cond o (more p) p) ≡ Some m) × (0 ≤ m)
level_last true o n p h k = fewer_of p n 0 h k
level_last false true n p h k = (suc n, ap (λ q. more q) h, omega arith)
level_last false false n p h k = (n, h, omega arith)

-- what holds of a node before y
of_more : (e : Entry) (d d' : ℕ) (y : Node) (ys : List Node) → ((n : ℕ) (p : Option ℕ) → p ≡ Some n → d' ≤ n → (m : ℕ) × (cond (closes (event_of y.form)) (fewer p) (cond (opens (event_of y.form)) (more p) p) ≡ Some m) × (d ≤ m)) → IsOf e d' ys → IsOf e d (y ∷ ys)
of_more e d d' y ys f h =
    let m = f h.levels (level h.later) h.lasts h.deep in
    record {
      node = h.node;
      later = y ∷ h.later;
      earlier = h.earlier;
      split = ap (λ t. y ∷ t) h.split;
      same = h.same;
      levels = m.0;
      lasts = m.1;
      deep = m.2;
    }

pub none_among : (e : Entry) (front back : List Entry) → [] ≡ front ++ e ∷ back → ⊥
none_among e [] back h = cc
none_among e (d ∷ front) back h = cc

pub among_split : (d e : Entry) (es front back : List Entry) → d ∷ es ≡ front ++ e ∷ back → (e ≡ d) ⊎ IsAmong e es
among_split d e es [] back h = inl (cc)
among_split d e es (c ∷ front) back h = let rest : es ≡ front ++ e ∷ back = cc in inr (record { front = front; back = back; split = rest })

-- the node itself
of_self : (y : Node) (ys : List Node) → IsOf (entry (length ys) y) 0 (y ∷ ys)
of_self y ys = record { node = y; later = []; earlier = ys; split = refl; same = refl; levels = 0; lasts = refl; deep = omega arith }

pass_zero : (c : Bool) (e : Entry) (y : Node) (ys : List Node) → closes (event_of y.form) ≡ c → IsOf e (cond c 1 0) ys → IsOf e 0 (y ∷ ys)
pass_zero c e y ys g h = of_more e 0 (cond c 1 0) y ys (λ n p q k. level_last (closes (event_of y.form)) (opens (event_of y.form)) n p q (subst (λ b. cond b 1 0 ≤ n) (sym g) k)) h

of_kept : (b : Bool) (e : Entry) (y : Node) (ys : List Node) → closes (event_of y.form) ≡ false → IsAmong e (cond b (entry (length ys) y ∷ scopes_from 0 ys) (scopes_from 0 ys)) → (IsAmong e (scopes_from 0 ys) → IsOf e 0 ys) → IsOf e 0 (y ∷ ys)
of_kept true e y ys g h f = elim (among_split (entry (length ys) y) e (scopes_from 0 ys) h.front h.back h.split) [
  | inl q ↦ subst (λ x. IsOf x 0 (y ∷ ys)) (sym q) (of_self y ys)
  | inr a ↦ pass_zero false e y ys g (f a)
]
of_kept false e y ys g h f = pass_zero false e y ys g (f h)

of_zero : (c : Bool) (e : Entry) (y : Node) (ys : List Node) → closes (event_of y.form) ≡ c → IsAmong e (cond c (scopes_from 1 ys) (kept (entry (length ys) y) (scopes_from 0 ys))) → (IsAmong e (scopes_from 0 ys) → IsOf e 0 ys) → (IsAmong e (scopes_from 1 ys) → IsOf e 1 ys) → IsOf e 0 (y ∷ ys)
of_zero true e y ys g h f0 f1 = pass_zero true e y ys g (f1 h)
of_zero false e y ys g h f0 f1 = of_kept (opens (event_of y.form) || stays (event_of y.form)) e y ys g h f0

-- each entry is that of such a node
of_scopes : (d : ℕ) (xs : List Node) (e : Entry) → IsAmong e (scopes_from d xs) → IsOf e d xs
of_scopes d [] e h = elim (none_among e h.front h.back h.split) [ ]
of_scopes zero (y ∷ ys) e h = of_zero (closes (event_of y.form)) e y ys refl h (λ a. of_scopes 0 ys e a) (λ a. of_scopes 1 ys e a)
of_scopes (suc k) (y ∷ ys) e h = of_more e (suc k) (left_out (event_of y.form) k) y ys (λ n p q m. level_more (closes (event_of y.form)) (opens (event_of y.form)) k n p q m) (of_scopes (left_out (event_of y.form) k) ys e h)

pub matching_is : (e : Entry) (o : Option ℕ) (f : Found) → matching_by e o ≡ Some f → (o ≡ Some f.line) × (f.number ≡ e.number)
matching_is e None f h = cc
matching_is e (Some line) f h =
    let same : record { number = e.number; token = e.token; line = line } ≡ f = cc in
    (ap (λ g. Some g.line) same, sym (ap (λ g. g.number) same))

pub by_in_scope : (ts : List TokenParts) (x : List ℕ) (xs : List Node) (f : Found) → IsBy ts x (scopes_at xs) f → IsInScope ts x xs f.number f.line
by_in_scope ts x xs f b =
    let of = of_scopes 0 xs b.by b.among in
    let is = matching_is b.by (line_of ts x b.by.event b.by.token) f b.gives in
    record {
      node = of.node;
      later = of.later;
      earlier = of.earlier;
      split = of.split;
      number = sym (is.1 ∙ ap (λ e. e.number) of.same);
      levels = of.levels;
      lasts = of.lasts;
      gives = subst (λ e. line_of ts x e.event e.token ≡ Some f.line) of.same is.0;
    }

-- a name is known by a node which gives it its meaning, and whose scope has not ended
pub known_in_scope : (ts : List TokenParts) (x : List ℕ) (v : Bool) (xs : List Node) (f : Found) → known ts x v (scopes_at xs) ≡ Some f → IsInScope ts x xs f.number f.line
known_in_scope ts x v xs f h = by_in_scope ts x xs f (known_by ts x v (scopes_at xs) f h)

-- a parameter or a definition
abbrev pub always_seen : Event → Bool
always_seen Parameter = true
always_seen Definition = true
always_seen e = false

fewer_from : (p : Option ℕ) (n : ℕ) → fewer p ≡ Some n → p ≡ Some (suc n)
fewer_from None n h = cc
fewer_from (Some zero) n h = cc
fewer_from (Some (suc m)) n h = let same : m ≡ n = cc in ap (λ i. Some (suc i)) same

more_from : (p : Option ℕ) (n : ℕ) → more p ≡ Some n → (m : ℕ) × (p ≡ Some m) × (suc m ≡ n)
more_from None n h = cc
more_from (Some m) n h = let same : suc m ≡ n = cc in (m, refl, same)

-- what is behind a node does not take it out, while no more scopes end than begin
abbrev pub Stays : Node → List Node → ℕ → List Node → Type 0
Stays x earlier d later = IsAmong (entry (length earlier) x) (scopes_from d (later ++ x ∷ earlier))

stays_last : (c o s : Bool) (x y : Node) (earlier later : List Node) (n : ℕ) (p : Option ℕ) → p ≡ level later → cond c (fewer p) (cond o (more p) p) ≡ Some n → ((d m : ℕ) → level later ≡ Some m → d ≤ m → Stays x earlier d later) → IsAmong (entry (length earlier) x) (cond c (scopes_from 1 (later ++ x ∷ earlier)) (cond (o || s) (entry (length (later ++ x ∷ earlier)) y ∷ scopes_from 0 (later ++ x ∷ earlier)) (scopes_from 0 (later ++ x ∷ earlier))))
stays_last true o s x y earlier later n p q h f = f 1 (suc n) (sym q ∙ fewer_from p n h) (omega arith)
stays_last false true s x y earlier later n p q h f =
    let m = more_from p n h in
    among_more (entry (length earlier) x) (entry (length (later ++ x ∷ earlier)) y) (scopes_from 0 (later ++ x ∷ earlier)) (f 0 m.0 (sym q ∙ m.1) (omega arith))
stays_last false false true x y earlier later n p q h f = among_more (entry (length earlier) x) (entry (length (later ++ x ∷ earlier)) y) (scopes_from 0 (later ++ x ∷ earlier)) (f 0 n (sym q ∙ h) (omega arith))
stays_last false false false x y earlier later n p q h f = f 0 n (sym q ∙ h) (omega arith)

stays_more : (c o : Bool) (x : Node) (earlier later : List Node) (k n : ℕ) (p : Option ℕ) → p ≡ level later → cond c (fewer p) (cond o (more p) p) ≡ Some n → suc k ≤ n → ((d m : ℕ) → level later ≡ Some m → d ≤ m → Stays x earlier d later) → IsAmong (entry (length earlier) x) (scopes_from (cond c (suc (suc k)) (cond o k (suc k))) (later ++ x ∷ earlier))
stays_more true o x earlier later k n p q h g f = f (suc (suc k)) (suc n) (sym q ∙ fewer_from p n h) (omega arith)
stays_more false true x earlier later k n p q h g f =
    let m = more_from p n h in
    let even : suc m.0 ≡ n = m.2 in
    f k m.0 (sym q ∙ m.1) (omega arith)
stays_more false false x earlier later k n p q h g f = f (suc k) n (sym q ∙ h) g

stays_first : (x : Node) (earlier : List Node) (d n : ℕ) → closes (event_of x.form) ≡ false → opens (event_of x.form) || stays (event_of x.form) ≡ true → Some 0 ≡ Some n → d ≤ n → IsAmong (entry (length earlier) x) (scopes_from d (x ∷ earlier))
stays_first x earlier (suc d) n c s h k =
    let none : 0 ≡ n = cc in
    let wrong : ⊥ = omega arith in
    elim wrong [ ]
stays_first x earlier zero n c s h k =
    let open_there : kept (entry (length earlier) x) (scopes_from 0 earlier) ≡ entry (length earlier) x ∷ scopes_from 0 earlier = ap (λ b. cond b (entry (length earlier) x ∷ scopes_from 0 earlier) (scopes_from 0 earlier)) s in
    let there : scopes_from 0 (x ∷ earlier) ≡ entry (length earlier) x ∷ scopes_from 0 earlier = ap (λ b. cond b (scopes_from 1 earlier) (kept (entry (length earlier) x) (scopes_from 0 earlier))) c ∙ open_there in
    record { front = []; back = scopes_from 0 earlier; split = there }

pub in_scopes : (x : Node) (earlier : List Node) (d n : ℕ) (later : List Node) → closes (event_of x.form) ≡ false → opens (event_of x.form) || stays (event_of x.form) ≡ true → level later ≡ Some n → d ≤ n → Stays x earlier d later
in_scopes x earlier d n [] c s h k = stays_first x earlier d n c s h k
in_scopes x earlier zero n (y ∷ later) c s h k = stays_last (closes (event_of y.form)) (opens (event_of y.form)) (stays (event_of y.form)) x y earlier later n (level later) refl h (λ d m l i. in_scopes x earlier d m later c s l i)
in_scopes x earlier (suc d) n (y ∷ later) c s h k = stays_more (closes (event_of y.form)) (opens (event_of y.form)) x earlier later d n (level later) refl h k (λ e m l i. in_scopes x earlier e m later c s l i)

or_else_none : (b : Bool) (m o : Option Found) → or_else (cond b m None) o ≡ None → o ≡ None
or_else_none false m o h = h
or_else_none true None o h = h
or_else_none true (Some f) o h = cc

found_then : (b : Bool) (m o : Option Found) (f : Found) → b ≡ true → m ≡ Some f → or_else (cond b m None) o ≡ None → ⊥
found_then true None o f b h g = cc
found_then true (Some m) o f b h g = cc
found_then false m o f b h g = cc

not_missed : (ts : List TokenParts) (x : List ℕ) (v : Bool) (e : Entry) (front back : List Entry) (f : Found) → ((w : Bool) → is_seen w e.event ≡ true) → matching ts x e ≡ Some f → known ts x v (front ++ e ∷ back) ≡ None → ⊥
not_missed ts x v e [] back f s m h = found_then (is_seen v e.event) (matching ts x e) (known ts x (seen_behind v e.event) back) f (s v) m h
not_missed ts x v e (d ∷ front) back f s m h = not_missed ts x (seen_behind v d.event) e front back f s m (or_else_none (is_seen v d.event) (matching ts x d) (known ts x (seen_behind v d.event) (front ++ e ∷ back)) h)

seen_always : (e : Event) → always_seen e ≡ true → (w : Bool) → is_seen w e ≡ true
seen_always Parameter h w = refl
seen_always Definition h w = refl
seen_always Name h w = cc
seen_always Procedure h w = cc
seen_always Parameters h w = cc
seen_always Block h w = cc
seen_always BlockEnd h w = cc
seen_always Variables h w = cc
seen_always Variable h w = cc
seen_always Loop h w = cc
seen_always LoopEnd h w = cc
seen_always Next h w = cc
seen_always Arguments h w = cc
seen_always Argument h w = cc
seen_always Call h w = cc
seen_always Side h w = cc
seen_always Other h w = cc

stays_always : (e : Event) → always_seen e ≡ true → (closes e ≡ false) × (opens e || stays e ≡ true)
stays_always Parameter h = (refl, refl)
stays_always Definition h = (refl, refl)
stays_always Name h = cc
stays_always Procedure h = cc
stays_always Parameters h = cc
stays_always Block h = cc
stays_always BlockEnd h = cc
stays_always Variables h = cc
stays_always Variable h = cc
stays_always Loop h = cc
stays_always LoopEnd h = cc
stays_always Next h = cc
stays_always Arguments h = cc
stays_always Argument h = cc
stays_always Call h = cc
stays_always Side h = cc
stays_always Other h = cc

-- where a parameter or a definition of a name is in scope, the name is known
pub in_scope_known : (ts : List TokenParts) (x : List ℕ) (v : Bool) (xs : List Node) (k line : ℕ) (h : IsInScope ts x xs k line) → always_seen (event_of h.node.form) ≡ true → known ts x v (scopes_at xs) ≡ None → ⊥
in_scope_known ts x v xs k line h a n =
    let kinds = stays_always (event_of h.node.form) a in
    let among = in_scopes h.node h.earlier 0 h.levels h.later kinds.0 kinds.1 h.lasts (omega arith) in
    let here : scopes_at xs ≡ among.front ++ entry (length h.earlier) h.node ∷ among.back = ap (λ t. scopes_at t) h.split ∙ among.split in
    let gives : matching ts x (entry (length h.earlier) h.node) ≡ Some (record { number = length h.earlier; token = h.node.token; line = line }) = ap (λ o. matching_by (entry (length h.earlier) h.node) o) h.gives in
    not_missed ts x v (entry (length h.earlier) h.node) among.front among.back (record { number = length h.earlier; token = h.node.token; line = line }) (seen_always (event_of h.node.form) a) gives (subst (λ es. known ts x v es ≡ None) here n)

-- A graph whose statements and links lie well does so with one `pass` more.
use Rattle.std.proofs.Common.{◌≡◌, ℕ, zero, suc, ◌+◌, ◌*◌, ◌<◌, ◌≤◌, ◌⊎◌, inl, inr, refl, sym, ap, ◌∙◌, subst, arith, Bool, true, false, not, cond, ◌==◌, List, [], ◌∷◌, ◌++◌, length, take, drop, Some}
use Rattle.std.specs.Prelude.{slice_get}
use Rattle.std.proofs.lemmas.Bool.{false≢true, cond-true, cond-false, eq-eqb, ne_eqb}
use Rattle.u_program.specs.declared.program.Kind.{Kind}
use Rattle.u_program.specs.declared.program.Kind.TheVariants.{Pass, Switch, Enter, Next, Last, Leave, Back, End}
use Rattle.u_program.specs.declared.program.Destination.{Destination}
use Rattle.u_check.specs.Kinds.{comes_from_outside, back_named}
use Rattle.u_determinate.specs.Arcs.{destination}
use Rattle.u_compile.specs.declared.graph.Link.{Link}
use Rattle.u_compile.specs.declared.graph.Output.{Output}
use Rattle.u_compile.specs.Drafts.{DraftParts}
use Rattle.u_compile.specs.Graphs.{GraphParts, output, link, same_output, destinations, draft_at, is_next, enters, IsGraph}
use Rattle.u_compile.specs.Fanning.{region_behind, moved, with_pass}
use Rattle.u_compile.specs.Scoped.{guard, GuardedRegionParts, place, IsOf, Layout, sent_by, Ends, GoesWell, AreApart, OnlyFrom, HandsOn, it, pass, IsControlled, IsCalled, IsScoped}
use Rattle.u_compile.proofs.Numbers.{at_within, at_more, at_cases, at_last}
use Rattle.u_compile.proofs.Links.{none_from, same_is, same_not}
use Rattle.u_compile.proofs.Moves.{from_behind, moved_stay, moved_come}
use Rattle.u_compile.proofs.Fans.{pass_of}
use Rattle.u_compile.proofs.ArcLaws.{link_at, place_of, one_place}
use Rattle.u_compile.proofs.GuardLaws.{one_draft}

-- one of two lists put together is one of one of them
pub of_either : {A : Type 0} (xs ys : List A) (x : A) → IsOf (xs ++ ys) x → IsOf xs x ⊎ IsOf ys x
of_either [] ys x is = inr is
of_either (z ∷ xs) ys x (inl e) = inl (inl e)
of_either (z ∷ xs) ys x (inr is) = elim (of_either xs ys x is) [ inl l ↦ inl (inr l) | inr r ↦ inr r ]

-- a link that is there when some moved was there, or moved
abbrev pub Moved : Output → ℕ → List Link → Link → Type 0
Moved o b ls m = (l : Link) × IsOf ls l × (l.from ≡ o) × (from_behind b l ≡ m)

of_more : (o : Output) (b : ℕ) (x : Link) (ls : List Link) (m : Link) → IsOf ls m ⊎ Moved o b ls m → IsOf (x ∷ ls) m ⊎ Moved o b (x ∷ ls) m
of_more o b x ls m (inl is) = inl (inr is)
of_more o b x ls m (inr w) = inr (w.0, inr w.1, w.2, w.3)

pub of_moved : (o : Output) (k b : ℕ) (ls : List Link) (m : Link) → IsOf (moved o k b ls) m → IsOf ls m ⊎ Moved o b ls m
of_moved o zero b [] m is = absurd is
of_moved o (suc k) b [] m is = absurd is
of_moved o zero b (x ∷ ls) m is = by (same_output o x.from) refl is (of_moved o zero b ls m)
  where
    by : (t : Bool) → same_output o x.from ≡ t → IsOf (cond t (from_behind b x ∷ moved o 0 b ls) (x ∷ moved o 0 b ls)) m → (IsOf (moved o 0 b ls) m → IsOf ls m ⊎ Moved o b ls m) → IsOf (x ∷ ls) m ⊎ Moved o b (x ∷ ls) m
    by true e (inl q) rec = inr (x, inl refl, sym (same_is o x.from e), q)
    by true e (inr w) rec = of_more o b x ls m (rec w)
    by false e (inl q) rec = inl (inl q)
    by false e (inr w) rec = of_more o b x ls m (rec w)
of_moved o (suc k) b (x ∷ ls) m is = by (same_output o x.from) is (of_moved o k b ls m) (of_moved o (suc k) b ls m)
  where
    by : (t : Bool) → IsOf (cond t (x ∷ moved o k b ls) (x ∷ moved o (suc k) b ls)) m → (IsOf (moved o k b ls) m → IsOf ls m ⊎ Moved o b ls m) → (IsOf (moved o (suc k) b ls) m → IsOf ls m ⊎ Moved o b ls m) → IsOf (x ∷ ls) m ⊎ Moved o b (x ∷ ls) m
    by true (inl q) one two = inl (inl q)
    by true (inr w) one two = of_more o b x ls m (one w)
    by false (inl q) one two = inl (inl q)
    by false (inr w) one two = of_more o b x ls m (two w)

-- a link stays or moves
pub stays_or_moves : (o : Output) (k b : ℕ) (ls : List Link) (l : Link) → IsOf ls l → IsOf (moved o k b ls) l ⊎ ((l.from ≡ o) × IsOf (moved o k b ls) (from_behind b l))
stays_or_moves o k b [] l is = absurd is
stays_or_moves o zero b (x ∷ ls) l is = by (same_output o x.from) refl is (stays_or_moves o zero b ls l)
  where
    by : (t : Bool) → same_output o x.from ≡ t → (x ≡ l) ⊎ IsOf ls l → (IsOf ls l → IsOf (moved o 0 b ls) l ⊎ ((l.from ≡ o) × IsOf (moved o 0 b ls) (from_behind b l))) → IsOf (cond t (from_behind b x ∷ moved o 0 b ls) (x ∷ moved o 0 b ls)) l ⊎ ((l.from ≡ o) × IsOf (cond t (from_behind b x ∷ moved o 0 b ls) (x ∷ moved o 0 b ls)) (from_behind b l))
    by true e (inl q) rec = inr (ap (λ (v : Link). v.from) (sym q) ∙ sym (same_is o x.from e), inl (ap (from_behind b) q))
    by true e (inr i) rec = elim (rec i) [ inl j ↦ inl (inr j) | inr w ↦ inr (w.0, inr w.1) ]
    by false e (inl q) rec = inl (inl q)
    by false e (inr i) rec = elim (rec i) [ inl j ↦ inl (inr j) | inr w ↦ inr (w.0, inr w.1) ]
stays_or_moves o (suc k) b (x ∷ ls) l is = by (same_output o x.from) is (stays_or_moves o k b ls l) (stays_or_moves o (suc k) b ls l)
  where
    by : (t : Bool) → (x ≡ l) ⊎ IsOf ls l → (IsOf ls l → IsOf (moved o k b ls) l ⊎ ((l.from ≡ o) × IsOf (moved o k b ls) (from_behind b l))) → (IsOf ls l → IsOf (moved o (suc k) b ls) l ⊎ ((l.from ≡ o) × IsOf (moved o (suc k) b ls) (from_behind b l))) → IsOf (cond t (x ∷ moved o k b ls) (x ∷ moved o (suc k) b ls)) l ⊎ ((l.from ≡ o) × IsOf (cond t (x ∷ moved o k b ls) (x ∷ moved o (suc k) b ls)) (from_behind b l))
    by true (inl q) one two = inl (inl q)
    by true (inr i) one two = elim (one i) [ inl j ↦ inl (inr j) | inr w ↦ inr (w.0, inr w.1) ]
    by false (inl q) one two = inl (inl q)
    by false (inr i) one two = elim (two i) [ inl j ↦ inl (inr j) | inr w ↦ inr (w.0, inr w.1) ]

pub of_left : {A : Type 0} (xs ys : List A) (x : A) → IsOf xs x → IsOf (xs ++ ys) x
of_left [] ys x is = absurd is
of_left (z ∷ xs) ys x (inl e) = inl e
of_left (z ∷ xs) ys x (inr is) = inr (of_left xs ys x is)

pub of_right : {A : Type 0} (xs ys : List A) (x : A) → IsOf ys x → IsOf (xs ++ ys) x
of_right [] ys x is = is
of_right (z ∷ xs) ys x is = inr (of_right xs ys x is)

get_take : (k i : ℕ) (ds : List Destination) (d : Destination) → slice_get (take k ds) i ≡ Some d → (i < k) × (slice_get ds i ≡ Some d)
get_take zero i ds d e = cc
get_take (suc k) i [] d e = cc
get_take (suc k) zero (x ∷ ds) d e = (omega arith, e)
get_take (suc k) (suc i) (x ∷ ds) d e = let r = get_take k i ds d e in let l = r.0 in (omega (arith, l), r.1)

get_drop : (k i : ℕ) (ds : List Destination) (d : Destination) → slice_get (drop k ds) i ≡ Some d → slice_get ds (k + i) ≡ Some d
get_drop zero i ds d e = let q : i ≡ 0 + i = omega arith in subst (λ (j : ℕ). slice_get ds j ≡ Some d) q e
get_drop (suc k) i [] d e = cc
get_drop (suc k) i (x ∷ ds) d e = let q : suc (k + i) ≡ suc k + i = omega arith in subst (λ (j : ℕ). slice_get (x ∷ ds) j ≡ Some d) q (get_drop k i ds d e)

-- the layout with one `pass` more, behind that output of that statement
abbrev pub fanned_layout : Layout → Output → DraftParts → ℕ → Layout
fanned_layout y o d p = record {
  at = λ n. cond (n == p) (sent_by y o.statement o.on_false d.region d.kind) (y.at n);
  around = y.around;
  control = y.control;
  test = y.test;
  order = λ n. cond (n == p) (2 * y.order o.statement + 1) (2 * y.order n);
}

sent_alike : (x y : Layout) (n region : ℕ) (side : Bool) (k : Kind) → ((l : ℕ) → x.around l ≡ y.around l) → ((l : ℕ) → x.control l ≡ y.control l) → x.at n ≡ y.at n → sent_by x n side region k ≡ sent_by y n side region k
sent_alike x y n region side Switch around control e = ap (λ (v : GuardedRegionParts). place v.region (guard (x.control n) (not side) ∷ v.guards)) e ∙ ap (λ (c : ℕ). place (y.at n).region (guard c (not side) ∷ (y.at n).guards)) (control n)
sent_alike x y n region side (Enter l) around control e = refl
sent_alike x y n region side Last around control e = ap (λ (v : GuardedRegionParts). place v.region []) e
sent_alike x y n region side Leave around control e = around region
sent_alike x y n region side k around control e = e

-- what is sent arrives in the region behind the statement
arrives : (y : Layout) (g : GraphParts) (s : IsScoped y g) (n : ℕ) (side : Bool) (d : DraftParts) → draft_at g.statements n ≡ Some d → region_behind g.loops d.region d.kind ≡ (sent_by y n side d.region d.kind).region
arrives y g s n side d at = by d.kind
  where
    by : (k : Kind) → region_behind g.loops d.region k ≡ (sent_by y n side d.region k).region
    by Switch = s.region n d at
    by (Enter l) = refl
    by Last = s.region n d at
    by Leave = sym (s.held d.region)
    by k = s.region n d at

module _ (y : Layout) (g : GraphParts) (is : IsGraph g) (s : IsScoped y g) (o : Output) (d : DraftParts) (at : draft_at g.statements o.statement ≡ Some d) (many : 16 < length (destinations o g.links)) where
  -- the number of the `pass`
  abbrev p : ℕ
  p = length g.statements + 1

  abbrev new : DraftParts
  new = pass_of d g

  abbrev drafts : List DraftParts
  drafts = g.statements ++ (new ∷ [])

  abbrev links : List Link
  links = moved o 15 p g.links ++ (link o p 1 ∷ [])

  abbrev z : Layout
  z = fanned_layout y o d p

  not_p : (n : ℕ) → n ≤ length g.statements → n ≡ p → ⊥
  not_p n w e = omega (arith, w, e)

  at_old : (n : ℕ) → n ≤ length g.statements → z.at n ≡ y.at n
  at_old n w = cond-false (n == p) (sent_by y o.statement o.on_false d.region d.kind) (y.at n) (ne_eqb n p (not_p n w))

  order_old : (n : ℕ) → n ≤ length g.statements → z.order n ≡ 2 * y.order n
  order_old n w = cond-false (n == p) (2 * y.order o.statement + 1) (2 * y.order n) (ne_eqb n p (not_p n w))

  at_new : z.at p ≡ sent_by y o.statement o.on_false d.region d.kind
  at_new = cond-true (p == p) (sent_by y o.statement o.on_false d.region d.kind) (y.at p) (eq-eqb p p refl)

  order_new : z.order p ≡ 2 * y.order o.statement + 1
  order_new = cond-true (p == p) (2 * y.order o.statement + 1) (2 * y.order p) (eq-eqb p p refl)

  within : (n : ℕ) (e : DraftParts) → draft_at g.statements n ≡ Some e → n ≤ length g.statements
  within n e h = (at_within g.statements n e h).1

  here : o.statement ≤ length g.statements
  here = within o.statement d at

  sent_old : (n region : ℕ) (side : Bool) (k : Kind) → n ≤ length g.statements → sent_by z n side region k ≡ sent_by y n side region k
  sent_old n region side k w = sent_alike z y n region side k (λ l. refl) (λ l. refl) (at_old n w)

  other : same_output o (output p false) ≡ false
  other = same_not o (output p false) (λ e. not_p o.statement here e)

  -- a link of the new graph: it was there, or it moved, or it leads to the `pass`
  data Came (m : Link) : Type 0 where
    kept : IsOf (moved o 15 p g.links) m → IsOf g.links m → Came m
    moves : IsOf (moved o 15 p g.links) m → (l : Link) → IsOf g.links l → l.from ≡ o → from_behind p l ≡ m → Came m
    leads : link o p 1 ≡ m → Came m

  came : (m : Link) → IsOf links m → Came m
  came m h = elim (of_either (moved o 15 p g.links) (link o p 1 ∷ []) m h) [
    | inl i ↦ elim (of_moved o 15 p g.links m i) [ inl j ↦ kept i j | inr w ↦ moves i w.0 w.1 w.2 w.3 ]
    | inr i ↦ elim i [ inl e ↦ leads e | inr e ↦ absurd e ]
  ]

  -- what stands at the ends of a link that stays or moves, and where it sends
  record Follows (l m : Link) (e : Ends g.statements l) : Type 0 where
    ends : Ends drafts m
    sent : sent_by z m.from.statement m.from.on_false ends.from.region ends.from.kind ≡ sent_by y l.from.statement l.from.on_false e.from.region e.from.kind
    same_to : ends.to ≡ e.to
    leads_there : m.to ≡ l.to
    not_next : is_next e.from.kind ≡ false → is_next ends.from.kind ≡ false

  stays_follows : (l : Link) (e : Ends g.statements l) → Follows l l e
  stays_follows l e = record {
    ends = record { from = e.from; sends = at_more g.statements new l.from.statement e.from e.sends; to = e.to; takes = at_more g.statements new l.to.statement e.to e.takes };
    sent = sent_old l.from.statement e.from.region l.from.on_false e.from.kind (within l.from.statement e.from e.sends);
    same_to = refl;
    leads_there = refl;
    not_next = λ h. h;
  }

  moves_follows : (l : Link) (e : Ends g.statements l) → l.from ≡ o → Follows l (from_behind p l) e
  moves_follows l e q =
      let r : draft_at g.statements l.from.statement ≡ Some d = ap (λ (f : Output). draft_at g.statements f.statement) q ∙ at in
      let same = one_draft g.statements l.from.statement e.from d e.sends r in
      record {
        ends = record { from = new; sends = at_last g.statements new; to = e.to; takes = at_more g.statements new l.to.statement e.to e.takes };
        sent = at_new ∙ (ap (λ (f : Output). sent_by y f.statement f.on_false d.region d.kind) (sym q) ∙ ap (λ (v : DraftParts). sent_by y l.from.statement l.from.on_false v.region v.kind) (sym same));
        same_to = refl;
        leads_there = refl;
        not_next = λ h. refl;
      }

  goes : (l m : Link) (w : GoesWell y g.statements l) → Follows l m w.ends → ((y.order l.from.statement < y.order l.to.statement) → z.order m.from.statement < z.order m.to.statement) → GoesWell z drafts m
  goes l m w f order =
      let to : m.to.statement ≡ l.to.statement = ap (λ (t : Destination). t.statement) f.leads_there in
      let low = within l.to.statement w.ends.to w.ends.takes in
      let place_is : z.at m.to.statement ≡ y.at l.to.statement = ap z.at to ∙ at_old l.to.statement low in
      record {
        ends = f.ends;
        other = f.not_next w.other;
        outside = ap (λ (v : DraftParts). comes_from_outside v.kind) f.same_to ∙ w.outside;
        region = ap (λ (v : GuardedRegionParts). v.region) f.sent ∙ (w.region ∙ ap (λ (v : GuardedRegionParts). v.region) (sym place_is));
        guards = λ x has.
            subst (λ (v : GuardedRegionParts). IsOf v.guards x) (sym f.sent) (w.guards x (subst (λ (v : GuardedRegionParts). IsOf v.guards x) place_is has));
        earlier = elim w.earlier [
          | inl e ↦ inl (ap (λ (v : GuardedRegionParts). v.guards) f.sent ∙ e)
          | inr b ↦ inr (order b)
        ];
      }

  -- a link from the output that has too many
  some_link : (l : Link) × IsOf g.links l × (l.from ≡ o)
  some_link = by (destinations o g.links) refl
    where
      by : (ds : List Destination) → destinations o g.links ≡ ds → (l : Link) × IsOf g.links l × (l.from ≡ o)
      by [] e = absurd (omega (arith, many, ap (λ (v : List Destination). length v) e))
      by (x ∷ ds) e = let w = link_at o g.links x 0 (ap (λ (v : List Destination). slice_get v 0) e) in (w.0, w.1, w.2)

  from_ends : (l : Link) (w : GoesWell y g.statements l) → l.from ≡ o → w.ends.from ≡ d
  from_ends l w q =
      let r : draft_at g.statements l.from.statement ≡ Some d = ap (λ (f : Output). draft_at g.statements f.statement) q ∙ at in
      one_draft g.statements l.from.statement w.ends.from d w.ends.sends r

  d_no_next : is_next d.kind ≡ false
  d_no_next = let w = s.links some_link.0 some_link.1 in ap (λ (v : DraftParts). is_next v.kind) (sym (from_ends some_link.0 w some_link.2)) ∙ w.other

  leads_well : GoesWell z drafts (link o p 1)
  leads_well =
      let sent = sent_old o.statement d.region o.on_false d.kind here in
      let before = order_old o.statement here in
      let behind = order_new in
      record {
        ends = record { from = d; sends = at_more g.statements new o.statement d at; to = new; takes = at_last g.statements new };
        other = d_no_next;
        outside = refl;
        region = ap (λ (v : GuardedRegionParts). v.region) (sent ∙ sym at_new);
        guards = λ x has. subst (λ (v : GuardedRegionParts). IsOf v.guards x) (at_new ∙ sym sent) has;
        earlier = inr (omega (arith, before, behind));
      }

  pub links_well : (m : Link) → IsOf links m → GoesWell z drafts m
  links_well m h = elim (came m h) [
    | kept k i ↦
        let w = s.links m i in
        let a = order_old m.from.statement (within m.from.statement w.ends.from w.ends.sends) in
        let b = order_old m.to.statement (within m.to.statement w.ends.to w.ends.takes) in
        goes m m w (stays_follows m w.ends) (λ o. omega (arith, a, b, o))
    | moves k l i q e ↦
        let w = s.links l i in
        let b = order_old l.to.statement (within l.to.statement w.ends.to w.ends.takes) in
        let a = order_new in
        let c = ap (λ (f : Output). y.order f.statement) q in
        subst (λ (v : Link). GoesWell z drafts v) e (goes l (from_behind p l) w (moves_follows l w.ends q) (λ o. omega (arith, a, b, c, o)))
    | leads e ↦ subst (λ (v : Link). GoesWell z drafts v) e leads_well
  ]

  dests : List Destination
  dests = destinations o g.links

  -- a link from the output that stays is one of the first 15, and one that moves is none of these
  split : (m : Link) (l : Link) → IsOf (moved o 15 p g.links) m → m.from ≡ o → IsOf (moved o 15 p g.links) l → l.from ≡ output p false → m.to ≡ l.to → ⊥
  split m l hm qm hl ql e =
      let none = none_from g.statements g.links (output p false) is.links (omega arith) in
      let a = place_of (moved o 15 p g.links) m hm in
      let b = place_of (moved o 15 p g.links) l hl in
      let fa : slice_get (take 15 (destinations o g.links)) a.0 ≡ Some m.to =
      ap (λ (v : List Destination). slice_get v a.0) (sym (moved_stay o 15 p g.links other)) ∙ (ap (λ (f : Output). slice_get (destinations f (moved o 15 p g.links)) a.0) (sym qm) ∙ a.1) in
      let fb : slice_get (drop 15 (destinations o g.links)) b.0 ≡ Some l.to =
      ap (λ (v : List Destination). slice_get v b.0) (sym (moved_come o 15 p g.links none)) ∙ (ap (λ (f : Output). slice_get (destinations f (moved o 15 p g.links)) b.0) (sym ql) ∙ b.1) in
      let ta = get_take 15 a.0 (destinations o g.links) m.to fa in
      let tb = get_drop 15 b.0 (destinations o g.links) l.to fb in
      let i = ta.0 in
      let k = one_place (destinations o g.links) 0 a.0 (15 + b.0) l.to (is.sorted o) (ta.1 ∙ ap (λ (t : Destination). Some t) e) tb in
      omega (arith, i, k)

  apart_follows : (l m l' m' : Link) (w : AreApart y g.statements l m) → Follows l l' w.ends → Follows m m' w.other → AreApart z drafts l' m'
  apart_follows l m l' m' w f h = record {
    ends = f.ends;
    other = h.ends;
    control = w.control;
    value = w.value;
    one = subst (λ (v : GuardedRegionParts). IsOf v.guards (guard w.control w.value)) (sym f.sent) w.one;
    two = subst (λ (v : GuardedRegionParts). IsOf v.guards (guard w.control (not w.value))) (sym h.sent) w.two;
  }

  to_old : (l : Link) → IsOf g.links l → l.to.statement ≤ length g.statements
  to_old l i = let w = s.links l i in within l.to.statement w.ends.to w.ends.takes

  not_there : (l : Link) → IsOf g.links l → l.to.statement ≡ p → ⊥
  not_there l i e = not_p l.to.statement (to_old l i) e

  -- two links to one port come from one output or are apart
  pairs : (m n : Link) → Came m → Came n → m.to ≡ n.to → (m.from ≡ n.from) ⊎ AreApart z drafts m n
  pairs m n (kept hm i) (kept hn j) e = elim (s.ports m n i j e) [
    | inl same ↦ inl same
    | inr w ↦ inr (apart_follows m n m n w (stays_follows m w.ends) (stays_follows n w.other))
  ]
  pairs m n (kept hm i) (moves hn l j q r) e =
      let t : l.to ≡ n.to = ap (λ (v : Link). v.to) r in
      let f : output p false ≡ n.from = ap (λ (v : Link). v.from) r in
      elim (s.ports m l i j (e ∙ sym t)) [
        | inl same ↦ absurd (split m n hm (same ∙ q) hn (sym f) e)
        | inr w ↦ inr (subst (λ (v : Link). AreApart z drafts m v) r (apart_follows m l m (from_behind p l) w (stays_follows m w.ends) (moves_follows l w.other q)))
      ]
  pairs m n (moves hm l i q r) (kept hn j) e =
      let t : l.to ≡ m.to = ap (λ (v : Link). v.to) r in
      let f : output p false ≡ m.from = ap (λ (v : Link). v.from) r in
      elim (s.ports l n i j (t ∙ e)) [
        | inl same ↦ absurd (split n m hn (sym same ∙ q) hm (sym f) (sym e))
        | inr w ↦ inr (subst (λ (v : Link). AreApart z drafts v n) r (apart_follows l n (from_behind p l) n w (moves_follows l w.ends q) (stays_follows n w.other)))
      ]
  pairs m n (moves hm l i q r) (moves hn k j u v) e = inl (sym (ap (λ (w : Link). w.from) r) ∙ ap (λ (w : Link). w.from) v)
  pairs m n (leads r) (leads v) e = inl (sym (ap (λ (w : Link). w.from) r) ∙ ap (λ (w : Link). w.from) v)
  pairs m n (leads r) (kept hn j) e = absurd (not_there n j (ap (λ (t : Destination). t.statement) (sym e) ∙ sym (ap (λ (w : Link). w.to.statement) r)))
  pairs m n (leads r) (moves hn k j u v) e = absurd (not_there k j (ap (λ (w : Link). w.to.statement) v ∙ (ap (λ (t : Destination). t.statement) (sym e) ∙ sym (ap (λ (w : Link). w.to.statement) r))))
  pairs m n (kept hm i) (leads v) e = absurd (not_there m i (ap (λ (t : Destination). t.statement) e ∙ sym (ap (λ (w : Link). w.to.statement) v)))
  pairs m n (moves hm l i q r) (leads v) e = absurd (not_there l i (ap (λ (w : Link). w.to.statement) r ∙ (ap (λ (t : Destination). t.statement) e ∙ sym (ap (λ (w : Link). w.to.statement) v))))

  -- the `pass` takes what the output sends, and nothing else
  only_pass : OnlyFrom links o p 1
  only_pass = record {
    link = link o p 1;
    is = of_right (moved o 15 p g.links) (link o p 1 ∷ []) (link o p 1) (inl refl);
    from = refl;
    statement = refl;
    port = refl;
    only = λ m h q r. elim (came m h) [
      | kept k i ↦ absurd (not_there m i q)
      | moves k l i f e ↦ absurd (not_there l i (ap (λ (v : Link). v.to.statement) e ∙ q))
      | leads e ↦ ap (λ (v : Link). v.from) (sym e)
    ];
  }

  -- an output that alone leads to a port does so, or the `pass` does
  only_still : (f : Output) (n port : ℕ) → n ≤ length g.statements → OnlyFrom g.links f n port → OnlyFrom links f n port ⊎ ((f ≡ o) × OnlyFrom links (output p false) n port)
  only_still f n port low w = elim (stays_or_moves o 15 p g.links w.link w.is) [
    | inl stays ↦ inl (record {
      link = w.link;
      is = of_left (moved o 15 p g.links) (link o p 1 ∷ []) w.link stays;
      from = w.from;
      statement = w.statement;
      port = w.port;
      only = λ m h q r. elim (came m h) [
        | kept k i ↦ w.only m i q r
        | moves k l i u e ↦
            let at_l = ap (λ (v : Link). v.to.statement) e ∙ q in
            let port_l = ap (λ (v : Link). v.to.port) e ∙ r in
            let lf = w.only l i at_l port_l in
            let same : w.link.to ≡ m.to = same_to w.link.to m.to (w.statement ∙ sym q) (w.port ∙ sym r) in
            absurd (split w.link m stays (w.from ∙ (sym lf ∙ u)) k (ap (λ (v : Link). v.from) (sym e)) same)
        | leads e ↦ absurd (not_p n low (sym q ∙ ap (λ (v : Link). v.to.statement) (sym e)))
      ];
    })
    | inr gone ↦ inr (
      sym w.from ∙ gone.0,
      record {
        link = from_behind p w.link;
        is = of_left (moved o 15 p g.links) (link o p 1 ∷ []) (from_behind p w.link) gone.1;
        from = refl;
        statement = w.statement;
        port = w.port;
        only = λ m h q r. elim (came m h) [
          | kept k i ↦
              let mf = w.only m i q r in
              let same : m.to ≡ w.link.to = same_to m.to w.link.to (q ∙ sym w.statement) (r ∙ sym w.port) in
              absurd (split m (from_behind p w.link) k (mf ∙ (sym w.from ∙ gone.0)) gone.1 refl same)
          | moves k l i u e ↦ ap (λ (v : Link). v.from) (sym e)
          | leads e ↦ absurd (not_p n low (sym q ∙ ap (λ (v : Link). v.to.statement) (sym e)))
        ];
      },
    )
  ]
    where
      same_to : (t u : Destination) → t.statement ≡ u.statement → t.port ≡ u.port → t ≡ u
      same_to t u e f = let q : destination t.statement t.port ≡ destination u.statement u.port = cc in q

  fan : GraphParts
  fan = with_pass o d g

  behind_pass : (c : ℕ) (e : DraftParts) → draft_at g.statements o.statement ≡ Some e → is_next e.kind ≡ false → enters e.kind ≡ false → HandsOn (with_pass o d g) c o.statement → HandsOn (with_pass o d g) c p
  behind_pass c e at_e plain alone h = pass p o new e (at_last g.statements new) refl (at_more g.statements new o.statement e at_e) plain alone only_pass h

  -- what hands on the value of a control still does
  hands : (c n : ℕ) → HandsOn g c n → HandsOn (with_pass o d g) c n
  hands c n it = it
  hands c n (pass m f e b at_e kind at_b plain alone only h) = elim (only_still f n 1 (within n e at_e) only) [
    | inl w ↦ pass n f e b (at_more g.statements new n e at_e) kind (at_more g.statements new f.statement b at_b) plain alone w (hands c f.statement h)
    | inr w ↦
        let r : HandsOn (with_pass o d g) c o.statement = subst (λ (v : Output). HandsOn (with_pass o d g) c v.statement) w.0 (hands c f.statement h) in
        pass n (output p false) e new (at_more g.statements new n e at_e) kind (at_last g.statements new) refl refl w.1 (behind_pass c b (ap (λ (v : Output). draft_at g.statements v.statement) (sym w.0) ∙ at_b) plain alone r)
  ]

  controlled : (n : ℕ) (e : DraftParts) → draft_at g.statements n ≡ Some e → IsControlled y g n → IsControlled z (with_pass o d g) n
  controlled n e at_e w = elim (only_still w.from n 2 (within n e at_e) w.only) [
    | inl v ↦ record {
      from = w.from;
      by = w.by;
      stands = at_more g.statements new w.from.statement w.by w.stands;
      other = w.other;
      alone = w.alone;
      only = v;
      source = hands (y.control n) w.from.statement w.source;
    }
    | inr v ↦
        let r : HandsOn (with_pass o d g) (y.control n) o.statement = subst (λ (f : Output). HandsOn (with_pass o d g) (y.control n) f.statement) v.0 (hands (y.control n) w.from.statement w.source) in
        record {
          from = output p false;
          by = new;
          stands = at_last g.statements new;
          other = refl;
          alone = refl;
          only = v.1;
          source = behind_pass (y.control n) w.by (ap (λ (f : Output). draft_at g.statements f.statement) (sym v.0) ∙ w.stands) w.other w.alone r;
        }
  ]

  -- a statement of the new graph: it was there, or is the `pass`
  old_or_new : (n : ℕ) (e : DraftParts) → draft_at drafts n ≡ Some e → (draft_at g.statements n ≡ Some e) ⊎ ((n ≡ p) × (e ≡ new))
  old_or_new n e h = at_cases g.statements new n e h

  -- of another kind than `pass` it was there
  was_there : (n : ℕ) (e : DraftParts) → draft_at drafts n ≡ Some e → (e.kind ≡ Pass → ⊥) → draft_at g.statements n ≡ Some e
  was_there n e h k = elim (old_or_new n e h) [ inl w ↦ w | inr w ↦ absurd (k (ap (λ (v : DraftParts). v.kind) w.1)) ]

  region_is : (n : ℕ) (e : DraftParts) → draft_at drafts n ≡ Some e → e.region ≡ (z.at n).region
  region_is n e h = elim (old_or_new n e h) [
    | inl w ↦ s.region n e w ∙ ap (λ (v : GuardedRegionParts). v.region) (sym (at_old n (within n e w)))
    | inr w ↦ ap (λ (v : DraftParts). v.region) w.1 ∙ (arrives y g s o.statement o.on_false d at ∙ (ap (λ (v : GuardedRegionParts). v.region) (sym at_new) ∙ ap (λ (m : ℕ). (z.at m).region) (sym w.0)))
  ]

  -- statements of other kinds than `pass` were there
  not_pass : (k : Kind) (e : DraftParts) → e.kind ≡ k → (k ≡ Pass → ⊥) → e.kind ≡ Pass → ⊥
  not_pass k e q plain r = plain (sym q ∙ r)

  not_outside : (e : DraftParts) → comes_from_outside e.kind ≡ true → e.kind ≡ Pass → ⊥
  not_outside e h r = false≢true (ap comes_from_outside (sym r) ∙ h)

  not_apply : (e : DraftParts) (n : ℕ) → back_named e.kind ≡ Some n → e.kind ≡ Pass → ⊥
  not_apply e n h r = let q = ap back_named (sym r) ∙ h in cc

  begins_well : (n : ℕ) (e : DraftParts) → draft_at drafts n ≡ Some e → comes_from_outside e.kind ≡ true → (e.kind ≡ Back) ⊎ ((z.at n).guards ≡ [])
  begins_well n e h out =
      let w = was_there n e h (not_outside e out) in
      elim (s.begins n e w out) [ inl k ↦ inl k | inr q ↦ inr (ap (λ (v : GuardedRegionParts). v.guards) (at_old n (within n e w)) ∙ q) ]

  enters_well : (n : ℕ) (e : DraftParts) (l : ℕ) → draft_at drafts n ≡ Some e → e.kind ≡ Enter l → z.at n ≡ z.around l
  enters_well n e l h k =
      let w = was_there n e h (not_pass (Enter l) e k (λ q. cc)) in
      at_old n (within n e w) ∙ s.enters_from n e l w k

  leaves_well : (n m : ℕ) (e f : DraftParts) → draft_at drafts n ≡ Some e → draft_at drafts m ≡ Some f → e.kind ≡ Leave → f.kind ≡ Enter e.region → z.order m < z.order n
  leaves_well n m e f h i k j =
      let w = was_there n e h (not_pass Leave e k (λ q. cc)) in
      let x = was_there m f i (not_pass (Enter e.region) f j (λ q. cc)) in
      let a = order_old n (within n e w) in
      let b = order_old m (within m f x) in
      let c = s.leaves_after n m e f w x k j in
      omega (arith, a, b, c)

  nexts_well : (n : ℕ) (e : DraftParts) → draft_at drafts n ≡ Some e → e.kind ≡ Next → IsOf (z.at n).guards (guard (y.test e.region) true)
  nexts_well n e h k =
      let w = was_there n e h (not_pass Next e k (λ q. cc)) in
      subst (λ (v : GuardedRegionParts). IsOf v.guards (guard (y.test e.region) true)) (sym (at_old n (within n e w))) (s.nexts n e w k)

  lasts_well : (n : ℕ) (e : DraftParts) → draft_at drafts n ≡ Some e → e.kind ≡ Last → IsOf (z.at n).guards (guard (y.test e.region) false)
  lasts_well n e h k =
      let w = was_there n e h (not_pass Last e k (λ q. cc)) in
      subst (λ (v : GuardedRegionParts). IsOf v.guards (guard (y.test e.region) false)) (sym (at_old n (within n e w))) (s.lasts n e w k)

  backs_well : (m n : ℕ) (e : DraftParts) → draft_at drafts m ≡ Some e → back_named e.kind ≡ Some n → IsCalled z drafts m n
  backs_well m n e h named =
      let w = was_there m e h (not_apply e n named) in
      let c = s.backs m n e w named in
      let a = order_old m (within m e w) in
      let b = order_old n (within n c.back c.stands) in
      let o_c = c.earlier in
      record {
        back = c.back;
        stands = at_more g.statements new n c.back c.stands;
        kind = c.kind;
        beside = at_old m (within m e w) ∙ (c.beside ∙ sym (at_old n (within n c.back c.stands)));
        earlier = omega (arith, a, b, o_c);
      }

  -- the new graph lies well
  pub scoped_fan : IsScoped z (with_pass o d g)
  scoped_fan = record {
    region = region_is;
    links = links_well;
    ports = λ m n h i e. pairs m n (came m h) (came n i) e;
    switches = λ n e h k.
        let w = was_there n e h (not_pass Switch e k (λ q. cc)) in
        controlled n e w (s.switches n e w k);
    held = s.held;
    begins = begins_well;
    enters_from = enters_well;
    leaves_after = leaves_well;
    nexts = nexts_well;
    lasts = lasts_well;
    one_next = λ m n e f h i k j q. s.one_next m n e f (was_there m e h (not_pass Next e k (λ r. cc))) (was_there n f i (not_pass Next f j (λ r. cc))) k j q;
    one_apply = λ k m n e f h i a b. s.one_apply k m n e f (was_there k e h (not_apply e n a)) (was_there m f i (not_apply f n b)) a b;
    backs = backs_well;
    one_end = λ m n e f h i k j. s.one_end m n e f (was_there m e h (not_pass End e k (λ r. cc))) (was_there n f i (not_pass End f j (λ r. cc))) k j;
  }

-- A graph whose statements and links lie well does so with one statement more, and with one link more to the last one.
use Rattle.std.proofs.Common.{◌≡◌, ℕ, zero, suc, ◌+◌, ◌<◌, ◌≤◌, ◌⊎◌, inl, inr, refl, sym, ap, ◌∙◌, subst, arith, Bool, true, false, not, List, [], ◌∷◌, ◌++◌, length, Some}
use Rattle.std.proofs.lemmas.Bool.{leb-true}
use Rattle.u_program.specs.declared.program.Kind.{Kind}
use Rattle.u_program.specs.declared.program.Kind.TheVariants.{Switch, Enter, Next, Last, Leave, Back, End}
use Rattle.u_check.specs.Kinds.{comes_from_outside, back_named}
use Rattle.u_compile.specs.declared.graph.Link.{Link}
use Rattle.u_compile.specs.declared.graph.Output.{Output}
use Rattle.u_compile.specs.Drafts.{DraftParts}
use Rattle.u_compile.specs.Graphs.{GraphParts, graph, draft_at, enters_one, IsGraph}
use Rattle.u_compile.specs.Fanning.{holder}
use Rattle.u_compile.specs.Scoped.{guard, GuardedRegionParts, place, IsOf, Layout, sent_by, Ends, GoesWell, AreApart, OnlyFrom, HandsOn, it, pass, IsControlled, IsCalled, IsScoped}
use Rattle.u_compile.specs.Placed.{IsForward, IsScopedBut}
use Rattle.u_compile.proofs.Numbers.{at_within, at_more, at_cases}

-- the two layouts say the same of so many statements and loops
pub record Agree (z y : Layout) (statements loops : ℕ) : Type 0 where
  pub at : (n : ℕ) → n ≤ statements → z.at n ≡ y.at n
  pub around : (l : ℕ) → l ≤ loops → z.around l ≡ y.around l
  pub control : (n : ℕ) → n ≤ statements → z.control n ≡ y.control n
  pub order : (n : ℕ) → n ≤ statements → z.order n ≡ y.order n

-- the two layouts say the same of the tests of loops that have a `next` or a `last`
abbrev pub AgreeOnTests : Layout → Layout → List DraftParts → Type 0
AgreeOnTests z y ds = (n : ℕ) (d : DraftParts) → draft_at ds n ≡ Some d → (d.kind ≡ Next) ⊎ (d.kind ≡ Last) → z.test d.region ≡ y.test d.region

-- the statements of the one are in the other, with their numbers
abbrev pub AreAmong : List DraftParts → List DraftParts → Type 0
AreAmong ds es = (n : ℕ) (d : DraftParts) → draft_at ds n ≡ Some d → draft_at es n ≡ Some d

pub but_one : (k : ℕ) (y : Layout) (g : GraphParts) → IsScoped y g → IsScopedBut k y g
but_one k y g s = record {
  region = s.region;
  links = s.links;
  ports = s.ports;
  switches = λ n d h e o. s.switches n d h e;
  held = s.held;
  begins = s.begins;
  enters_from = s.enters_from;
  leaves_after = s.leaves_after;
  nexts = s.nexts;
  lasts = s.lasts;
  one_next = s.one_next;
  one_apply = s.one_apply;
  backs = λ m n d h b o. s.backs m n d h b;
  one_end = s.one_end;
}

within : (g : GraphParts) (n : ℕ) (e : DraftParts) → draft_at g.statements n ≡ Some e → n ≤ length g.statements
within g n e h = (at_within g.statements n e h).1

in_loops : (g : GraphParts) → IsGraph g → (n : ℕ) (e : DraftParts) → draft_at g.statements n ≡ Some e → e.region ≤ length g.loops
in_loops g is n e h = (is.drafts n e h).region

pub entered_loop : (k l : ℕ) (c : Kind) → c ≡ Enter l → enters_one k c ≡ true → l ≤ k
entered_loop k l c q h = leb-true l k (ap (enters_one k) (sym q) ∙ h)

pub same_or_not : (n k : ℕ) → (n ≡ k) ⊎ (n ≡ k → ⊥)
same_or_not zero zero = inl refl
same_or_not zero (suc k) = inr (λ e. cc)
same_or_not (suc n) zero = inr (λ e. cc)
same_or_not (suc n) (suc k) = elim (same_or_not n k) [ inl e ↦ inl (ap suc e) | inr o ↦ inr (λ e. o (omega (arith, e))) ]

pub less : (a b : ℕ) → a ≤ b → (a ≡ b → ⊥) → a < b
less zero zero h o = absurd (o refl)
less zero (suc b) h o = omega arith
less (suc a) zero h o = omega (arith, h)
less (suc a) (suc b) h o = let r = less a b (omega (arith, h)) (λ e. o (ap suc e)) in omega (arith, r)

-- no statement has the number 0
pub no_zero : (ds : List DraftParts) (k : ℕ) (d : DraftParts) → k ≡ 0 → draft_at ds k ≡ Some d → ⊥
no_zero ds zero d e h = cc
no_zero ds (suc k) d e h = cc

-- with what is wanted of statement k it lies well
pub and_that : (k : ℕ) (y : Layout) (g : GraphParts) → IsScopedBut k y g
    → ((d : DraftParts) → draft_at g.statements k ≡ Some d → d.kind ≡ Switch → IsControlled y g k)
    → ((n : ℕ) (d : DraftParts) → draft_at g.statements k ≡ Some d → back_named d.kind ≡ Some n → IsCalled y g.statements k n)
    → IsScoped y g
and_that k y g s switch back = record {
  region = s.region;
  links = s.links;
  ports = s.ports;
  switches = λ n d h e. elim (same_or_not n k) [
    | inl q ↦ subst (IsControlled y g) (sym q) (switch d (ap (draft_at g.statements) (sym q) ∙ h) e)
    | inr o ↦ s.switches n d h e o
  ];
  held = s.held;
  begins = s.begins;
  enters_from = s.enters_from;
  leaves_after = s.leaves_after;
  nexts = s.nexts;
  lasts = s.lasts;
  one_next = s.one_next;
  one_apply = s.one_apply;
  backs = λ m n d h b. elim (same_or_not m k) [
    | inl q ↦ subst (λ (j : ℕ). IsCalled y g.statements j n) (sym q) (back n d (ap (draft_at g.statements) (sym q) ∙ h) b)
    | inr o ↦ s.backs m n d h b o
  ];
  one_end = s.one_end;
}

-- A statement that may be added as number n to a graph in a layout that has a place for it.
pub record MayCome (z : Layout) (g : GraphParts) (n : ℕ) (x : DraftParts) : Type 0 where
  pub region : x.region ≡ (z.at n).region
  pub later : (m : ℕ) → m < n → z.order m < z.order n
  pub begins : comes_from_outside x.kind ≡ true → (x.kind ≡ Back) ⊎ ((z.at n).guards ≡ [])
  pub enters_from : (l : ℕ) → x.kind ≡ Enter l → z.at n ≡ z.around l
  -- no loop is entered from a statement behind one that leaves it
  pub stays : (l m : ℕ) (d : DraftParts) → x.kind ≡ Enter l → draft_at g.statements m ≡ Some d → d.kind ≡ Leave → d.region ≡ l → ⊥
  pub next : x.kind ≡ Next → IsOf (z.at n).guards (guard (z.test x.region) true)
  pub last : x.kind ≡ Last → IsOf (z.at n).guards (guard (z.test x.region) false)
  pub one_next : (m : ℕ) (d : DraftParts) → x.kind ≡ Next → draft_at g.statements m ≡ Some d → d.kind ≡ Next → d.shares ≡ x.shares → ⊥
  pub one_apply : (b m : ℕ) (d : DraftParts) → back_named x.kind ≡ Some b → draft_at g.statements m ≡ Some d → back_named d.kind ≡ Some b → ⊥
  pub one_end : (m : ℕ) (d : DraftParts) → x.kind ≡ End → draft_at g.statements m ≡ Some d → d.kind ≡ End → ⊥

-- what holds of links holds where there are more statements and loops, and of them the layout says the same
module _ (y z : Layout) (g : GraphParts) (is : IsGraph g) (a : Agree z y (length g.statements) (length g.loops)) (loops : List ℕ) (drafts : List DraftParts) (among : AreAmong g.statements drafts) where
  sent_still : (n : ℕ) (side : Bool) (e : DraftParts) → draft_at g.statements n ≡ Some e → sent_by z n side e.region e.kind ≡ sent_by y n side e.region e.kind
  sent_still n side e h = by e.kind
    where
      here : z.at n ≡ y.at n
      here = a.at n (within g n e h)

      by : (c : Kind) → sent_by z n side e.region c ≡ sent_by y n side e.region c
      by Switch = ap (λ (v : GuardedRegionParts). place v.region (guard (z.control n) (not side) ∷ v.guards)) here ∙ ap (λ (c : ℕ). place (y.at n).region (guard c (not side) ∷ (y.at n).guards)) (a.control n (within g n e h))
      by (Enter l) = refl
      by Last = ap (λ (v : GuardedRegionParts). place v.region []) here
      by Leave = a.around e.region (in_loops g is n e h)
      by c = here

  ends_still : (l : Link) → Ends g.statements l → Ends drafts l
  ends_still l e = record { from = e.from; sends = among l.from.statement e.from e.sends; to = e.to; takes = among l.to.statement e.to e.takes }

  goes_still : (l : Link) → GoesWell y g.statements l → GoesWell z drafts l
  unfolding ends_still
  goes_still l w =
      let e = w.ends in
      let sent = sent_still l.from.statement l.from.on_false e.from e.sends in
      let there = a.at l.to.statement (within g l.to.statement e.to e.takes) in
      let before = a.order l.from.statement (within g l.from.statement e.from e.sends) in
      let behind = a.order l.to.statement (within g l.to.statement e.to e.takes) in
      record {
        ends = ends_still l e;
        other = w.other;
        outside = w.outside;
        region = ap (λ (v : GuardedRegionParts). v.region) sent ∙ (w.region ∙ ap (λ (v : GuardedRegionParts). v.region) (sym there));
        guards = λ c has. subst (λ (v : GuardedRegionParts). IsOf v.guards c) (sym sent) (w.guards c (subst (λ (v : GuardedRegionParts). IsOf v.guards c) there has));
        earlier = elim w.earlier [
          | inl q ↦ inl (ap (λ (v : GuardedRegionParts). v.guards) sent ∙ q)
          | inr b ↦ inr (omega (arith, before, behind, b))
        ];
      }

  apart_still : (l m : Link) → AreApart y g.statements l m → AreApart z drafts l m
  unfolding ends_still
  apart_still l m w = record {
    ends = ends_still l w.ends;
    other = ends_still m w.other;
    control = w.control;
    value = w.value;
    one = subst (λ (v : GuardedRegionParts). IsOf v.guards (guard w.control w.value)) (sym (sent_still l.from.statement l.from.on_false w.ends.from w.ends.sends)) w.one;
    two = subst (λ (v : GuardedRegionParts). IsOf v.guards (guard w.control (not w.value))) (sym (sent_still m.from.statement m.from.on_false w.other.from w.other.sends)) w.two;
  }

  hands_still : (c n : ℕ) → HandsOn g c n → HandsOn (graph loops drafts g.links) c n
  hands_still c n it = it
  hands_still c n (pass m o d e at_d kind at_e plain alone only h) = pass n o d e (among n d at_d) kind (among o.statement e at_e) plain alone only (hands_still c o.statement h)

  controlled_still : (n : ℕ) → n ≤ length g.statements → IsControlled y g n → IsControlled z (graph loops drafts g.links) n
  controlled_still n low w = record {
    from = w.from;
    by = w.by;
    stands = among w.from.statement w.by w.stands;
    other = w.other;
    alone = w.alone;
    only = w.only;
    source = subst (λ (c : ℕ). HandsOn (graph loops drafts g.links) c w.from.statement) (sym (a.control n low)) (hands_still (y.control n) w.from.statement w.source);
  }

module _ (k : ℕ) (y z : Layout) (g : GraphParts) (is : IsGraph g) (s : IsScopedBut k y g) (a : Agree z y (length g.statements) (length g.loops)) (tests : AgreeOnTests z y g.statements) where
  -- with other loops it lies well in a layout that says the same of its statements
  pub relaid : (loops : List ℕ) → ((l : ℕ) → (z.around l).region ≡ holder loops l) → IsScopedBut k z (graph loops g.statements g.links)
  relaid loops held = record {
    region = λ n d h. s.region n d h ∙ ap (λ (v : GuardedRegionParts). v.region) (sym (a.at n (within g n d h)));
    links = λ l i. goes_still y z g is a loops g.statements same l (s.links l i);
    ports = λ l n i j e. elim (s.ports l n i j e) [ inl q ↦ inl q | inr w ↦ inr (apart_still y z g is a loops g.statements same l n w) ];
    switches = λ n d h q o. controlled_still y z g is a loops g.statements same n (within g n d h) (s.switches n d h q o);
    held = held;
    begins = λ n d h out. elim (s.begins n d h out) [ inl q ↦ inl q | inr q ↦ inr (ap (λ (v : GuardedRegionParts). v.guards) (a.at n (within g n d h)) ∙ q) ];
    enters_from = λ n d l h q. a.at n (within g n d h) ∙ (s.enters_from n d l h q ∙ sym (a.around l (entered_loop (length g.loops) l d.kind q (is.drafts n d h).enters)));
    leaves_after = λ n m d e h i q r.
        let o = s.leaves_after n m d e h i q r in
        let before = a.order m (within g m e i) in
        let behind = a.order n (within g n d h) in
        omega (arith, o, before, behind);
    nexts = λ n d h q. subst (λ (v : GuardedRegionParts). IsOf v.guards (guard (z.test d.region) true)) (sym (a.at n (within g n d h))) (subst (λ (t : ℕ). IsOf (y.at n).guards (guard t true)) (sym (tests n d h (inl q))) (s.nexts n d h q));
    lasts = λ n d h q. subst (λ (v : GuardedRegionParts). IsOf v.guards (guard (z.test d.region) false)) (sym (a.at n (within g n d h))) (subst (λ (t : ℕ). IsOf (y.at n).guards (guard t false)) (sym (tests n d h (inr q))) (s.lasts n d h q));
    one_next = s.one_next;
    one_apply = s.one_apply;
    backs = λ i n d h q o.
        let c = s.backs i n d h q o in
        let low = within g i d h in
        let high = within g n c.back c.stands in
        let before = a.order i low in
        let behind = a.order n high in
        let r = c.earlier in
        record {
          back = c.back;
          stands = c.stands;
          kind = c.kind;
          beside = a.at i low ∙ (c.beside ∙ sym (a.at n high));
          earlier = omega (arith, before, behind, r);
        };
    one_end = s.one_end;
  }
    where
      same : AreAmong g.statements g.statements
      same n d h = h

module _ (k : ℕ) (y z : Layout) (g : GraphParts) (is : IsGraph g) (s : IsScopedBut k y g) (a : Agree z y (length g.statements) (length g.loops)) (tests : AgreeOnTests z y g.statements) (x : DraftParts) where
  abbrev p : ℕ
  p = length g.statements + 1

  abbrev drafts : List DraftParts
  drafts = g.statements ++ (x ∷ [])

  more : AreAmong g.statements (g.statements ++ (x ∷ []))
  more n d h = at_more g.statements x n d h

  module _ (m : MayCome z g p x) (switch : x.kind ≡ Switch → p ≡ k) (apply : (b : ℕ) → back_named x.kind ≡ Some b → p ≡ k) where
    -- a statement of the new graph: it was there, or is the new one
    cases : (n : ℕ) (d : DraftParts) → draft_at drafts n ≡ Some d → (draft_at g.statements n ≡ Some d) ⊎ ((n ≡ p) × (d ≡ x))
    cases n d h = at_cases g.statements x n d h

    region_is : (n : ℕ) (d : DraftParts) → draft_at drafts n ≡ Some d → d.region ≡ (z.at n).region
    region_is n d h = elim (cases n d h) [
      | inl w ↦ s.region n d w ∙ ap (λ (v : GuardedRegionParts). v.region) (sym (a.at n (within g n d w)))
      | inr w ↦ ap (λ (v : DraftParts). v.region) w.1 ∙ (m.region ∙ ap (λ (j : ℕ). (z.at j).region) (sym w.0))
    ]

    kind_of : (d : DraftParts) (c : Kind) → d ≡ x → d.kind ≡ c → x.kind ≡ c
    kind_of d c e q = ap (λ (v : DraftParts). v.kind) (sym e) ∙ q

    named_of : (d : DraftParts) (b : ℕ) → d ≡ x → back_named d.kind ≡ Some b → back_named x.kind ≡ Some b
    named_of d b e q = ap (λ (v : DraftParts). back_named v.kind) (sym e) ∙ q

    begins_is : (n : ℕ) (d : DraftParts) → draft_at drafts n ≡ Some d → comes_from_outside d.kind ≡ true → (d.kind ≡ Back) ⊎ ((z.at n).guards ≡ [])
    begins_is n d h out = elim (cases n d h) [
      | inl w ↦ elim (s.begins n d w out) [ inl q ↦ inl q | inr q ↦ inr (ap (λ (v : GuardedRegionParts). v.guards) (a.at n (within g n d w)) ∙ q) ]
      | inr w ↦ elim (m.begins (ap (λ (v : DraftParts). comes_from_outside v.kind) (sym w.1) ∙ out)) [
        | inl q ↦ inl (ap (λ (v : DraftParts). v.kind) w.1 ∙ q)
        | inr q ↦ inr (ap (λ (j : ℕ). (z.at j).guards) w.0 ∙ q)
      ]
    ]

    enters_is : (n : ℕ) (d : DraftParts) (l : ℕ) → draft_at drafts n ≡ Some d → d.kind ≡ Enter l → z.at n ≡ z.around l
    enters_is n d l h q = elim (cases n d h) [
      | inl w ↦ a.at n (within g n d w) ∙ (s.enters_from n d l w q ∙ sym (a.around l (entered w)))
      | inr w ↦ ap z.at w.0 ∙ m.enters_from l (kind_of d (Enter l) w.1 q)
    ]
      where
        entered : draft_at g.statements n ≡ Some d → l ≤ length g.loops
        entered w = entered_loop (length g.loops) l d.kind q (is.drafts n d w).enters

    leaves_is : (n j : ℕ) (d e : DraftParts) → draft_at drafts n ≡ Some d → draft_at drafts j ≡ Some e → d.kind ≡ Leave → e.kind ≡ Enter d.region → z.order j < z.order n
    leaves_is n j d e h i q r = elim (cases n d h) [
      | inl w ↦ elim (cases j e i) [
        | inl v ↦
            let o = s.leaves_after n j d e w v q r in
            let before = a.order j (within g j e v) in
            let behind = a.order n (within g n d w) in
            omega (arith, o, before, behind)
        | inr v ↦ absurd (m.stays d.region n d (kind_of e (Enter d.region) v.1 r) w q refl)
      ]
      | inr w ↦ elim (cases j e i) [
        | inl v ↦
            let low = within g j e v in
            subst (λ (t : ℕ). z.order j < z.order t) (sym w.0) (m.later j (omega (arith, low)))
        | inr v ↦ absurd (let one : Leave ≡ Enter d.region = sym q ∙ (ap (λ (t : DraftParts). t.kind) (w.1 ∙ sym v.1) ∙ r) in cc)
      ]
    ]

    nexts_is : (n : ℕ) (d : DraftParts) → draft_at drafts n ≡ Some d → d.kind ≡ Next → IsOf (z.at n).guards (guard (z.test d.region) true)
    nexts_is n d h q = elim (cases n d h) [
      | inl w ↦
          let r = s.nexts n d w q in
          subst (λ (v : GuardedRegionParts). IsOf v.guards (guard (z.test d.region) true)) (sym (a.at n (within g n d w))) (subst (λ (t : ℕ). IsOf (y.at n).guards (guard t true)) (sym (tests n d w (inl q))) r)
      | inr w ↦
          let r = m.next (kind_of d Next w.1 q) in
          subst (λ (j : ℕ). IsOf (z.at j).guards (guard (z.test d.region) true)) (sym w.0) (subst (λ (v : DraftParts). IsOf (z.at p).guards (guard (z.test v.region) true)) (sym w.1) r)
    ]

    lasts_is : (n : ℕ) (d : DraftParts) → draft_at drafts n ≡ Some d → d.kind ≡ Last → IsOf (z.at n).guards (guard (z.test d.region) false)
    lasts_is n d h q = elim (cases n d h) [
      | inl w ↦
          let r = s.lasts n d w q in
          subst (λ (v : GuardedRegionParts). IsOf v.guards (guard (z.test d.region) false)) (sym (a.at n (within g n d w))) (subst (λ (t : ℕ). IsOf (y.at n).guards (guard t false)) (sym (tests n d w (inr q))) r)
      | inr w ↦
          let r = m.last (kind_of d Last w.1 q) in
          subst (λ (j : ℕ). IsOf (z.at j).guards (guard (z.test d.region) false)) (sym w.0) (subst (λ (v : DraftParts). IsOf (z.at p).guards (guard (z.test v.region) false)) (sym w.1) r)
    ]

    shares_of : (d : DraftParts) → d ≡ x → d.shares ≡ x.shares
    shares_of d e = ap (λ (v : DraftParts). v.shares) e

    one_next_is : (i j : ℕ) (d e : DraftParts) → draft_at drafts i ≡ Some d → draft_at drafts j ≡ Some e → d.kind ≡ Next → e.kind ≡ Next → d.shares ≡ e.shares → i ≡ j
    one_next_is i j d e h f q r t = elim (cases i d h) [
      | inl w ↦ elim (cases j e f) [
        | inl v ↦ s.one_next i j d e w v q r t
        | inr v ↦ absurd (m.one_next i d (kind_of e Next v.1 r) w q (t ∙ shares_of e v.1))
      ]
      | inr w ↦ elim (cases j e f) [
        | inl v ↦ absurd (m.one_next j e (kind_of d Next w.1 q) v r (sym t ∙ shares_of d w.1))
        | inr v ↦ w.0 ∙ sym v.0
      ]
    ]

    one_apply_is : (i j n : ℕ) (d e : DraftParts) → draft_at drafts i ≡ Some d → draft_at drafts j ≡ Some e → back_named d.kind ≡ Some n → back_named e.kind ≡ Some n → i ≡ j
    one_apply_is i j n d e h f q r = elim (cases i d h) [
      | inl w ↦ elim (cases j e f) [
        | inl v ↦ s.one_apply i j n d e w v q r
        | inr v ↦ absurd (m.one_apply n i d (named_of e n v.1 r) w q)
      ]
      | inr w ↦ elim (cases j e f) [
        | inl v ↦ absurd (m.one_apply n j e (named_of d n w.1 q) v r)
        | inr v ↦ w.0 ∙ sym v.0
      ]
    ]

    one_end_is : (i j : ℕ) (d e : DraftParts) → draft_at drafts i ≡ Some d → draft_at drafts j ≡ Some e → d.kind ≡ End → e.kind ≡ End → i ≡ j
    one_end_is i j d e h f q r = elim (cases i d h) [
      | inl w ↦ elim (cases j e f) [
        | inl v ↦ s.one_end i j d e w v q r
        | inr v ↦ absurd (m.one_end i d (kind_of e End v.1 r) w q)
      ]
      | inr w ↦ elim (cases j e f) [
        | inl v ↦ absurd (m.one_end j e (kind_of d End w.1 q) v r)
        | inr v ↦ w.0 ∙ sym v.0
      ]
    ]

    switches_is : (n : ℕ) (d : DraftParts) → draft_at drafts n ≡ Some d → d.kind ≡ Switch → (n ≡ k → ⊥) → IsControlled z (graph g.loops drafts g.links) n
    switches_is n d h q o = elim (cases n d h) [
      | inl w ↦ controlled_still y z g is a g.loops (g.statements ++ (x ∷ [])) more n (within g n d w) (s.switches n d w q o)
      | inr w ↦ absurd (o (w.0 ∙ switch (kind_of d Switch w.1 q)))
    ]

    backs_is : (i n : ℕ) (d : DraftParts) → draft_at drafts i ≡ Some d → back_named d.kind ≡ Some n → (i ≡ k → ⊥) → IsCalled z drafts i n
    backs_is i n d h q o = elim (cases i d h) [
      | inl w ↦
          let c = s.backs i n d w q o in
          let low = within g i d w in
          let high = within g n c.back c.stands in
          let before = a.order i low in
          let behind = a.order n high in
          let r = c.earlier in
          record {
            back = c.back;
            stands = at_more g.statements x n c.back c.stands;
            kind = c.kind;
            beside = a.at i low ∙ (c.beside ∙ sym (a.at n high));
            earlier = omega (arith, before, behind, r);
          }
      | inr w ↦ absurd (o (w.0 ∙ apply n (named_of d n w.1 q)))
    ]

    pub held_is : ((l : ℕ) → (z.around l).region ≡ holder g.loops l) → IsScopedBut k z (graph g.loops (g.statements ++ (x ∷ [])) g.links)
    held_is held = record {
      region = region_is;
      links = λ l i. goes_still y z g is a g.loops (g.statements ++ (x ∷ [])) more l (s.links l i);
      ports = λ l n i j e. elim (s.ports l n i j e) [ inl q ↦ inl q | inr w ↦ inr (apart_still y z g is a g.loops (g.statements ++ (x ∷ [])) more l n w) ];
      switches = switches_is;
      held = held;
      begins = begins_is;
      enters_from = enters_is;
      leaves_after = leaves_is;
      nexts = nexts_is;
      lasts = lasts_is;
      one_next = one_next_is;
      one_apply = one_apply_is;
      backs = backs_is;
      one_end = one_end_is;
    }

pub of_link : (ls : List Link) (l m : Link) → IsOf (ls ++ (l ∷ [])) m → IsOf ls m ⊎ (l ≡ m)
of_link [] l m (inl e) = inr e
of_link [] l m (inr i) = absurd i
of_link (x ∷ ls) l m (inl e) = inl (inl e)
of_link (x ∷ ls) l m (inr i) = elim (of_link ls l m i) [ inl j ↦ inl (inr j) | inr e ↦ inr e ]

pub is_there : (ls : List Link) (l m : Link) → IsOf ls m → IsOf (ls ++ (l ∷ [])) m
is_there [] l m i = absurd i
is_there (x ∷ ls) l m (inl e) = inl e
is_there (x ∷ ls) l m (inr i) = inr (is_there ls l m i)

pub forward_more : (ls : List Link) (l : Link) → IsForward ls → l.from.statement < l.to.statement → IsForward (ls ++ (l ∷ []))
forward_more ls l f ahead m i = elim (of_link ls l m i) [
  | inl j ↦ f m j
  | inr e ↦ subst (λ (v : Link). v.from.statement < v.to.statement) e ahead
]

not_not : (b : Bool) → not (not b) ≡ b
not_not true = refl
not_not false = refl

apart_turned : (y : Layout) (ds : List DraftParts) (l m : Link) → AreApart y ds l m → AreApart y ds m l
apart_turned y ds l m w = record {
  ends = w.other;
  other = w.ends;
  control = w.control;
  value = not w.value;
  one = w.two;
  two = subst (λ (b : Bool). IsOf (sent_by y l.from.statement l.from.on_false w.ends.from.region w.ends.from.kind).guards (guard w.control b)) (sym (not_not w.value)) w.one;
}

module _ (k : ℕ) (y : Layout) (g : GraphParts) (s : IsScopedBut k y g) (forward : IsForward g.links) (l : Link) (to_last : l.to.statement ≡ length g.statements) (w : GoesWell y g.statements l)
    (meets : (m : Link) → IsOf g.links m → m.to ≡ l.to → (m.from ≡ l.from) ⊎ AreApart y g.statements m l)
    (settled : (d : DraftParts) → draft_at g.statements (length g.statements) ≡ Some d → d.kind ≡ Switch → length g.statements ≡ k) where
  abbrev linked : GraphParts
  linked = graph g.loops g.statements (g.links ++ (l ∷ []))

  only_still : (o : Output) (n port : ℕ) → n < length g.statements → OnlyFrom g.links o n port → OnlyFrom (g.links ++ (l ∷ [])) o n port
  only_still o n port low v = record {
    link = v.link;
    is = is_there g.links l v.link v.is;
    from = v.from;
    statement = v.statement;
    port = v.port;
    only = λ m i q r. elim (of_link g.links l m i) [
      | inl j ↦ v.only m j q r
      | inr e ↦ absurd (let t : l.to.statement ≡ n = ap (λ (h : Link). h.to.statement) e ∙ q in omega (arith, low, t, to_last))
    ];
  }

  before : (o : Output) (n port : ℕ) → OnlyFrom g.links o n port → o.statement < n
  before o n port v =
      let f = forward v.link v.is in
      let a = ap (λ (h : Output). h.statement) v.from in
      let b = v.statement in
      omega (arith, f, a, b)

  hands_on : (c n : ℕ) → n < length g.statements → HandsOn g c n → HandsOn linked c n
  hands_on c n low it = it
  hands_on c n low (pass m o d e at_d kind at_e plain alone only h) =
      let b = before o n 1 only in
      pass n o d e at_d kind at_e plain alone (only_still o n 1 low only) (hands_on c o.statement (omega (arith, b, low)) h)

  controlled_on : (n : ℕ) → n < length g.statements → IsControlled y g n → IsControlled y linked n
  controlled_on n low v =
      let b = before v.from n 2 v.only in
      record {
        from = v.from;
        by = v.by;
        stands = v.stands;
        other = v.other;
        alone = v.alone;
        only = only_still v.from n 2 low v.only;
        source = hands_on (y.control n) v.from.statement (omega (arith, b, low)) v.source;
      }

  switches_on : (n : ℕ) (d : DraftParts) → draft_at g.statements n ≡ Some d → d.kind ≡ Switch → (n ≡ k → ⊥) → IsControlled y linked n
  switches_on n d h q o =
      let high = (at_within g.statements n d h).1 in
      elim (same_or_not n (length g.statements)) [
        | inl e ↦ absurd (o (e ∙ settled d (ap (draft_at g.statements) (sym e) ∙ h) q))
        | inr other ↦ controlled_on n (less n (length g.statements) high other) (s.switches n d h q o)
      ]

  links_on : (m : Link) → IsOf (g.links ++ (l ∷ [])) m → GoesWell y g.statements m
  links_on m i = elim (of_link g.links l m i) [ inl j ↦ s.links m j | inr e ↦ subst (GoesWell y g.statements) e w ]

  ports_on : (m n : Link) → IsOf (g.links ++ (l ∷ [])) m → IsOf (g.links ++ (l ∷ [])) n → m.to ≡ n.to → (m.from ≡ n.from) ⊎ AreApart y g.statements m n
  ports_on m n i j e = elim (of_link g.links l m i) [
    | inl a ↦ elim (of_link g.links l n j) [
      | inl b ↦ s.ports m n a b e
      | inr q ↦ elim (meets m a (e ∙ ap (λ (v : Link). v.to) (sym q))) [
        | inl f ↦ inl (f ∙ ap (λ (v : Link). v.from) q)
        | inr f ↦ inr (subst (AreApart y g.statements m) q f)
      ]
    ]
    | inr p ↦ elim (of_link g.links l n j) [
      | inl b ↦ elim (meets n b (sym e ∙ ap (λ (v : Link). v.to) (sym p))) [
        | inl f ↦ inl (ap (λ (v : Link). v.from) (sym p) ∙ sym f)
        | inr f ↦ inr (subst (λ (v : Link). AreApart y g.statements v n) p (apart_turned y g.statements n l f))
      ]
      | inr q ↦ inl (ap (λ (v : Link). v.from) (sym p ∙ q))
    ]
  ]

  pub linked_well : IsScopedBut k y linked
  linked_well = record {
    region = s.region;
    links = links_on;
    ports = ports_on;
    switches = switches_on;
    held = s.held;
    begins = s.begins;
    enters_from = s.enters_from;
    leaves_after = s.leaves_after;
    nexts = s.nexts;
    lasts = s.lasts;
    one_next = s.one_next;
    one_apply = s.one_apply;
    backs = s.backs;
    one_end = s.one_end;
  }

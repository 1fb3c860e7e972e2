-- What the arcs to a port come from, arc by arc, and what that says at the end.
use Rattle.std.proofs.Common.{◌≡◌, ℕ, ◌+◌, ◌-◌, ◌*◌, ◌<◌, ◌≤◌, inl, inr, ◌⊎◌, refl, sym, ap, ◌∙◌, subst, arith, Bool, true, false, ◌==◌, eq-eqb, List, length, get_or, replicate, Some, None}
use Rattle.std.specs.Prelude.{slice_get, if◌then◌else◌}
use Rattle.std.proofs.lemmas.Bool.{false≢true, eqb-true}
use Rattle.std.proofs.lemmas.List.{length-replicate, get_or-replicate}
use Rattle.u_program.specs.declared.program.Kind.{Kind}
use Rattle.u_program.specs.declared.program.Kind.TheVariants as kinds
use Rattle.u_program.specs.declared.program.Destination.{Destination}
use Rattle.u_program.specs.Parts.{StatementParts}
use Rattle.u_check.specs.Rules.{statement_at, list_of, Arc, arc}
use Rattle.u_determinate.specs.declared.sources.Way.{Way}
use Rattle.u_determinate.specs.declared.sources.Way.TheVariants.{Enter, Next}
use Rattle.u_determinate.specs.declared.sources.Source.{Source}
use Rattle.u_determinate.specs.declared.sources.Sources.{Sources}
use Rattle.u_determinate.specs.declared.sources.Sources.TheVariants.{Nothing, One, EnterAndNext, Many}
use Rattle.u_determinate.specs.Arcs.{Leads, OnlyArc, ArcFrom, destination}
use Rattle.u_determinate.specs.Tables.{way_of, are_enter_and_next, with_source, is_one_source, only_source, list_number, IsBefore, IsFrom, IsWay, TwoBefore, PortHasOneSource, AreFrom, ArcsBefore}
use Rattle.u_determinate.proofs.KindFacts.{enter_kind, next_kind, two_ways}
use Rattle.u_determinate.proofs.NumberFacts.{number_within, one_statement, leads_by_parts, before_more, before_keeps, before_here, not_before_here, before_end, before_next, before_last, arc_stands}

-- the way that an arc is, by the statement that it comes from
way_at : (ss : List StatementParts) (a b : Arc) (k : Kind) (w : Way) → a ≡ b → ArcFrom ss b k → IsWay ss a w → way_of k ≡ w
way_at ss a b k w e p q =
    let s : statement_at ss b.statement ≡ Some q.it = ap (λ (x : Arc). statement_at ss x.statement) (sym e) ∙ q.stands in
    let i : p.it ≡ q.it = one_statement ss b.statement p.it q.it p.stands s in
    ap way_of (sym p.kind) ∙ ap (λ (x : StatementParts). way_of x.kind) i ∙ q.way

not_both : (ss : List StatementParts) (a b : Arc) → a ≡ b → IsWay ss a Enter → IsWay ss b Next → ⊥
not_both ss a b e p q =
    let s : statement_at ss b.statement ≡ Some p.it = ap (λ (x : Arc). statement_at ss x.statement) (sym e) ∙ p.stands in
    let i : p.it ≡ q.it = one_statement ss b.statement p.it q.it s q.stands in
    let w : Enter ≡ Next = sym p.way ∙ ap (λ (x : StatementParts). way_of x.kind) i ∙ q.way in
    cc

from_way : (ss : List StatementParts) (a : Arc) (s : Source) (w : Way) → IsFrom ss a s → s.way ≡ w → IsWay ss a w
from_way ss a s w f e = record { it = f.it; stands = f.stands; way = f.way ∙ e }

module _ (ss : List StatementParts) (m port : ℕ) where
  -- what is said of the arcs before one place holds of those before another, where they are the same
  pub moved : (s : Sources) (list j list' j' : ℕ) → ((a : Arc) → Leads ss m port a → IsBefore list' j' a → IsBefore list j a) → ((a : Arc) → IsBefore list j a → IsBefore list' j' a) → AreFrom ss m port list j s → AreFrom ss m port list' j' s
  moved Nothing list j list' j' to back w = λ a h l. w a (to a l h) l
  moved (One s) list j list' j' to back w = record {
    arc = w.arc;
    leads = w.leads;
    before = back w.arc w.before;
    from = w.from;
    only = λ b h l. w.only b (to b l h) l;
  }
  moved EnterAndNext list j list' j' to back w = record {
    enter = w.enter;
    next = w.next;
    enter_leads = w.enter_leads;
    next_leads = w.next_leads;
    enter_before = back w.enter w.enter_before;
    next_before = back w.next w.next_before;
    enters = w.enters;
    nexts = w.nexts;
    only = λ a h l. w.only a (to a l h) l;
  }
  moved Many list j list' j' to back w = w

  module _ (n : ℕ) (f : Bool) (j : ℕ) where
    -- one more arc, which does not lead there
    pub missed : (s : Sources) → (Leads ss m port (arc n f j) → ⊥) → AreFrom ss m port (list_number n f) j s → AreFrom ss m port (list_number n f) (j + 1) s
    missed s away w =
        moved s (list_number n f) j (list_number n f) (j + 1)
        (λ a l h. elim (before_more a n f j h) [ inl k ↦ k | inr e ↦ absurd (away (subst (λ (x : Arc). Leads ss m port x) e l)) ])
        (λ a h. before_keeps a (list_number n f) j h) w

    apart : (a : Arc) → IsBefore (list_number n f) j a → a ≡ arc n f j → ⊥
    apart a h e = not_before_here n f j (subst (λ (x : Arc). IsBefore (list_number n f) j x) e h)

    -- three arcs are no one source
    three : (a b c : Arc) → IsWay ss a Enter → IsWay ss b Next → (a ≡ c → ⊥) → (b ≡ c → ⊥) → Leads ss m port a → Leads ss m port b → Leads ss m port c → PortHasOneSource ss m port → ⊥
    three a b c x y ac bc la lb lc (inl o) = ac (o.1.only a la ∙ sym (o.1.only c lc))
    three a b c x y ac bc la lb lc (inr p) =
        elim (p.only c lc) [
          | inl u ↦ elim (p.only a la) [
            | inl v ↦ ac (v ∙ sym u)
            | inr v ↦ elim (p.only b lb) [ inl z ↦ bc (z ∙ sym u) | inr z ↦ not_both ss a b (v ∙ sym z) x y ]
          ]
          | inr u ↦ elim (p.only b lb) [
            | inr v ↦ bc (v ∙ sym u)
            | inl v ↦ elim (p.only a la) [ inl z ↦ not_both ss a b (z ∙ sym v) x y | inr z ↦ ac (z ∙ sym u) ]
          ]
        ]

    -- two arcs that are not one from an `enter` and one from a `next` are none
    two : (a c : Arc) (v w : Way) → IsWay ss a v → IsWay ss c w → are_enter_and_next v w ≡ false → (a ≡ c → ⊥) → Leads ss m port a → Leads ss m port c → PortHasOneSource ss m port → ⊥
    two a c v w x y e ac la lc (inl o) = ac (o.1.only a la ∙ sym (o.1.only c lc))
    two a c v w x y e ac la lc (inr p) =
        elim (p.only a la) [
          | inl q ↦ elim (p.only c lc) [
            | inl r ↦ ac (q ∙ sym r)
            | inr r ↦
                let g : Enter ≡ v = way_at ss a p.enter (kinds.Enter p.loop) v q p.from_enter x in
                let h : Next ≡ w = way_at ss c p.next kinds.Next w r p.from_next y in
                let k : are_enter_and_next Enter Next ≡ false = subst (λ (z : Way). are_enter_and_next Enter z ≡ false) (sym h) (subst (λ (z : Way). are_enter_and_next z w ≡ false) (sym g) e) in
                false≢true (sym k)
          ]
          | inr q ↦ elim (p.only c lc) [
            | inr r ↦ ac (q ∙ sym r)
            | inl r ↦
                let g : Next ≡ v = way_at ss a p.next kinds.Next v q p.from_next x in
                let h : Enter ≡ w = way_at ss c p.enter (kinds.Enter p.loop) w r p.from_enter y in
                let k : are_enter_and_next Next Enter ≡ false = subst (λ (z : Way). are_enter_and_next Next z ≡ false) (sym h) (subst (λ (z : Way). are_enter_and_next z w ≡ false) (sym g) e) in
                false≢true (sym k)
          ]
        ]

    module _ (b : Source) (l : Leads ss m port (arc n f j)) (from : IsFrom ss (arc n f j) b) where
      pair : (a : Source) → AreFrom ss m port (list_number n f) j (One a) → ((a.way ≡ Enter) × (b.way ≡ Next)) ⊎ ((a.way ≡ Next) × (b.way ≡ Enter)) → TwoBefore ss m port (list_number n f) (j + 1)
      pair a w (inl e) = record {
        enter = w.arc;
        next = arc n f j;
        enter_leads = w.leads;
        next_leads = l;
        enter_before = before_keeps w.arc (list_number n f) j w.before;
        next_before = before_here n f j;
        enters = from_way ss w.arc a Enter w.from e.0;
        nexts = from_way ss (arc n f j) b Next from e.1;
        only = λ x h q. elim (before_more x n f j h) [ inl k ↦ inl (w.only x k q) | inr z ↦ inr z ];
      }
      pair a w (inr e) = record {
        enter = arc n f j;
        next = w.arc;
        enter_leads = l;
        next_leads = w.leads;
        enter_before = before_here n f j;
        next_before = before_keeps w.arc (list_number n f) j w.before;
        enters = from_way ss (arc n f j) b Enter from e.1;
        nexts = from_way ss w.arc a Next w.from e.0;
        only = λ x h q. elim (before_more x n f j h) [ inl k ↦ inr (w.only x k q) | inr z ↦ inl z ];
      }

      with_second : (a : Source) (t : Bool) → are_enter_and_next a.way b.way ≡ t → AreFrom ss m port (list_number n f) j (One a) → AreFrom ss m port (list_number n f) (j + 1) (if t then EnterAndNext else Many)
      with_second a true e w = pair a w (two_ways a.way b.way e)
      with_second a false e w =
          two w.arc (arc n f j) a.way b.way (from_way ss w.arc a a.way w.from refl) (from_way ss (arc n f j) b b.way from refl) e (apart w.arc w.before) w.leads l

      -- one more arc, which leads there
      pub hit : (s : Sources) → AreFrom ss m port (list_number n f) j s → AreFrom ss m port (list_number n f) (j + 1) (with_source s b)
      hit Nothing w = record {
        arc = arc n f j;
        leads = l;
        before = before_here n f j;
        from = from;
        only = λ x h q. elim (before_more x n f j h) [ inl k ↦ absurd (w x k q) | inr z ↦ z ];
      }
      hit (One a) w = with_second a (are_enter_and_next a.way b.way) refl w
      hit EnterAndNext w =
          three w.enter w.next (arc n f j) w.enters w.nexts (apart w.enter w.enter_before) (apart w.next w.next_before) w.enter_leads w.next_leads l
      hit Many w = w

  -- what holds at the end of the block
  all : (s : Sources) → AreFrom ss m port (2 * (length ss + 1)) 0 s → (a : Arc) → Leads ss m port a → IsBefore (2 * (length ss + 1)) 0 a
  all s w a l = before_end ss a (destination m port) l

  from_enter : (a : Arc) → IsWay ss a Enter → (l : ℕ) × ArcFrom ss a (kinds.Enter l)
  from_enter a w =
      let k = enter_kind w.it.kind w.way in
      (k.0, record { it = w.it; stands = w.stands; kind = k.1 })

  pub one_source : (s : Sources) → AreFrom ss m port (2 * (length ss + 1)) 0 s → is_one_source s ≡ true → PortHasOneSource ss m port
  one_source Nothing w e = absurd (false≢true e)
  one_source (One a) w e =
      inl (w.arc, record { leads = w.leads; only = λ b l. w.only b (all (One a) w b l) l })
  one_source EnterAndNext w e =
      let p = from_enter w.enter w.enters in
      inr (record {
        enter = w.enter;
        next = w.next;
        enter_leads = w.enter_leads;
        next_leads = w.next_leads;
        loop = p.0;
        from_enter = p.1;
        from_next = record { it = w.nexts.it; stands = w.nexts.stands; kind = next_kind w.nexts.it.kind w.nexts.way };
        only = λ a l. w.only a (all EnterAndNext w a l) l;
      })
  one_source Many w e = absurd (false≢true e)

  pub no_one_source : (s : Sources) → AreFrom ss m port (2 * (length ss + 1)) 0 s → is_one_source s ≡ false → PortHasOneSource ss m port → ⊥
  no_one_source Nothing w e (inl o) = w o.0 (all Nothing w o.0 o.1.leads) o.1.leads
  no_one_source Nothing w e (inr p) = w p.enter (all Nothing w p.enter p.enter_leads) p.enter_leads
  no_one_source (One a) w e p = false≢true (sym e)
  no_one_source EnterAndNext w e p = false≢true (sym e)
  no_one_source Many w e p = w p

  -- the only arc, and where it comes from
  pub record Only (a : Source) : Type 0 where
    pub arc : Arc
    pub alone : OnlyArc ss m port arc
    pub from : IsFrom ss arc a

  pub only : (s : Sources) (a : Source) → AreFrom ss m port (2 * (length ss + 1)) 0 s → only_source s ≡ Some a → Only a
  only Nothing a w e = absurd (cc)
  only (One b) a w e =
      let q : b ≡ a = cc in
      record {
        arc = w.arc;
        alone = record { leads = w.leads; only = λ x l. w.only x (all (One b) w x l) l };
        from = subst (λ (y : Source). IsFrom ss w.arc y) q w.from;
      }
  only EnterAndNext a w e = absurd (cc)
  only Many a w e = absurd (cc)

  pub no_only : (s : Sources) → AreFrom ss m port (2 * (length ss + 1)) 0 s → only_source s ≡ None → (a : Arc) → OnlyArc ss m port a → ⊥
  no_only Nothing w e a o = w a (all Nothing w a o.leads) o.leads
  no_only (One b) w e a o = absurd (cc)
  no_only EnterAndNext w e a o =
      not_both ss w.enter w.next (o.only w.enter w.enter_leads ∙ sym (o.only w.next w.next_leads)) w.enters w.nexts
  no_only Many w e a o = w (inl (a, o))

-- The table, arc by arc.
module _ (ss : List StatementParts) (port n : ℕ) (f : Bool) (j : ℕ) (it : StatementParts) (d : Destination) (stands : statement_at ss n ≡ Some it) (at : slice_get (list_of it f) j ≡ Some d) (t : List Sources) (w : ArcsBefore ss port (list_number n f) j t) where
  -- an arc to another port
  pub other_port : (d.port ≡ port → ⊥) → ArcsBefore ss port (list_number n f) (j + 1) t
  other_port away = record {
    as_long = w.as_long;
    each = λ m h. missed ss m port n f j (get_or t (m - 1) Nothing)
        (λ l. away (let e = sym (leads_by_parts ss n f j it d stands at) ∙ l in cc)) (w.each m h);
  }

  -- an arc to that port, which is added where it leads
  pub this_port : (b : Source) (t' : List Sources) → d.port ≡ port → IsFrom ss (arc n f j) b → length t' ≡ length t → ((m : ℕ) → 1 ≤ m → m ≤ length t → get_or t' (m - 1) Nothing ≡ (if m == d.statement then with_source (get_or t (m - 1) Nothing) b else get_or t (m - 1) Nothing)) → ArcsBefore ss port (list_number n f) (j + 1) t'
  this_port b t' p from long new = record {
    as_long = long ∙ w.as_long;
    each = λ m h. by m h (m == d.statement) refl (new m h.0 (let k = w.as_long in omega (arith, h.1)));
  }
    where
      by : (m : ℕ) (h : (1 ≤ m) × (m ≤ length ss)) (z : Bool) → (m == d.statement) ≡ z → get_or t' (m - 1) Nothing ≡ (if m == d.statement then with_source (get_or t (m - 1) Nothing) b else get_or t (m - 1) Nothing) → AreFrom ss m port (list_number n f) (j + 1) (get_or t' (m - 1) Nothing)
      by m h true z e =
          let q : get_or t' (m - 1) Nothing ≡ with_source (get_or t (m - 1) Nothing) b = rw z at e in
          let r : m ≡ d.statement = eqb-true m d.statement z in
          let l : Leads ss m port (arc n f j) = leads_by_parts ss n f j it d stands at ∙ (let x : destination d.statement d.port ≡ destination m port = cc in ap (λ (y : Destination). Some y) x) in
          subst (λ (x : Sources). AreFrom ss m port (list_number n f) (j + 1) x) (sym q) (hit ss m port n f j b l from (get_or t (m - 1) Nothing) (w.each m h))
      by m h false z e =
          let q : get_or t' (m - 1) Nothing ≡ get_or t (m - 1) Nothing = rw z at e in
          let away : Leads ss m port (arc n f j) → ⊥ = λ l. false≢true (sym z ∙ eq-eqb m d.statement (let k = sym (leads_by_parts ss n f j it d stands at) ∙ l in cc)) in
          subst (λ (x : Sources). AreFrom ss m port (list_number n f) (j + 1) x) (sym q) (missed ss m port n f j (get_or t (m - 1) Nothing) away (w.each m h))

-- the end of a list
pub next_list : (ss : List StatementParts) (port n : ℕ) (f : Bool) (it : StatementParts) (t : List Sources) → statement_at ss n ≡ Some it → ArcsBefore ss port (list_number n f) (length (list_of it f)) t → ArcsBefore ss port (list_number n f + 1) 0 t
next_list ss port n f it t stands w = record {
  as_long = w.as_long;
  each = λ m h. moved ss m port (get_or t (m - 1) Nothing) (list_number n f) (length (list_of it f)) (list_number n f + 1) 0
      (λ a l k. before_next ss a (destination m port) n f it l stands k)
      (λ a k. before_last a (list_number n f) (length (list_of it f)) k) (w.each m h);
}

-- before the first list there is no arc
pub none_yet : (ss : List StatementParts) (port : ℕ) (t : List Sources) → t ≡ replicate (length ss) Nothing → ArcsBefore ss port 2 0 t
none_yet ss port t e = subst (λ (u : List Sources). ArcsBefore ss port 2 0 u) (sym e) (record {
  as_long = length-replicate (length ss) Nothing;
  each = λ m h. subst (λ (x : Sources). AreFrom ss m port 2 0 x) (sym (get_or-replicate (length ss) (m - 1) Nothing Nothing (omega (arith, h.0, h.1)))) (λ a l k. none a m k l);
})
  where
    first : (a : Arc) (g : Bool) → list_number a.statement g < 2 → 1 ≤ a.statement → ⊥
    first a true x y = omega (arith, x, y)
    first a false x y = omega (arith, x, y)

    none : (a : Arc) (m : ℕ) → Leads ss m port a → IsBefore 2 0 a → ⊥
    none a m l (inl k) =
        let s = arc_stands ss a (destination m port) l in
        first a a.on_false k (number_within ss a.statement s.it s.stands).0
    none a m l (inr k) = omega (arith, k.1)

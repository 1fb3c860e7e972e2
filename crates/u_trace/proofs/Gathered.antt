-- What each entry adds, and what all of them do.
use Rattle.std.proofs.Common.{◌≡◌, List, [], ◌∷◌, refl, sym, subst, ap, ◌∙◌, Ordering}
use Rattle.std.specs.Prelude.{Contains}
use Rattle.std.specs.Ordering.{ordering_then}
use Rattle.std.specs.declared.cmp.Ordering.TheVariants.{Less, Equal, Greater}
use Rattle.u_base.proofs.Member.{Contains-head, Contains-tail}
use Rattle.u_base.specs.Firing.{Same}
use Rattle.u_sets.specs.Members.{SomeOf, Gains}
use Rattle.u_sets.specs.Rising.{Rises, IsListOf}
use Rattle.u_sets.proofs.Places.{irreflexive}
use Rattle.u_name.specs.Name.{Activity}
use Rattle.u_name.specs.NameOrder.{name_cmp, name_cmp_ties}
use Rattle.u_program.specs.Parts.{BlockParts}
use Rattle.u_rule.specs.Parts.{TokenParts, token}
use Rattle.u_rule.specs.declared.entry.Entry.{Entry}
use Rattle.u_rule.specs.declared.entry.Entry.TheVariants as entries
use Rattle.u_trace.specs.Waiting.{HasToken, IsPortOf, IsWaiting}
use Rattle.u_trace.specs.Gathering.{IsTokenOf, WaitsAt}
use Rattle.u_trace.specs.Orders.{waiting_order, by_activity}
use Rattle.u_trace.specs.declared.activities.WaitingActivity.{WaitingActivity}
use Rattle.u_trace.specs.contracts.activities.WaitingActivityOrd.TheImpl.Laws as waiting_laws
use Rattle.u_trace.proofs.PortLaws.{ports_same}
use Rattle.u_trace.proofs.WaitingLaws.{waiting}
use Rattle.u_sets.proofs.Steps.{from_nothing}

-- of a token, what waits is its activity
module _ (p : List BlockParts) (H : Entry → Type 0) (e : Entry) (t : TokenParts) (a : Activity) (w : WaitingActivity) (is : e ≡ entries.Token t) (of : a ≡ t.activity) where
  pub waits_with : WaitsAt p H e w → (a ≡ w.activity) × IsWaiting p H w
  waits_with (o, v) = (of ∙ subst (λ (x : Entry). IsTokenOf w.activity x) is o, v)

  pub waits_of_token : (a ≡ w.activity) × IsWaiting p H w → WaitsAt p H e w
  waits_of_token (q, v) = (subst (λ (x : Entry). IsTokenOf w.activity x) (sym is) (sym of ∙ q), v)

-- an activity waits with one pair of sets
one_waiting : (p : List BlockParts) (H : Entry → Type 0) (v w : WaitingActivity) → v.activity ≡ w.activity → IsWaiting p H v → IsWaiting p H w → v ≡ w
one_waiting p H v w q r s =
    let f : v.has ≡ w.has = ports_same v.has w.has (λ k. ((λ m. (s.has k).1 (subst (λ (n : Activity). IsPortOf p n k × HasToken H n k) q ((r.has k).0 m))), λ m. (r.has k).1 (subst (λ (n : Activity). IsPortOf p n k × HasToken H n k) (sym q) ((s.has k).0 m)))) in
    let g : v.lacks ≡ w.lacks = ports_same v.lacks w.lacks (λ k. ((λ m. (s.lacks k).1 (subst (λ (n : Activity). IsPortOf p n k × (HasToken H n k → ⊥)) q ((r.lacks k).0 m))), λ m. (r.lacks k).1 (subst (λ (n : Activity). IsPortOf p n k × (HasToken H n k → ⊥)) (sym q) ((s.lacks k).0 m)))) in
    ap (λ n. waiting n v.has v.lacks) q ∙ ap (λ x. waiting w.activity x v.lacks) f ∙ ap (λ x. waiting w.activity w.has x) g

-- so the order of names is enough
by_name : (p : List BlockParts) (H : Entry → Type 0) (v w : WaitingActivity) → waiting_order v w ≡ Less → IsWaiting p H v → IsWaiting p H w → by_activity v w ≡ Less
by_name p H v w l r s = at (name_cmp v.activity w.activity) refl
  where
    at : (o : Ordering) → name_cmp v.activity w.activity ≡ o → by_activity v w ≡ Less
    at Less e = e
    at Equal e = absurd (irreflexive waiting_order waiting_laws.total-law v (subst (λ (x : WaitingActivity). waiting_order v x ≡ Less) (sym (one_waiting p H v w (name_cmp_ties v.activity w.activity e) r s)) l))
    at Greater e = let h : ordering_then (name_cmp v.activity w.activity) _ ≡ Less = l in absurd (cc)

rise_by_name : (p : List BlockParts) (H : Entry → Type 0) (xs : List WaitingActivity) → Rises waiting_order xs → ((w : WaitingActivity) → Contains xs w → IsWaiting p H w) → Rises by_activity xs
rise_by_name p H [] up all = tt
rise_by_name p H (x ∷ xs) up all =
    ((λ y m. by_name p H x y (up.0 y m) (all x (Contains-head x xs)) (all y (Contains-tail x y xs m))), rise_by_name p H xs up.1 (λ w m. all w (Contains-tail x w xs m)))

pub all_waiting : (p : List BlockParts) (H : Entry → Type 0) (es : List Entry) (xs : List WaitingActivity) → Same (Contains es) H → Rises waiting_order xs → Gains [] (SomeOf es (WaitsAt p H)) xs → IsListOf by_activity (IsWaiting p H) xs
all_waiting p H es xs same up g = record { rises = rise_by_name p H xs up (λ w m. to w m); exact = λ w. (to w, back w) }
  where
    to : (w : WaitingActivity) → Contains xs w → IsWaiting p H w
    to w m = let s = (from_nothing (SomeOf es (WaitsAt p H)) xs g w).0 m in s.2.1

    back : (w : WaitingActivity) → IsWaiting p H w → Contains xs w
    back w is =
        let t = ((is.has is.filled.0).0 is.filled.1).1 in
        (from_nothing (SomeOf es (WaitsAt p H)) xs g w).1 (entries.Token (token w.activity is.filled.0 t.0), (same (entries.Token (token w.activity is.filled.0 t.0))).1 t.1, (refl, is))

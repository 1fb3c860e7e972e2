-- The laws of unions, for the laws of merging.
use Rattle.std.proofs.Common.{◌≡◌, ◌↔◌, inl, inr, List, [], Contains}
use Rattle.u_sets.specs.Rising.{Rises}
use Rattle.u_sets.specs.Members.{IsUnion}
use Rattle.u_base.proofs.Member.{Contains-nil}
use Rattle.u_sets.proofs.Places.{one_list}
use Rattle.u_rule.specs.EntryOrder.{entry_cmp}
use Rattle.u_rule.specs.ExactOrders.{entry_cmp_total}
use Rattle.u_rule.specs.declared.entry.Entry.{Entry}

-- two lists in order that are unions of the same lists are one list
pub union_is_one : (a b u w : List Entry) → Rises entry_cmp u → Rises entry_cmp w → IsUnion a b u → IsUnion a b w → u ≡ w
union_is_one a b u w r s p q = one_list entry_cmp entry_cmp_total u w r s (λ x. ((λ m. (q x).1 ((p x).0 m)), λ m. (p x).1 ((q x).0 m)))

turned : (a b u : List Entry) → IsUnion a b u → IsUnion b a u
turned a b u p x = ((λ m. elim ((p x).0 m) [ inl k ↦ inr k | inr k ↦ inl k ]), λ s. elim s [ inl k ↦ (p x).1 (inr k) | inr k ↦ (p x).1 (inl k) ])

pub union_commutes : (a b u : List Entry) → IsUnion a b u ↔ IsUnion b a u
union_commutes a b u = (turned a b u, turned b a u)

-- from the front to the back, and then by turning both round
regrouped : (a b c front back u : List Entry) → IsUnion a b front → IsUnion b c back → IsUnion front c u → IsUnion a back u
regrouped a b c front back u p q r x = (
  (λ m. elim ((r x).0 m) [ inl k ↦ elim ((p x).0 k) [ inl l ↦ inl l | inr l ↦ inr ((q x).1 (inl l)) ] | inr k ↦ inr ((q x).1 (inr k)) ]),
  λ s. elim s [ inl k ↦ (r x).1 (inl ((p x).1 (inl k))) | inr k ↦ elim ((q x).0 k) [ inl l ↦ (r x).1 (inl ((p x).1 (inr l))) | inr l ↦ (r x).1 (inr l) ] ],
)

pub union_associates : (a b c front back u : List Entry) → IsUnion a b front → IsUnion b c back → IsUnion front c u ↔ IsUnion a back u
union_associates a b c front back u p q =
    (regrouped a b c front back u p q, λ r. turned c front u (regrouped c b a back front u (turned b c back q) (turned a b front p) (turned a back u r)))

pub union_with_itself : (a : List Entry) → IsUnion a a a
union_with_itself a x = ((λ m. inl m), λ s. elim s [ inl k ↦ k | inr k ↦ k ])

pub union_with_none : (a : List Entry) → IsUnion a [] a
union_with_none a x = ((λ m. inl m), λ s. elim s [ inl k ↦ k | inr n ↦ absurd (Contains-nil x n) ])

pub union_has_left : (a b u : List Entry) → IsUnion a b u → (e : Entry) → Contains a e → Contains u e
union_has_left a b u p e m = (p e).1 (inl m)

pub union_has_right : (a b u : List Entry) → IsUnion a b u → (e : Entry) → Contains b e → Contains u e
union_has_right a b u p e m = (p e).1 (inr m)

pub union_is_least : (a b u above : List Entry) → IsUnion a b u → ((e : Entry) → Contains a e → Contains above e) → ((e : Entry) → Contains b e → Contains above e) → (e : Entry) → Contains u e → Contains above e
union_is_least a b u above p l r e m = elim ((p e).0 m) [ inl k ↦ l e k | inr k ↦ r e k ]

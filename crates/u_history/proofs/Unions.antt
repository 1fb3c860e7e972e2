-- Sets that took in the entries of another.
use Rattle.std.proofs.Common.{◌≡◌, inl, inr, List, [], Contains}
use Rattle.std.specs.Prelude.{Result, Ok, Err, OnOk}
use Rattle.u_base.specs.Firing.{Same}
use Rattle.u_base.proofs.Member.{Contains-nil}
use Rattle.u_sets.proofs.Places.{one_list}
use Rattle.u_sets.specs.Rising.{Rises}
use Rattle.u_sets.specs.Members.{IsUnion}
use Rattle.u_rule.specs.EntryOrder.{entry_cmp}
use Rattle.u_rule.specs.ExactOrders.{entry_cmp_total}
use Rattle.u_rule.specs.declared.entry.Entry.{Entry}

-- a union with a list is one with each list of the same members
pub same_union : {E : Type 0} (r : Result (Unit {0}) E) (left right other all : List Entry) → Same (Contains right) (Contains other) → OnOk r (IsUnion left right all) → OnOk r (IsUnion left other all)
same_union (Ok t) left right other all s u = λ x. (
  (λ m. elim ((u x).0 m) [ inl a ↦ inl a | inr b ↦ inr ((s x).0 b) ]),
  λ k. elim k [ inl a ↦ (u x).1 (inl a) | inr b ↦ (u x).1 (inr ((s x).1 b)) ],
)
same_union (Err e) left right other all s u = tt

-- what was put into the empty set is all that it has
pub copied : (all new : List Entry) → Rises entry_cmp all → Rises entry_cmp new → IsUnion [] all new → new ≡ all
copied all new r s u = one_list entry_cmp entry_cmp_total new all s r (λ x. ((λ m. elim ((u x).0 m) [ inl n ↦ absurd (Contains-nil x n) | inr k ↦ k ]), λ k. (u x).1 (inr k)))

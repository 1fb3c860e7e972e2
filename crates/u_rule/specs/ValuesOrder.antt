-- The order and the hash of lists of values, over those that values derive. The laws stand here
-- because the impls of `Ord` and `Hash` cite them.
use Rattle.std.specs.Prelude.{◌≡◌, IsTrue}
use Rattle.std.proofs.Common.{ap}
use Rattle.std.specs.Hash as fed
use Rattle.std.specs.Hash.{HashWrites}
use Rattle.std.specs.Ordering.{eq_by_cmp}
use Rattle.std.specs.Cmp.{IsTotalOrder, Equal-is}
use Rattle.std.specs.Cmp.Lexicographic.{slice_cmp}
use Rattle.std.specs.FinMap.{slice_cmp-IsAntisymmetric}
use Rattle.std.specs.declared.cmp.Ordering.{Ordering}
use Rattle.std.specs.declared.cmp.Ordering.TheVariants.{Equal}
use Rattle.std.proofs.lemmas.Cmp.{lists_total}
use Rattle.u_value.specs.ExactOrders.{derived_value_ties}
use Rattle.u_value.specs.contracts.value.ValueOrd.TheImpl as value_ord
use Rattle.u_value.specs.contracts.value.ValueOrd.TheImpl.Laws as value_laws
use Rattle.u_value.specs.contracts.value.ValueHash.TheImpl as value_hashes
use Rattle.u_rule.specs.Parts.{ValueList}

abbrev pub values_order : ValueList → ValueList → Ordering
values_order = slice_cmp (value_ord.ghosts).cmp

pub values_order_total : IsTotalOrder values_order
values_order_total = lists_total value_laws.total-law

pub values_order_ties : (a b : ValueList) → values_order a b ≡ Equal → a ≡ b
values_order_ties = slice_cmp-IsAntisymmetric derived_value_ties

abbrev pub values_hash : ValueList → HashWrites
values_hash vs = fed.slice (value_hashes.ghosts).hash_input vs

pub values_hash_alike : (a b : ValueList) → IsTrue (eq_by_cmp values_order a b) → values_hash a ≡ values_hash b
values_hash_alike a b h = ap values_hash (values_order_ties a b ((Equal-is (values_order a b)).0 h))

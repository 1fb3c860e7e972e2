-- The order and the hash of a writer and what it wrote, which derive from those of names and values, and how they are
-- stored. The laws stand here because the impls of `Ord`, `Hash` and `ExactOrd` cite them.
use Rattle.std.specs.Prelude.{◌≡◌, IsTrue}
use Rattle.std.proofs.Common.{ap, ◌∙◌}
use Rattle.std.specs.Coded.{Coded}
use Rattle.std.specs.Hash.{HashWrites}
use Rattle.std.specs.Ordering.{eq_by_cmp}
use Rattle.std.specs.Cmp.{IsTotalOrder, Equal-is}
use Rattle.std.specs.declared.cmp.Ordering.{Ordering}
use Rattle.std.specs.declared.cmp.Ordering.TheVariants.{Equal}
use Rattle.u_name.specs.ContextLaws.{both}
use Rattle.u_name.specs.Name.{Activity}
use Rattle.u_name.specs.NameOrder.{name_cmp_ties}
use Rattle.u_value.specs.ExactOrders.{derived_value_ties}
use Rattle.u_value.specs.declared.value.Value.{Value}
use Rattle.u_rule.specs.declared.parts.Written.{Written}
use Rattle.u_rule.specs.contracts.parts.Written as written_row
use Rattle.u_rule.specs.contracts.parts.WrittenOrd.TheImpl as written_ord
use Rattle.u_rule.specs.contracts.parts.WrittenOrd.TheImpl.Laws as written_laws
use Rattle.u_rule.specs.contracts.parts.WrittenHash.TheImpl as written_hashes

abbrev pair : Activity → Value → Written
pair writer value = record { writer = writer; value = value }

abbrev pub written_code : Coded Written
written_code = written_row.the_row.coded

abbrev pub written_order : Written → Written → Ordering
written_order = (written_ord.ghosts).cmp

pub written_order_total : IsTotalOrder written_order
written_order_total = written_laws.total-law

-- a writer and what it wrote that tie are the same
pub written_order_ties : (a b : Written) → written_order a b ≡ Equal → a ≡ b
written_order_ties a b h =
    let u = both _ _ h in
    ap (λ n. pair n a.value) (name_cmp_ties a.writer b.writer u.0) ∙ ap (λ v. pair b.writer v) (derived_value_ties a.value b.value u.1)

abbrev pub written_hash : Written → HashWrites
written_hash = (written_hashes.ghosts).hash_input

pub written_hash_alike : (a b : Written) → IsTrue (eq_by_cmp written_order a b) → written_hash a ≡ written_hash b
written_hash_alike a b h = ap written_hash (written_order_ties a b ((Equal-is (written_order a b)).0 h))

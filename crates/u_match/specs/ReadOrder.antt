-- Only a read itself ties with it.
use Rattle.std.specs.Prelude.{◌≡◌}
use Rattle.std.proofs.Common.{ap, ◌∙◌}
use Rattle.std.specs.declared.cmp.Ordering.TheVariants.{Equal}
use Rattle.u_name.specs.ContextLaws.{both}
use Rattle.u_name.specs.NameOrder.{name_cmp_ties}
use Rattle.u_value.specs.ExactOrders.{derived_value_ties}
use Rattle.u_match.specs.Keys.{read}
use Rattle.u_match.specs.declared.meeting.Read.{Read}
use Rattle.u_match.specs.contracts.meeting.ReadOrd.TheImpl as read_ord

-- reads that tie are the same
pub read_ties : (a b : Read) → (read_ord.ghosts).cmp a b ≡ Equal → a ≡ b
read_ties a b h =
    let u = both _ _ h in
    let v = both _ _ u.1 in
    ap (λ n. read n a.structure a.index) (name_cmp_ties a.activity b.activity u.0)
    ∙ ap (λ s. read b.activity s a.index) (derived_value_ties a.structure b.structure v.0)
    ∙ ap (λ i. read b.activity b.structure i) (derived_value_ties a.index b.index v.1)

-- Waiting activities and deferred reads have orders in which only a thing itself ties with it. The laws
-- stand here because the impls of `ExactOrd` cite them.
use Rattle.std.specs.Prelude.{ℕ}
use Rattle.std.proofs.Common.{ap, ◌∙◌}
use Rattle.std.specs.FinMap.{nat_cmp-IsAntisymmetric}
use Rattle.u_name.specs.Name.{Activity}
use Rattle.u_name.specs.Cell.{CellOf}
use Rattle.u_name.specs.ContextLaws.{both}
use Rattle.u_name.specs.NameOrder.{name_cmp_ties}
use Rattle.u_name.specs.ExactOrders.{cell_cmp_ties}
use Rattle.u_base.specs.Exact.{IsExact}
use Rattle.u_trace.specs.Orders.{waiting_order, read_order}
use Rattle.u_trace.specs.declared.ports.Ports.{Ports}
use Rattle.u_trace.specs.declared.activities.WaitingActivity.{WaitingActivity}
use Rattle.u_trace.specs.declared.reads.DeferredRead.{DeferredRead}
use Rattle.u_trace.specs.contracts.ports.PortsOrd.TheImpl as ports_ord

abbrev ports : ℕ → Ports
ports bits = record { bits = bits }

abbrev waiting : Activity → Ports → Ports → WaitingActivity
waiting activity has lacks = record { activity = activity; has = has; lacks = lacks }

abbrev read : Activity → CellOf → DeferredRead
read reader cell = record { reader = reader; cell = cell }

ports_ties : IsExact (ports_ord.ghosts).cmp
ports_ties a b h = ap ports (nat_cmp-IsAntisymmetric a.bits b.bits h)

pub waiting_ties : IsExact waiting_order
waiting_ties a b h =
    let u = both _ _ h in
    let v = both _ _ u.1 in
    ap (λ n. waiting n a.has a.lacks) (name_cmp_ties a.activity b.activity u.0)
    ∙ ap (λ x. waiting b.activity x a.lacks) (ports_ties a.has b.has v.0)
    ∙ ap (λ x. waiting b.activity b.has x) (ports_ties a.lacks b.lacks v.1)

pub read_ties : IsExact read_order
read_ties a b h =
    let u = both _ _ h in
    ap (λ n. read n a.cell) (name_cmp_ties a.reader b.reader u.0) ∙ ap (λ c. read b.reader c) (cell_cmp_ties a.cell b.cell u.1)

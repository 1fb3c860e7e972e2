-- Ports have an order in which only a thing itself ties with it. The law stands here because the
-- impl of `ExactOrd` cites it.
use Rattle.std.specs.Prelude.{ℕ}
use Rattle.std.proofs.Common.{ap, ◌∙◌}
use Rattle.std.specs.FinMap.{nat_cmp-IsAntisymmetric}
use Rattle.u_name.specs.ContextLaws.{both}
use Rattle.u_name.specs.Name.{Activity}
use Rattle.u_name.specs.NameOrder.{name_cmp_ties}
use Rattle.u_base.specs.Exact.{IsExact}
use Rattle.u_history.specs.Clashes.{port_order, port_of}

pub port_ties : IsExact port_order
port_ties a b h =
    let u = both _ _ h in
    ap (λ (n : Activity). port_of n a.number) (name_cmp_ties a.activity b.activity u.0)
    ∙ ap (λ (k : ℕ). port_of b.activity k) (nat_cmp-IsAntisymmetric a.number b.number u.1)

use Rattle.std.proofs.Common.{Contains, List, subst}
use Rattle.std.specs.List.{AllZip}
use Rattle.u_history.specs.declared.clash.Port.{Port}
use Rattle.u_history.specs.Outcomes.{lent}
use Rattle.u_history.specs.Clashes.{HasValuesOf}
use Rattle.u_history.proofs.Clashing.{ports_grouped}
use Rattle.u_history.proofs.clash.port_clashes.Goals as goal

pub returns : goal.returns
returns c =
    let H = Contains (lent c.args.entries.now) in
    ports_grouped H c.in_ok-ports.ports.items c.in_ok-list.list.items c.in_ok-ports.ensures
    (subst (λ (xs : List Port). AllZip (HasValuesOf H) xs c.in_ok-list.list.items) c.deref.ensures.value c.in_ok-list.ensures)

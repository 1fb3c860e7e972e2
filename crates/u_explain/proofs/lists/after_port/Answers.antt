use Rattle.std.proofs.Common.{◌∷◌}
use Rattle.std.specs.Fmt.{decimal}
use Rattle.u_explain.proofs.LeftLaws.{fixed_through}
use Rattle.u_explain.proofs.lists.after_port.Goals as goal

pub returns-in-Ok : goal.returns-in-Ok
returns-in-Ok c = fixed_through (decimal c.args.statement) (46 ∷ decimal c.args.port) c.args.bytes.now c.in-Ok.rest.now c.after_dot.result c.in-Ok.ensures c.after_dot.ensures

use Rattle.std.proofs.Common.{inr, refl}
use Rattle.u_commands.proofs.input.Task.read.Goals as goal

pub returns-in-None : goal.returns-in-None
returns-in-None c = inr (record { input = c.in-Ok.input; is = c.in-Ok.ensures; none = c.in-None.ensures; told = refl })

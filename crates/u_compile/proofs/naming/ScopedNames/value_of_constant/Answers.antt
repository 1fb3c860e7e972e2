use Rattle.u_compile.specs.Namings.{known}
use Rattle.u_compile.proofs.KnownLaws.{learns_none}
use Rattle.u_compile.proofs.naming.ScopedNames.value_of_constant.Goals as goal

pub returns-in-Some-clause-learns : goal.returns-in-Some-clause-learns
returns-in-Some-clause-learns c = learns_none c.args.drawing.now (known c.args.self.now)

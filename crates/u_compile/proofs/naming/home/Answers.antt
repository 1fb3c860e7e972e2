use Rattle.u_compile.specs.Namings.{itself, inside}
use Rattle.u_compile.proofs.naming.home.Goals as goal

pub returns-in-Some-clause-within : goal.returns-in-Some-clause-within
returns-in-Some-clause-within c = c.outwards.invariant c.outwards.at itself

pub outwards-preserved : goal.outwards-preserved
outwards-preserved c = λ outer h. c.outwards.invariant outer (inside c.outwards.at _ c.in_ok-at.ensures h)

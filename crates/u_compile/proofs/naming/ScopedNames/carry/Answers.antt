use Rattle.u_compile.proofs.ComesLaws.{brings_entered}
use Rattle.u_compile.proofs.naming.ScopedNames.carry.Goals as goal

pub returns-clause-brings : goal.returns-clause-brings
returns-clause-brings c = brings_entered _ _ _ _ _ _ _ c.in_ok-number.ensures c.in-Turn.is c.in_ok-inner.ensures.gives

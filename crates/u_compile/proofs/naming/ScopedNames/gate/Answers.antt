use Rattle.u_compile.proofs.ComesLaws.{brings_gated}
use Rattle.u_compile.proofs.naming.ScopedNames.gate.Goals as goal

pub returns-clause-brings : goal.returns-clause-brings
returns-clause-brings c = brings_gated _ _ _ _ _ _ _ _ c.in_ok-control.ensures c.in-Side.is c.in_ok-inner.ensures.grows c.in_ok-inner.ensures.gated

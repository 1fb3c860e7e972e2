use Rattle.std.proofs.Common.{length}
use Rattle.u_compile.specs.declared.naming.ConstantBinding.{ConstantBinding}
use Rattle.u_compile.specs.Scoped.{IsOf}
use Rattle.u_compile.proofs.naming.given.Given as goal

abbrev pub invariant-loop-given : goal.invariant-loop-given
invariant-loop-given l = (x : ConstantBinding) → IsOf l.rest x → IsOf l.constants x

abbrev pub decreases-loop-given : goal.decreases-loop-given
decreases-loop-given l = length l.rest

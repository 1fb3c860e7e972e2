use Rattle.std.proofs.Common.{length}
use Rattle.u_compile.specs.declared.naming.Binding.{Binding}
use Rattle.u_compile.specs.Scoped.{IsOf}
use Rattle.u_compile.proofs.naming.bound.Given as goal

abbrev pub invariant-loop-binding : goal.invariant-loop-binding
invariant-loop-binding l = (b : Binding) → IsOf l.rest b → IsOf l.bindings b

abbrev pub decreases-loop-binding : goal.decreases-loop-binding
decreases-loop-binding l = length l.rest

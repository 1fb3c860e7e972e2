use Rattle.std.proofs.Common.{length}
use Rattle.u_compile.specs.Operands.{lowering}
use Rattle.u_compile.proofs.OperandLaws.{Resolved}
use Rattle.u_compile.proofs.lowering.Lowering.resolve_all.Given as goal

abbrev pub invariant-resolving : goal.invariant-resolving
invariant-resolving l = Resolved (lowering l.fn.self) (lowering l.self) l.fn.taken.items l.waiting.items l.values.items

abbrev pub decreases-resolving : goal.decreases-resolving
decreases-resolving l = length l.waiting.items

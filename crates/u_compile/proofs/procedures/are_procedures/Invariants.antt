use Rattle.std.proofs.Common.{length}
use Rattle.u_compile.specs.Procedures.{AreProcedures}
use Rattle.u_compile.proofs.procedures.are_procedures.Given as goal

abbrev pub invariant-loop-node : goal.invariant-loop-node
invariant-loop-node l = AreProcedures l.tokens l.rest l.left → AreProcedures l.tokens l.nodes l.blocks

abbrev pub decreases-loop-node : goal.decreases-loop-node
decreases-loop-node l = length l.rest

use Rattle.std.proofs.Common.{length}
use Rattle.u_compile.specs.Placed.{AreFree}
use Rattle.u_compile.proofs.placed.are_free.Given as goal

abbrev pub invariant-loop-draft : goal.invariant-loop-draft
invariant-loop-draft l = AreFree l.rest l.new → AreFree l.drafts l.new

abbrev pub decreases-loop-draft : goal.decreases-loop-draft
decreases-loop-draft l = length l.rest

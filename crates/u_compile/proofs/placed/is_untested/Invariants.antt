use Rattle.std.proofs.Common.{length}
use Rattle.u_compile.specs.Placed.{IsUntested}
use Rattle.u_compile.proofs.placed.is_untested.Given as goal

abbrev pub invariant-loop-draft : goal.invariant-loop-draft
invariant-loop-draft l = IsUntested l.rest l.region → IsUntested l.drafts l.region

abbrev pub decreases-loop-draft : goal.decreases-loop-draft
decreases-loop-draft l = length l.rest

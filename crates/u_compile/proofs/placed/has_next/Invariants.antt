use Rattle.std.proofs.Common.{length}
use Rattle.u_compile.specs.Placed.{HasNext}
use Rattle.u_compile.proofs.placed.has_next.Given as goal

abbrev pub invariant-loop-draft : goal.invariant-loop-draft
invariant-loop-draft l = HasNext l.rest l.enter → HasNext l.drafts l.enter

abbrev pub decreases-loop-draft : goal.decreases-loop-draft
decreases-loop-draft l = length l.rest

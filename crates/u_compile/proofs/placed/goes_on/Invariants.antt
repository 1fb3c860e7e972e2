use Rattle.std.proofs.Common.{length}
use Rattle.u_compile.specs.Placed.{EachGoesOn}
use Rattle.u_compile.proofs.placed.goes_on.Given as goal

abbrev pub invariant-loop-draft : goal.invariant-loop-draft
invariant-loop-draft l = EachGoesOn l.rest l.drafts → EachGoesOn l.drafts l.drafts

abbrev pub decreases-loop-draft : goal.decreases-loop-draft
decreases-loop-draft l = length l.rest

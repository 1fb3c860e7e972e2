use Rattle.std.proofs.Common.{◌≡◌, length}
use Rattle.u_source.specs.Choosing.{outcome_among}
use Rattle.u_source.proofs.choosing.outcome_among.Given as goal

abbrev pub invariant-loop-row : goal.invariant-loop-row
invariant-loop-row l = outcome_among l.rest l.next ≡ outcome_among l.rows l.next

abbrev pub decreases-loop-row : goal.decreases-loop-row
decreases-loop-row l = length l.rest

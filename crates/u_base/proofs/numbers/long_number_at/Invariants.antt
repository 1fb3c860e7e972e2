use Rattle.std.proofs.Common.{◌≡◌, ◌≤◌, length}
use Rattle.u_base.specs.Number.{digits_from}
use Rattle.u_base.proofs.numbers.long_number_at.Given as goal

abbrev pub invariant-loop-digit : goal.invariant-loop-digit
invariant-loop-digit l = (l.n ≤ l.max) × (digits_from l.max l.n l.rest ≡ digits_from l.max l.initial.n l.initial.rest)

abbrev pub decreases-loop-digit : goal.decreases-loop-digit
decreases-loop-digit l = length l.rest

use Rattle.std.proofs.Common.{◌≡◌, ◌+◌, ◌≤◌, length}
use Rattle.u_scope.specs.Counting.{commas}
use Rattle.u_scope.proofs.counting.commas.Given as goal

abbrev pub invariant-loop-others : goal.invariant-loop-others
invariant-loop-others l = (commas l.tokens ≡ l.count + commas l.rest) × (l.count + length l.rest ≤ length l.tokens)

abbrev pub decreases-loop-others : goal.decreases-loop-others
decreases-loop-others l = length l.rest

use Rattle.std.proofs.Common.{ℕ, ◌<◌, get_or}
use Rattle.u_determinate.specs.Flow.{IsMarked}
use Rattle.u_determinate.proofs.sides.are_marked.Given as goal

abbrev pub invariant-loop-number : goal.invariant-loop-number
invariant-loop-number l = (i : ℕ) → i < l.number-index → IsMarked l.marks (get_or l.numbers i 0)

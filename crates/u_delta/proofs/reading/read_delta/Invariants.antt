use Rattle.std.proofs.Common.{◌≡◌, ◌-◌, ◌∷◌, [], length}
use Rattle.u_delta.specs.HeadReading.{opening_line}
use Rattle.u_delta.specs.Lines.{lines_behind}
use Rattle.u_delta.specs.Reading.{IsBegun, begun_lines}
use Rattle.u_delta.proofs.reading.read_delta.Given as goal

abbrev pub invariant-loop-alloc : goal.invariant-loop-alloc
invariant-loop-alloc l = IsBegun l.opening l.firings.items × (lines_behind (opening_line l.opening ∷ []) l.bytes ≡ lines_behind (begun_lines l.opening l.firings.items) l.rest)

abbrev pub decreases-loop-alloc : goal.decreases-loop-alloc
decreases-loop-alloc l = l.opening.count - length l.firings.items

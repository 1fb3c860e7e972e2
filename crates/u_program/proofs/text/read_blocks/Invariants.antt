use Rattle.std.proofs.Common.{◌≡◌, ◌≤◌, ◌+◌, length, ◌∷◌}
use Rattle.u_program.specs.Text.{header}
use Rattle.u_program.specs.Begun.{part_lines, IsPart, IsRead}
use Rattle.u_program.specs.Limits.{limits_of}
use Rattle.u_program.proofs.text.read_blocks.Given as goal

abbrev pub invariant-loop-text : goal.invariant-loop-text
invariant-loop-text l = IsRead l.bytes (header l.fn.version ∷ part_lines l.fn.version l.part.done.items l.part.last) l.rest × IsPart (limits_of l.fn.version) l.part.done.items l.part.last × (l.line ≡ length (header l.fn.version ∷ part_lines l.fn.version l.part.done.items l.part.last)) × (l.line + length l.rest ≤ length l.bytes)

abbrev pub decreases-loop-text : goal.decreases-loop-text
decreases-loop-text l = length l.rest

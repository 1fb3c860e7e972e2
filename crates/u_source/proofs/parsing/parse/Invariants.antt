use Rattle.std.proofs.Common.{◌≤◌, ◌-◌, ℕ, length}
use Rattle.u_source.specs.Derivations.{Leads, start}
use Rattle.u_source.specs.Progress.{place_in}
use Rattle.u_source.proofs.Measure.{left_to_do}
use Rattle.u_source.proofs.parsing.parse.Given as goal

abbrev pub invariant-loop-top : goal.invariant-loop-top
invariant-loop-top l = record { inside : l.parser.number ≤ length l.tokens; steps : ℕ; leads : Leads steps (start l.tokens) l.parser.nodes.items (place_in l.tokens l.parser.stack.items l.parser.number) }

abbrev pub decreases-loop-top : goal.decreases-loop-top
decreases-loop-top l = left_to_do l.parser.stack.items (length l.tokens - l.parser.number)

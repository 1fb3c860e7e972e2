use Rattle.std.proofs.Common.{◌≡◌, ◌++◌, List, ℕ, length}
use Rattle.u_base.specs.Spaced.{ended}
use Rattle.u_world.specs.Scripts.{AreLinesOf}
use Rattle.u_world.proofs.script.read_script.Given as goal

-- the events are those of the lines before the rest
abbrev pub invariant-loop-line : goal.invariant-loop-line
invariant-loop-line l = (ls : List (List ℕ)) × AreLinesOf ls l.events.items × (l.bytes ≡ ended ls ++ l.rest)

abbrev pub decreases-loop-line : goal.decreases-loop-line
decreases-loop-line l = length l.rest

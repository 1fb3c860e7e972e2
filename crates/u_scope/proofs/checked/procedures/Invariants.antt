use Rattle.std.proofs.Common.{◌≡◌, ◌+◌, ◌++◌, length}
use Rattle.u_scope.specs.Entries.{procedures_from}
use Rattle.u_scope.proofs.checked.procedures.Given as goal

abbrev pub invariant-loop-node : goal.invariant-loop-node
invariant-loop-node l = (l.found.items ++ procedures_from l.number l.rest ≡ procedures_from 0 l.nodes) × (l.number + length l.rest ≡ length l.nodes)

abbrev pub decreases-loop-node : goal.decreases-loop-node
decreases-loop-node l = length l.rest

use Rattle.std.proofs.Common.{◌≡◌, ◌+◌, drop, length, reverse, take}
use Rattle.u_scope.specs.Kinds.{kinded}
use Rattle.u_scope.specs.KindVerdicts.{clash_at, IsLeast}
use Rattle.u_scope.proofs.checking.first_clash.Given as goal

abbrev pub invariant-loop-node : goal.invariant-loop-node
invariant-loop-node l = record { rest : drop l.number l.nodes ≡ l.rest; count : l.number + length l.rest ≡ length l.nodes; seen : reverse l.walk.seen.items ≡ kinded l.meanings (reverse (take l.number l.nodes)); least : IsLeast (clash_at l.tokens l.meanings l.nodes) l.number l.walk.first }

abbrev pub decreases-loop-node : goal.decreases-loop-node
decreases-loop-node l = length l.rest

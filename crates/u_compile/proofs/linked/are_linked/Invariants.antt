use Rattle.std.proofs.Common.{◌-◌, ◌<◌, ◌≤◌, ℕ}
use Rattle.u_compile.specs.Placed.{IsLinked}
use Rattle.u_compile.proofs.linked.are_linked.Given as goal

abbrev pub invariant-loop-port : goal.invariant-loop-port
invariant-loop-port l = record {
  linked : (q : ℕ) → 1 ≤ q → q < l.port → IsLinked l.links l.statement q;
  from_one : 1 ≤ l.port;
  few : l.port ≤ 6;
}

abbrev pub decreases-loop-port : goal.decreases-loop-port
decreases-loop-port l = 6 - l.port

use Rattle.std.proofs.Common.{◌-◌, ◌≤◌}
use Rattle.u_compile.specs.Fanning.{FansOut}
use Rattle.u_compile.proofs.Fans.{FewBefore}
use Rattle.u_compile.proofs.graph.Graph.fan_out_all.Given as goal

abbrev pub invariant-loop-number : goal.invariant-loop-number
invariant-loop-number l = record {
  few : FewBefore l.number l.self;
  fans : FansOut l.initial.self l.self;
  from_one : 1 ≤ l.number;
  few_numbers : l.number ≤ 1000;
}

abbrev pub decreases-loop-number : goal.decreases-loop-number
decreases-loop-number l = 1000 - l.number

use Rattle.std.proofs.Common.{take}
use Rattle.u_rule.specs.Rule.{own_of}
use Rattle.u_trace.specs.Table.{place_in, Owns}
use Rattle.u_trace.specs.Givers.{AreGivers}
use Rattle.u_trace.proofs.givers.givers_of.Given as goal

abbrev pub invariant-loop-place : goal.invariant-loop-place
invariant-loop-place l = record {
  givers : AreGivers (own_of l.job) (take l.place l.log) (place_in l.givers);
  owners : Owns l.givers (take l.place l.log);
}

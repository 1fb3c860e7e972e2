use Rattle.std.proofs.Common.{take}
use Rattle.u_rule.specs.Rule.{own_of}
use Rattle.u_trace.specs.Holding.{GainsGiven}
use Rattle.u_trace.proofs.holding.put_given.Given as goal

abbrev pub invariant-loop-firing : goal.invariant-loop-firing
invariant-loop-firing l = GainsGiven (own_of l.job) l.initial.held (take l.firing-index l.firings) l.held

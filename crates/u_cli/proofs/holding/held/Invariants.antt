use Rattle.std.proofs.Common.{◌↔◌, take, Contains}
use Rattle.u_rule.specs.Rule.{own_of}
use Rattle.u_rule.specs.declared.entry.Entry.{Entry}
use Rattle.u_base.specs.Firing.{Held}
use Rattle.u_cli.proofs.holding.held.Given as goal

abbrev pub invariant-loop-firing : goal.invariant-loop-firing
invariant-loop-firing l = (e : Entry) → Contains l.history e ↔ Held (own_of l.job) (take l.firing-index l.firings) e

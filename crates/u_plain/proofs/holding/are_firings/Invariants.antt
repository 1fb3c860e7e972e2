use Rattle.std.proofs.Common.{take, Contains, IsTrue}
use Rattle.u_rule.specs.Rule.{is_own_of}
use Rattle.u_rule.specs.declared.firing.Firing.{Firing}
use Rattle.u_plain.proofs.holding.are_firings.Given as goal

abbrev pub invariant-loop-firing : goal.invariant-loop-firing
invariant-loop-firing l = (f : Firing) → Contains (take l.firing-index l.firings) f → IsTrue (is_own_of l.job f)

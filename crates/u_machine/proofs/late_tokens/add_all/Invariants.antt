use Rattle.std.proofs.Common.{take}
use Rattle.u_sets.specs.Members.{IsUnion}
use Rattle.u_machine.proofs.late_tokens.add_all.Given as goal

abbrev pub invariant-loop-firing : goal.invariant-loop-firing
invariant-loop-firing l = IsUnion l.initial.ready (take l.firing-index l.firings) l.ready

use Rattle.std.proofs.Common.{take}
use Rattle.u_machine.specs.Taking.{HasSoManyNew}
use Rattle.u_machine.proofs.machine.Machine.new_among.Given as goal

abbrev pub invariant-loop-firing : goal.invariant-loop-firing
invariant-loop-firing l = HasSoManyNew l.self (take l.firing-index l.firings) l.count

use Rattle.std.proofs.Common.{take}
use Rattle.u_machine.specs.Taking.{AreFirings}
use Rattle.u_machine.proofs.taking.first_other.Given as goal

abbrev pub invariant-loop-place : goal.invariant-loop-place
invariant-loop-place l = AreFirings l.job (take l.place l.firings)

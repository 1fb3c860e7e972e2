use Rattle.u_determinate.specs.Breaches.{IsFirstFailing}
use Rattle.u_determinate.specs.Tables.{PortsBelowAreFed}
use Rattle.u_determinate.proofs.ports.first_fed_amiss.Given as goal

abbrev pub invariant-loop-port : goal.invariant-loop-port
invariant-loop-port l = IsFirstFailing (PortsBelowAreFed l.block.statements l.port) l.first

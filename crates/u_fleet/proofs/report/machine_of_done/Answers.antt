use Rattle.std.proofs.Common.{arith}
use Rattle.u_fleet.proofs.Ended.{took_done, left_done}
use Rattle.u_fleet.proofs.report.machine_of_done.Goals as goal

pub returns-clause-took : goal.returns-clause-took
returns-clause-took g c = took_done _ _ _ c.requires.place c.requires.runs c.requires.whole _ _ (c.in_ok-machine.ensures).took (omega arith)

pub returns-clause-whole : goal.returns-clause-whole
returns-clause-whole g c = left_done _ _ _ c.requires.place c.requires.runs c.requires.whole _ _ c.holds.ensures.is (c.in_ok-machine.ensures).took (omega arith)

use Rattle.std.proofs.Common.{◌-◌}
use Rattle.u_commands.proofs.RanLaws.{ran_on, limit_stays}
use Rattle.u_commands.proofs.reporting.run_on.Goals as goal

pub returns-in-Ok-clause-ok : goal.returns-in-Ok-clause-ok
returns-in-Ok-clause-ok g c =
    rw c.ending_of.ensures
    (ran_on c.args.machine.now c.run_watched-ran.new.machine c.args.fired c.args.firings c.requires.fired c.requires.more c.holds.ensures.is c.in-Ok.ran c.in-Ok.ensures.answer)

pub returns-in-Ok-clause-limit : goal.returns-in-Ok-clause-limit
returns-in-Ok-clause-limit g c = limit_stays c.args.machine.now c.run_watched-ran.new.machine (c.args.firings - c.args.fired) c.in-Ok.ran c.in-Ok.ensures.answer

use Rattle.std.proofs.Common.{take}
use Rattle.u_base.specs.Firing.{Same}
use Rattle.u_machine.specs.State.{Taken}
use Rattle.u_fleet.specs.Gains.{Gains}
use Rattle.u_fleet.specs.Headline.{IsPublished}
use Rattle.u_fleet.proofs.report.take_lists.Given as goal

abbrev pub invariant-loop-list : goal.invariant-loop-list
invariant-loop-list g l = Gains l.initial.replica.machine l.replica.machine × Same (Taken l.replica.machine) (IsPublished (take l.list-index l.lists))

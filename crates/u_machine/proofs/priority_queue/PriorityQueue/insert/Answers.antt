use Rattle.u_sets.proofs.Fronted.{with_front}
use Rattle.u_machine.proofs.priority_queue.PriorityQueue.insert.Goals as goal

pub returns-clause-ok : goal.returns-clause-ok
returns-clause-ok g c =
    rw (← c.self.view_is) (rw c.move_all.ensures.same at (with_front c.move_all.new.least c.move_all.new.run.items c.insert.new.self c.args.item c.in_ok-insert.ensures.ok))

use Rattle.u_machine.proofs.Queued.{moved_first}
use Rattle.u_machine.proofs.priority_queue.move_first.Goals as goal

pub returns-in-Ok-clause-same : goal.returns-in-Ok-clause-same
returns-in-Ok-clause-same g c =
    moved_first g.K.Ord.cmp g.met.K.Ord.total c.args.least.now c.args.run.now.items c.insert.new.self c.pop_front.new.self.items c.in-Some.first c.in-Some.ensures.items c.requires.rises c.in-Ok.ensures.rises c.in-Ok.ensures.ok

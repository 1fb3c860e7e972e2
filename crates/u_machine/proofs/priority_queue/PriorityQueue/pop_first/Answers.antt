use Rattle.u_machine.proofs.Queued.{first_out, first_out_of}
use Rattle.u_machine.proofs.priority_queue.PriorityQueue.pop_first.Goals as goal

pub returns-then-is_empty-clause-without : goal.returns-then-is_empty-clause-without
returns-then-is_empty-clause-without g c =
    rw (← c.self.view_is) (first_out_of g.K.Ord.cmp g.met.K.Ord.total c.self.inside.least c.pop_front.result c.self.inside.run.items c.pop_front.new.self.items (c.is_empty.ensures.none c.if-is_empty.true) c.self.invariant c.pop_front.ensures.items)

pub returns-clause-without : goal.returns-clause-without
returns-clause-without g c =
    rw (← c.self.view_is) (first_out g.K.Ord.cmp g.met.K.Ord.total c.self.inside.run.items c.pop_first.result c.self.inside.least c.pop_first.new.self c.self.invariant c.pop_first.ensures.some)

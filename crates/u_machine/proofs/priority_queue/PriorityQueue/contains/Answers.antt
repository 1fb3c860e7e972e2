use Rattle.u_sets.proofs.Fronted.{others_rise, was_behind}
use Rattle.u_machine.proofs.priority_queue.PriorityQueue.contains.Goals as goal

pub is_in-requires : goal.is_in-requires
is_in-requires g c = others_rise g.K.Ord.cmp g.met.K.Ord.total c.self.inside.least c.self.inside.run.items c.self.invariant

pub returns : goal.returns
returns g c =
    rw (← c.self.view_is)
    (was_behind c.self.inside.least c.self.inside.run.items c.args.item.now c.is_in.result (λ m. let there = c.contains.ensures.1 m in let away = c.if-contains.false in absurd (cc)) c.is_in.ensures)

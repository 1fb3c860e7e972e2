use Rattle.u_sets.proofs.Fronted.{front_rises, others_rise, was_behind}
use Rattle.u_machine.proofs.priority_queue.is_in.Goals as goal

pub has-requires : goal.has-requires
has-requires g c = front_rises g.K.Ord.cmp g.met.K.Ord.total c.as_slices.result.0.now c.as_slices.result.1.now (rw (← c.as_slices.ensures.items) at c.requires)

pub has-requires-2 : goal.has-requires-2
has-requires-2 g c = others_rise g.K.Ord.cmp g.met.K.Ord.total c.as_slices.result.0.now c.as_slices.result.1.now (rw (← c.as_slices.ensures.items) at c.requires)

pub returns : goal.returns
returns g c =
    rw (← c.as_slices.ensures.items)
    (was_behind c.as_slices.result.0.now c.as_slices.result.1.now c.args.item.now c.has-2.result (λ m. let there = c.has.ensures.1 m in let away = c.if-has.false in absurd (cc)) c.has-2.ensures)

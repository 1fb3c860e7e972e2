use Rattle.std.proofs.Common.{refl}
use Rattle.std.proofs.lemmas.List.Elements.{Contains-append_left}
use Rattle.u_sets.proofs.Fronted.{others_rise, rises_less, rises_shorter, without_others, was_behind}
use Rattle.u_machine.proofs.Queued.{out_of_front}
use Rattle.u_machine.proofs.priority_queue.PriorityQueue.remove.Goals as goal

pub invariant_of-self : goal.invariant_of-self
invariant_of-self g c =
    rises_shorter g.K.Ord.cmp g.met.K.Ord.total c.self.inside.least c.self.inside.run.items c.remove.new.self c.args.item.now c.self.invariant c.remove.ensures.rises c.remove.ensures.without

pub returns-then-remove-clause-without : goal.returns-then-remove-clause-without
returns-then-remove-clause-without g c =
    rw (← c.self.view_is) (out_of_front g.K.Ord.cmp g.met.K.Ord.total c.self.inside.least c.self.inside.run.items c.remove.new.self c.args.item.now c.self.invariant (c.remove.ensures.was.0 c.if-remove.true) c.remove.ensures.without)

pub returns-then-remove-clause-was : goal.returns-then-remove-clause-was
returns-then-remove-clause-was g c =
    rw (← c.self.view_is) ((λ h. Contains-append_left c.self.inside.least c.self.inside.run.items c.args.item.now (c.remove.ensures.was.0 c.if-remove.true)), λ m. refl)

pub returns-then-remove-clause-rises : goal.returns-then-remove-clause-rises
returns-then-remove-clause-rises g c =
    rises_shorter g.K.Ord.cmp g.met.K.Ord.total c.self.inside.least c.self.inside.run.items c.remove.new.self c.args.item.now c.self.invariant c.remove.ensures.rises c.remove.ensures.without

pub take_from-requires : goal.take_from-requires
take_from-requires g c = others_rise g.K.Ord.cmp g.met.K.Ord.total c.self.inside.least c.self.inside.run.items c.self.invariant

pub invariant_of-self-2 : goal.invariant_of-self-2
invariant_of-self-2 g c =
    rw (c.remove.ensures.still c.if-remove.false)
    (rises_less g.K.Ord.cmp g.met.K.Ord.total c.self.inside.least c.self.inside.run.items c.take_from.new.run.items c.args.item.now c.self.invariant c.take_from.ensures.rises c.take_from.ensures.without)

pub returns-clause-without : goal.returns-clause-without
returns-clause-without g c =
    rw (← c.self.view_is, c.remove.ensures.still c.if-remove.false)
    (without_others c.self.inside.least c.self.inside.run.items c.take_from.new.run.items c.args.item.now (λ m. let there = c.remove.ensures.was.1 m in let away = c.if-remove.false in absurd (cc)) c.take_from.ensures.without)

pub returns-clause-was : goal.returns-clause-was
returns-clause-was g c =
    rw (← c.self.view_is)
    (was_behind c.self.inside.least c.self.inside.run.items c.args.item.now c.take_from.result (λ m. let there = c.remove.ensures.was.1 m in let away = c.if-remove.false in absurd (cc)) c.take_from.ensures.was)

pub returns-clause-rises : goal.returns-clause-rises
returns-clause-rises g c =
    rw (c.remove.ensures.still c.if-remove.false)
    (rises_less g.K.Ord.cmp g.met.K.Ord.total c.self.inside.least c.self.inside.run.items c.take_from.new.run.items c.args.item.now c.self.invariant c.take_from.ensures.rises c.take_from.ensures.without)

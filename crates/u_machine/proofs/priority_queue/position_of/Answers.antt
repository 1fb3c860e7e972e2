use Rattle.u_sets.proofs.Fronted.{others_rise}
use Rattle.u_machine.proofs.Queued.{below_run, above_both}
use Rattle.u_machine.proofs.priority_queue.position_of.Goals as goal

pub is_before-requires : goal.is_before-requires
is_before-requires g c = others_rise g.K.Ord.cmp g.met.K.Ord.total c.args.least.now c.args.run.now.items c.requires

pub returns-then-is_least : goal.returns-then-is_least
returns-then-is_least g c =
    below_run g.K.Ord.cmp g.met.K.Ord.total c.args.least.now c.args.run.now.items c.args.item.now c.requires (c.is_least.ensures c.if-is_least.true)

pub is_behind-requires : goal.is_behind-requires
is_behind-requires g c = others_rise g.K.Ord.cmp g.met.K.Ord.total c.args.least.now c.args.run.now.items c.requires

pub returns-then-is_behind : goal.returns-then-is_behind
returns-then-is_behind g c =
    above_both g.K.Ord.cmp g.met.K.Ord.total c.args.least.now c.args.run.now.items c.args.item.now c.requires (c.is_behind.ensures.some c.if-is_behind.true) (c.is_behind.ensures.above c.if-is_behind.true)

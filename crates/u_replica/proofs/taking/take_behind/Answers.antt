use Rattle.std.proofs.Common.{◌-◌, length}
use Rattle.u_replica.proofs.Takings.{piece_refused, rest_taken, all_answered}
use Rattle.u_replica.proofs.taking.take_behind.Goals as goal

pub returns-in-Ok : goal.returns-in-Ok
returns-in-Ok g c = λ base before fresh t.
    rest_taken base c.take_front-count.new.machine c.take_all.new.self before c.args.firings.now c.take_front-count.result (c.take_front-count.ensures.front base before t) c.in-Ok.field-0 c.in-Ok.ensures

pub returns : goal.returns
returns g c = λ base before fresh t.
    let front = piece_refused base c.take_front-count.new.machine c.take_all.new.self before c.args.firings.now c.take_front-count.result (c.take_front-count.ensures.front base before t) (length c.args.firings.now - c.take_front-count.result) c.in_default.field-0 c.in_default.ensures in
    all_answered base c.take_all.new.self c.take_all-2.new.self before c.args.firings.now c.take_front-count.result front fresh c.holds.ensures.is c.take_all-2.result c.take_all-2.ensures

use Rattle.std.specs.Prelude.{Contains}
use Rattle.u_trace.specs.Gathering.{WaitsAt}
use Rattle.u_sets.proofs.Steps.{nothing, the_one}
use Rattle.u_trace.proofs.Gathered.{waits_with, waits_of_token}
use Rattle.u_trace.proofs.activities.add_waiting.Goals as goal

pub returns-in-None-clause-ok : goal.returns-in-None-clause-ok
returns-in-None-clause-ok c =
    nothing (WaitsAt c.args.program.now.blocks (Contains c.args.history.now) c.args.entry.now) c.args.found.now.items
    (λ w v. let e = (c.in_ok-waits.ensures w).1 (waits_with c.args.program.now.blocks (Contains c.args.history.now) c.args.entry.now c.in-Token.token c.activity.result.now w c.in-Token.is c.activity.ensures v) in let n = c.in-None.is in cc)

pub returns-clause-ok : goal.returns-clause-ok
returns-clause-ok c =
    the_one (WaitsAt c.args.program.now.blocks (Contains c.args.history.now) c.args.entry.now) c.in-Some.item c.args.found.now.items c.place_in.new.list.items
    (waits_of_token c.args.program.now.blocks (Contains c.args.history.now) c.args.entry.now c.in-Token.token c.activity.result.now c.in-Some.item c.in-Token.is c.activity.ensures ((c.in_ok-waits.ensures c.in-Some.item).0 c.in-Some.is))
    (λ w v. let e = (c.in_ok-waits.ensures w).1 (waits_with c.args.program.now.blocks (Contains c.args.history.now) c.args.entry.now c.in-Token.token c.activity.result.now w c.in-Token.is c.activity.ensures v) in let s = c.in-Some.is in cc)
    c.in_ok-place_in.ensures.ok

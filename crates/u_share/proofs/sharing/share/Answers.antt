use Rattle.std.specs.Prelude.{Result}
use Rattle.u_share.specs.Headline.{streams, member, ShareAnswer}
use Rattle.u_machine.specs.State.{State}
use Rattle.u_share.specs.declared.ended.Ended.{Ended}
use Rattle.u_share.specs.declared.fault.ShareFault.{ShareFault}
use Rattle.u_share.specs.declared.fault.ShareFault.TheVariants as faults
use Rattle.u_share.proofs.Faults.{by_fault}
use Rattle.u_share.proofs.Steps.{nothing_begun, no_member, member_ends, member_stops}
use Rattle.u_share.proofs.sharing.share.Goals as goal

pub returns-in_err-chunk : goal.returns-in_err-chunk
returns-in_err-chunk g c =
    let s = streams (g.R.Read.remaining c.args.bus.now.reader) (g.W.Write.contents c.args.bus.now.writer) (g.N.Write.contents c.args.bus.now.notices) in
    by_fault (λ (x : Result (State × Ended) ShareFault). ShareAnswer c.args.job.now c.args.plan.limit s x s) faults.NoMemory c.from_residual.result c.from_residual.ensures.1
    (no_member c.args.job.now c.args.plan.limit s)

pub returns-in_err-machine : goal.returns-in_err-machine
returns-in_err-machine g c =
    let s = streams (g.R.Read.remaining c.args.bus.now.reader) (g.W.Write.contents c.args.bus.now.writer) (g.N.Write.contents c.args.bus.now.notices) in
    by_fault (λ (x : Result (State × Ended) ShareFault). ShareAnswer c.args.job.now c.args.plan.limit s x s) faults.NoMemory c.from_residual-in_err-machine.result c.from_residual-in_err-machine.ensures.1
    (no_member c.args.job.now c.args.plan.limit s)

pub take_part-part-requires-clause-begun : goal.take_part-part-requires-clause-begun
take_part-part-requires-clause-begun g c = nothing_begun c.new-2.result.begun.items c.new-2.ensures.begun

pub returns-in-Ok : goal.returns-in-Ok
returns-in-Ok g c =
    member_ends c.args.job.now c.args.plan.limit c.in_ok-machine.machine c.new-2.result.begun.items c.new-2.result.ended (streams (g.R.Read.remaining c.args.bus.now.reader) (g.W.Write.contents c.args.bus.now.writer) (g.N.Write.contents c.args.bus.now.notices)) (streams (g.R.Read.remaining c.take_part-part.new.bus.reader) (g.W.Write.contents c.take_part-part.new.bus.writer) (g.N.Write.contents c.take_part-part.new.bus.notices)) (member c.take_part-part.new.machine c.take_part-part.new.ear.splitter.begun.items c.take_part-part.new.ear.splitter.ended) c.in-Ok.ended c.in_ok-machine.ensures c.new-2.ensures.begun c.new-2.ensures.ended c.in-Ok.ensures.answer c.holds.ensures.is

pub returns : goal.returns
returns g c =
    member_stops c.args.job.now c.args.plan.limit c.in_ok-machine.machine c.new-2.result.begun.items c.new-2.result.ended (streams (g.R.Read.remaining c.args.bus.now.reader) (g.W.Write.contents c.args.bus.now.writer) (g.N.Write.contents c.args.bus.now.notices)) (streams (g.R.Read.remaining c.take_part-part.new.bus.reader) (g.W.Write.contents c.take_part-part.new.bus.writer) (g.N.Write.contents c.take_part-part.new.bus.notices)) (member c.take_part-part.new.machine c.take_part-part.new.ear.splitter.begun.items c.take_part-part.new.ear.splitter.ended) c.in-Err.fault c.in_ok-machine.ensures c.new-2.ensures.begun c.new-2.ensures.ended c.in-Err.ensures.answer

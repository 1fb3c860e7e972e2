use Rattle.std.proofs.Common.{Bool}
use Rattle.std.specs.Prelude.{Result}
use Rattle.u_share.specs.Headline.{member}
use Rattle.u_share.specs.Calls.{HearAnswer}
use Rattle.u_share.specs.declared.fault.ShareFault.{ShareFault}
use Rattle.u_share.specs.declared.fault.ShareFault.TheVariants as faults
use Rattle.u_share.proofs.Faults.{by_fault}
use Rattle.u_share.proofs.Heard.{heard_none, heard_begun, last_is_free, heard_next, heard_stop, heard_no_memory, heard_all}
use Rattle.u_share.proofs.hearing.hear.Goals as goal

pub loop-last-init : goal.loop-last-init
loop-last-init g c =
    heard_none (member c.args.machine.now c.args.splitter.now.begun.items c.args.splitter.now.ended) c.args.bytes.now (g.N.Write.contents c.args.notices.now) c.requires.begun

pub end_line-requires-clause-begun : goal.end_line-requires-clause-begun
end_line-requires-clause-begun g c =
    let old = member c.args.machine.now c.args.splitter.now.begun.items c.args.splitter.now.ended in
    let m = member c.loop-last.machine c.loop-last.splitter.begun.items c.loop-last.splitter.ended in
    heard_begun old c.args.bytes.now c.loop-last.rest.now (g.N.Write.contents c.args.notices.now) m (g.N.Write.contents c.loop-last.notices) c.loop-last.invariant

pub end_line-requires-clause-last : goal.end_line-requires-clause-last
end_line-requires-clause-last g c =
    last_is_free c.loop-last.rest.now c.in-Some.last.now c.in-Some.others.now c.in-Some.ensures.cut

pub returns-in_err-is_empty-clause-answer : goal.returns-in_err-is_empty-clause-answer
returns-in_err-is_empty-clause-answer g c =
    let old = member c.args.machine.now c.args.splitter.now.begun.items c.args.splitter.now.ended in
    let m = member c.loop-last.machine c.loop-last.splitter.begun.items c.loop-last.splitter.ended in
    let new = member c.end_line.new.machine c.end_line.new.splitter.begun.items c.end_line.new.splitter.ended in
    let n = g.N.Write.contents c.args.notices.now in
    let k = g.N.Write.contents c.end_line.new.notices in
    by_fault (λ (r : Result Bool ShareFault). HearAnswer old c.args.bytes.now n r new k) _ c.from_residual.result c.from_residual.ensures.1
    (heard_stop Bool old c.args.bytes.now c.loop-last.rest.now c.in-Some.last.now c.in-Some.others.now n m (g.N.Write.contents c.loop-last.notices) new k _ c.in-Some.ensures.cut c.loop-last.invariant c.in_err-is_empty.ensures.answer)

pub loop-last-preserved-then-has_empty : goal.loop-last-preserved-then-has_empty
loop-last-preserved-then-has_empty g c =
    let old = member c.args.machine.now c.args.splitter.now.begun.items c.args.splitter.now.ended in
    let m = member c.loop-last.machine c.loop-last.splitter.begun.items c.loop-last.splitter.ended in
    let new = member c.end_line.new.machine c.end_line.new.splitter.begun.items c.end_line.new.splitter.ended in
    heard_next old c.args.bytes.now c.loop-last.rest.now c.in-Some.last.now c.in-Some.others.now (g.N.Write.contents c.args.notices.now) m (g.N.Write.contents c.loop-last.notices) new (g.N.Write.contents c.end_line.new.notices) c.in_ok-is_empty.is_empty c.in-Some.ensures.cut c.loop-last.invariant c.in_ok-is_empty.ensures.answer c.in_ok-is_empty.ensures.ended

pub loop-last-preserved : goal.loop-last-preserved
loop-last-preserved g c =
    let old = member c.args.machine.now c.args.splitter.now.begun.items c.args.splitter.now.ended in
    let m = member c.loop-last.machine c.loop-last.splitter.begun.items c.loop-last.splitter.ended in
    let new = member c.end_line.new.machine c.end_line.new.splitter.begun.items c.end_line.new.splitter.ended in
    heard_next old c.args.bytes.now c.loop-last.rest.now c.in-Some.last.now c.in-Some.others.now (g.N.Write.contents c.args.notices.now) m (g.N.Write.contents c.loop-last.notices) new (g.N.Write.contents c.end_line.new.notices) c.in_ok-is_empty.is_empty c.in-Some.ensures.cut c.loop-last.invariant c.in_ok-is_empty.ensures.answer c.in_ok-is_empty.ensures.ended

pub returns-in_err-extend-clause-answer : goal.returns-in_err-extend-clause-answer
returns-in_err-extend-clause-answer g c =
    let old = member c.args.machine.now c.args.splitter.now.begun.items c.args.splitter.now.ended in
    let m = member c.loop-last.machine c.loop-last.splitter.begun.items c.loop-last.splitter.ended in
    let new = member c.loop-last.machine c.extend.new.self.begun.items c.extend.new.self.ended in
    let n = g.N.Write.contents c.args.notices.now in
    let k = g.N.Write.contents c.loop-last.notices in
    by_fault (λ (r : Result Bool ShareFault). HearAnswer old c.args.bytes.now n r new k) faults.NoMemory c.from_residual-in_err-extend.result c.from_residual-in_err-extend.ensures.1
    (heard_no_memory Bool old c.args.bytes.now c.loop-last.rest.now n m k new c.loop-last.invariant)

pub returns-clause-answer : goal.returns-clause-answer
returns-clause-answer g c =
    let old = member c.args.machine.now c.args.splitter.now.begun.items c.args.splitter.now.ended in
    let m = member c.loop-last.machine c.loop-last.splitter.begun.items c.loop-last.splitter.ended in
    heard_all old c.args.bytes.now c.loop-last.rest.now (g.N.Write.contents c.args.notices.now) m (g.N.Write.contents c.loop-last.notices) c.extend.new.self.begun.items c.extend.new.self.ended c.loop-last.has_empty c.in_default.ensures.cut c.loop-last.invariant c.in_ok-extend.ensures.begun c.extend.ensures.ended

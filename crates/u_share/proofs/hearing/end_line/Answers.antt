use Rattle.std.proofs.Common.{◌++◌, ◌∷◌, [], Bool}
use Rattle.std.specs.Prelude.{Result}
use Rattle.u_share.specs.Headline.{member}
use Rattle.u_share.specs.Calls.{HearAnswer}
use Rattle.u_share.specs.declared.fault.ShareFault.{ShareFault}
use Rattle.u_share.specs.declared.fault.ShareFault.TheVariants as faults
use Rattle.u_share.proofs.Faults.{by_fault}
use Rattle.u_share.proofs.Ending.{line_fails, line_done, no_memory}
use Rattle.u_share.proofs.hearing.end_line.Goals as goal

pub returns-in_err-extend-clause-answer : goal.returns-in_err-extend-clause-answer
returns-in_err-extend-clause-answer g c =
    let old = member c.args.machine.now c.args.splitter.now.begun.items c.args.splitter.now.ended in
    let new = member c.args.machine.now c.extend.new.self.begun.items c.extend.new.self.ended in
    let n = g.N.Write.contents c.args.notices.now in
    by_fault (λ (r : Result Bool ShareFault). HearAnswer old (c.args.last.now ++ 10 ∷ []) n r new n) faults.NoMemory c.from_residual.result c.from_residual.ensures.1
    (no_memory Bool old new (c.args.last.now ++ 10 ∷ []) n c.requires.begun)

pub returns-in_err-take_line-clause-answer : goal.returns-in_err-take_line-clause-answer
returns-in_err-take_line-clause-answer g c =
    let old = member c.args.machine.now c.args.splitter.now.begun.items c.args.splitter.now.ended in
    let new = member c.take_line.new.machine c.extend.new.self.begun.items c.extend.new.self.ended in
    by_fault (λ (r : Result Bool ShareFault). HearAnswer old (c.args.last.now ++ 10 ∷ []) (g.N.Write.contents c.args.notices.now) r new (g.N.Write.contents c.take_line.new.notices)) _ c.from_residual-in_err-take_line.result c.from_residual-in_err-take_line.ensures.1
    (line_fails Bool old c.take_line.new.machine c.args.last.now c.extend.new.self.begun.items c.deref.result.now _ _ _ _ new c.requires.begun c.requires.last c.in_ok-extend.ensures.begun c.deref.ensures.value c.extend.ensures.ended c.in_err-take_line.ensures)

pub returns-clause-answer : goal.returns-clause-answer
returns-clause-answer g c =
    let old = member c.args.machine.now c.args.splitter.now.begun.items c.args.splitter.now.ended in
    line_done old c.take_line.new.machine c.args.last.now c.extend.new.self.begun.items c.deref.result.now c.end.new.self.begun.items c.extend.new.self.ended c.end.new.self.ended _ _ c.is_empty-is_empty.result c.requires.begun c.requires.last c.in_ok-extend.ensures.begun c.deref.ensures.value c.extend.ensures.ended c.in_ok-take_line.ensures c.end.ensures.begun c.end.ensures.ended

use Rattle.std.proofs.Common.{rules, ◌≡◌, true, false}
use Rattle.std.specs.Prelude.{Result}
use Rattle.u_machine.specs.declared.answer.Ran.{Ran}
use Rattle.u_share.specs.Calls.{BurstWith}
use Rattle.u_share.specs.declared.fault.ShareFault.{ShareFault}
use Rattle.u_share.proofs.Faults.{by_fault}
use Rattle.u_share.proofs.Fired.{fired_none, fired_fails, fired_quiet, fired_unput, fired_more}
use Rattle.u_share.proofs.bursting.fire_into.Goals as goal

pub loop-made-init : goal.loop-made-init
loop-made-init g c = fired_none c.args.machine.now (g.W.Write.contents c.args.writer.now) c.args.piece.now.items c.requires

pub returns-in_err-fire_next : goal.returns-in_err-fire_next
returns-in_err-fire_next g c =
    let a = g.W.Write.contents c.args.writer.now in
    let b = g.W.Write.contents c.loop-made.writer in
    by_fault (λ (r : Result Ran ShareFault). BurstWith c.loop-made.piece.items c.args.machine.now c.args.times a r c.fire_next.new.machine b) _ c.from_residual.result c.from_residual.ensures.1
    (fired_fails c.args.machine.now c.loop-made.machine c.fire_next.new.machine c.args.times a b c.loop-made.piece.items c.fire_next.new.line.items c.loop-made.made _ c.loop-made.invariant c.in_err-fire_next.ensures)

pub returns-then-not-branch : goal.returns-then-not-branch
returns-then-not-branch g c =
    let no : c.in_ok-fire_next.field-0 ≡ false = search rules in
    fired_quiet c.args.machine.now c.loop-made.machine c.fire_next.new.machine c.args.times (g.W.Write.contents c.args.writer.now) (g.W.Write.contents c.loop-made.writer) c.loop-made.piece.items c.fire_next.new.line.items c.loop-made.made c.in_ok-fire_next.field-0 c.loop-made.invariant no c.in_ok-fire_next.ensures

pub returns-in_err-put_line : goal.returns-in_err-put_line
returns-in_err-put_line g c =
    let a = g.W.Write.contents c.args.writer.now in
    let d = g.W.Write.contents c.put_line.new.writer in
    let yes : c.in_ok-fire_next.field-0 ≡ true = search rules in
    by_fault (λ (r : Result Ran ShareFault). BurstWith c.put_line.new.piece.items c.args.machine.now c.args.times a r c.fire_next.new.machine d) _ c.from_residual-in_err-put_line.result c.from_residual-in_err-put_line.ensures.1
    (fired_unput c.args.machine.now c.loop-made.machine c.fire_next.new.machine c.args.times a (g.W.Write.contents c.loop-made.writer) d c.loop-made.piece.items c.fire_next.new.line.items c.put_line.new.piece.items c.deref.result.now c.loop-made.made c.in_ok-fire_next.field-0 _ c.loop-made.invariant yes c.in_ok-fire_next.ensures c.deref.ensures.value c.in_err-put_line.ensures)

pub loop-made-preserved : goal.loop-made-preserved
loop-made-preserved g c =
    let yes : c.in_ok-fire_next.field-0 ≡ true = search rules in
    fired_more c.args.machine.now c.loop-made.machine c.fire_next.new.machine (g.W.Write.contents c.args.writer.now) (g.W.Write.contents c.loop-made.writer) (g.W.Write.contents c.put_line.new.writer) c.loop-made.piece.items c.fire_next.new.line.items c.put_line.new.piece.items c.deref.result.now c.loop-made.made c.in_ok-fire_next.field-0 c.loop-made.invariant yes c.in_ok-fire_next.ensures c.deref.ensures.value c.in_ok-put_line.ensures

use Rattle.std.proofs.Common.{List, ℕ, subst, Ok, Err}
use Rattle.std.specs.Prelude.{Result}
use Rattle.u_machine.specs.declared.answer.Ran.{Ran}
use Rattle.u_share.specs.Calls.{Tells, BurstAnswer}
use Rattle.u_share.specs.declared.fault.ShareFault.{ShareFault}
use Rattle.u_share.proofs.Faults.{by_fault}
use Rattle.u_share.proofs.Printing.{burst_ends, burst_full, burst_unwritten, full_unwritten}
use Rattle.u_share.proofs.bursting.burst.Goals as goal

pub returns-in_err-write_last-in-Ok : goal.returns-in_err-write_last-in-Ok
returns-in_err-write_last-in-Ok g c =
    let a = g.W.Write.contents c.args.writer.now in
    let b = g.W.Write.contents c.fire_into.new.writer in
    let d = g.W.Write.contents c.write_last.new.writer in
    by_fault (λ (r : Result Ran ShareFault). BurstAnswer c.args.machine.now c.args.times a r c.fire_into.new.machine d) _ c.from_residual.result c.from_residual.ensures.1
    (burst_unwritten c.args.machine.now c.fire_into.new.machine c.args.times a b d c.fire_into.new.piece.items c.in-Ok.ran _ c.in-Ok.ensures (subst (λ (p : List ℕ). Tells b p (Err c.in_err-write_last-in-Ok.field-0.0) d) c.deref.ensures.value c.in_err-write_last-in-Ok.ensures))

pub returns-in-Ok : goal.returns-in-Ok
returns-in-Ok g c =
    let b = g.W.Write.contents c.fire_into.new.writer in
    let d = g.W.Write.contents c.write_last.new.writer in
    burst_ends c.args.machine.now c.fire_into.new.machine c.args.times (g.W.Write.contents c.args.writer.now) b d c.fire_into.new.piece.items c.in-Ok.ran c.in-Ok.ensures (subst (λ (p : List ℕ). Tells b p (Ok tt) d) c.deref.ensures.value c.in_ok-write_last-in-Ok.ensures)

pub returns-in_err-write_last-in-Err-Full : goal.returns-in_err-write_last-in-Err-Full
returns-in_err-write_last-in-Err-Full g c =
    let a = g.W.Write.contents c.args.writer.now in
    let b = g.W.Write.contents c.fire_into.new.writer in
    let d = g.W.Write.contents c.write_last-in-Err-Full.new.writer in
    let full = rw c.in-Err-Full.field-0-is at c.in-Err-Full.ensures in
    by_fault (λ (r : Result Ran ShareFault). BurstAnswer c.args.machine.now c.args.times a r c.fire_into.new.machine d) _ c.from_residual-in_err-write_last-in-Err-Full.result c.from_residual-in_err-write_last-in-Err-Full.ensures.1
    (full_unwritten c.args.machine.now c.fire_into.new.machine c.args.times a b d c.fire_into.new.piece.items _ full (subst (λ (p : List ℕ). Tells b p (Err c.in_err-write_last-in-Err-Full.field-0.0) d) c.deref-in-Err-Full.ensures.value c.in_err-write_last-in-Err-Full.ensures))

pub returns-in-Err-Full : goal.returns-in-Err-Full
returns-in-Err-Full g c =
    let b = g.W.Write.contents c.fire_into.new.writer in
    let d = g.W.Write.contents c.write_last-in-Err-Full.new.writer in
    let full = rw c.in-Err-Full.field-0-is at c.in-Err-Full.ensures in
    burst_full c.args.machine.now c.fire_into.new.machine c.args.times (g.W.Write.contents c.args.writer.now) b d c.fire_into.new.piece.items full (subst (λ (p : List ℕ). Tells b p (Ok tt) d) c.deref-in-Err-Full.ensures.value c.in_ok-write_last-in-Err-Full.ensures)

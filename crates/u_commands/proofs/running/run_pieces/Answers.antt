use Rattle.std.proofs.Common.{arith, refl, Ok, Err}
use Rattle.u_machine.specs.declared.answer.Ran.TheVariants as ran
use Rattle.u_commands.proofs.InPieces.{has_run_none, has_run_more, run_ends}
use Rattle.u_commands.proofs.running.run_pieces.Goals as goal

pub loop-left-init : goal.loop-left-init
loop-left-init g c = has_run_none c.args.machine.now c.args.firings

pub returns-in-Ok-Quiet : goal.returns-in-Ok-Quiet
returns-in-Ok-Quiet g c =
    run_ends c.args.machine.now c.loop-left.machine c.run.new.self 1000 c.loop-left.left c.args.firings (omega (arith, c.loop-left-test.true)) c.loop-left.invariant (Ok ran.Quiet) (λ e. absurd (cc)) (rw c.in-Ok-Quiet.field-0-is at c.in-Ok-Quiet.ensures.answer)

pub returns-in-Err : goal.returns-in-Err
returns-in-Err g c =
    run_ends c.args.machine.now c.loop-left.machine c.run.new.self 1000 c.loop-left.left c.args.firings (omega (arith, c.loop-left-test.true)) c.loop-left.invariant (Err c.in-Err.refusal) (λ e. absurd (cc)) c.in-Err.ensures.answer

pub loop-left-preserved : goal.loop-left-preserved
loop-left-preserved g c =
    has_run_more c.args.machine.now c.loop-left.machine c.run.new.self 1000 c.loop-left.left c.args.firings (omega (arith, c.loop-left-test.true)) c.loop-left.invariant (rw c.in-Ok-Paused.field-0-is at c.in-Ok-Paused.ensures.answer)

pub returns : goal.returns
returns g c =
    run_ends c.args.machine.now c.loop-left.machine c.run-2.new.self c.loop-left.left c.loop-left.left c.args.firings (omega arith) c.loop-left.invariant c.run-2.result (λ e. refl) c.run-2.ensures.answer

use Rattle.std.proofs.Common.{subst, Ok}
use Rattle.u_machine.specs.Calls.{RunAnswer}
use Rattle.u_machine.specs.declared.answer.Ran.{Ran}
use Rattle.u_machine.specs.declared.answer.Ran.TheVariants as ran
use Rattle.u_share.proofs.Turned.{run_stays}
use Rattle.u_share.proofs.listening.is_quiet.Goals as goal

pub returns-in-Ok-Quiet : goal.returns-in-Ok-Quiet
returns-in-Ok-Quiet c =
    run_stays c.args.machine.now c.run.new.self ran.Quiet (subst (λ (x : Ran). RunAnswer c.args.machine.now 0 (Ok x) c.run.new.self) c.in-Ok-Quiet.field-0-is c.in-Ok-Quiet.ensures.answer)

pub returns-in-Ok-Paused : goal.returns-in-Ok-Paused
returns-in-Ok-Paused c =
    run_stays c.args.machine.now c.run.new.self ran.Paused (subst (λ (x : Ran). RunAnswer c.args.machine.now 0 (Ok x) c.run.new.self) c.in-Ok-Paused.field-0-is c.in-Ok-Paused.ensures.answer)

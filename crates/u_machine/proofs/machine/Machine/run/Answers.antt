use Rattle.std.proofs.Common.{◌∙◌, ap, subst}
use Rattle.std.specs.Prelude.{IsOk}
use Rattle.u_machine.specs.State.{State, IsSettled, NothingReady}
use Rattle.u_machine.specs.Calls.{RunAnswer}
use Rattle.u_machine.specs.Invariant.{state_of}
use Rattle.u_machine.proofs.Runs.{run_fresh}
use Rattle.u_machine.proofs.machine.Machine.run.Goals as goal

pub returns-clause-plain : goal.returns-clause-plain
returns-clause-plain c = λ fresh.
    let new = state_of c.run-ran.new.self in
    let answer = subst (λ (old : State). RunAnswer old c.args.budget c.run-ran.result new) (ap state_of c.deref_mut.ensures.value ∙ c.self.view_is) c.run-ran.ensures.answer in
    run_fresh c.args.self.now new c.args.budget c.run-ran.result answer c.holds.ensures.is.sound fresh

pub returns-clause-quiet : goal.returns-clause-quiet
returns-clause-quiet c = subst (λ (m : State). IsSettled m → NothingReady m → IsOk c.run-ran.result) (ap state_of c.deref_mut.ensures.value ∙ c.self.view_is) c.run-ran.ensures.quiet

use Rattle.std.proofs.Common.{ap, subst, ◌∙◌}
use Rattle.std.specs.Prelude.{IfSome}
use Rattle.u_machine.specs.State.{State, IsPick}
use Rattle.u_machine.specs.Invariant.{state_of}
use Rattle.u_machine.proofs.machine.Machine.next_ready.Goals as goal

pub returns : goal.returns
returns c = subst (λ (s : State). IfSome c.next_ready.result (λ f. IsPick s 0 f.now)) (ap state_of c.deref.ensures ∙ c.self.view_is) c.next_ready.ensures

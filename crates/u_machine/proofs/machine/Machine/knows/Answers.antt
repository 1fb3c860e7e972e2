use Rattle.std.proofs.Common.{◌↔◌, ◌∙◌, IsTrue, ap, subst}
use Rattle.u_machine.specs.State.{State, Taken}
use Rattle.u_machine.specs.Invariant.{state_of}
use Rattle.u_machine.proofs.machine.Machine.knows.Goals as goal

pub returns : goal.returns
returns c = subst (λ (m : State). IsTrue c.knows.result ↔ Taken m c.args.firing.now) (ap state_of c.deref.ensures ∙ c.self.view_is) c.knows.ensures

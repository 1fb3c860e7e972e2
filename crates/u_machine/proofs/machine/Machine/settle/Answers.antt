use Rattle.std.proofs.Common.{◌≡◌, ◌∙◌, ap, refl, sym, subst}
use Rattle.u_machine.specs.State.{State, IsSettled}
use Rattle.u_machine.specs.Invariant.{state_of, Invariant}
use Rattle.u_machine.specs.declared.parts.Parts.{Parts}
use Rattle.u_machine.proofs.Settled.{settled_there, settled_back}
use Rattle.u_machine.proofs.machine.Machine.settle.Goals as goal
use Rattle.u_machine.proofs.machine.Machine.settle.Goals.{After-settle}

pub returns-clause-ok : goal.returns-clause-ok
returns-clause-ok c = settled_there c.settle.new.self c.settle.ensures.kept c.in_ok-settle.ensures.ok

was : (c : After-settle) → state_of c.deref_mut.result.now ≡ c.args.self.now
was c = ap state_of c.deref_mut.ensures.value ∙ c.self.view_is

kept : (c : After-settle) → Invariant c.deref_mut.result.now
kept c = subst (λ (p : Parts). Invariant p) (sym c.deref_mut.ensures.value) c.self.invariant

settled : (c : After-settle) → IsSettled c.args.self.now → IsSettled (state_of c.deref_mut.result.now)
settled c s = subst (λ (m : State). IsSettled m) (sym (was c)) s

pub returns-clause-still : goal.returns-clause-still
returns-clause-still c s = let a = (goal.at.returns-clause-still c).After-settle in let w = c.settle.ensures.still (settled_back c.deref_mut.result.now (kept a) (settled a s)) in (refl, ap state_of w.1 ∙ was a)

pub returns-in_err-settle-clause-still : goal.returns-in_err-settle-clause-still
returns-in_err-settle-clause-still c s = let a = (goal.at.returns-in_err-settle-clause-still c).After-settle in let w = c.settle.ensures.still (settled_back c.deref_mut.result.now (kept a) (settled a s)) in absurd (let e = rw c.in_err-settle.was at w.0 in cc)

use Rattle.std.proofs.Common.{ℕ, sym, subst}
use Rattle.u_machine.specs.Invariant.{HasEntered}
use Rattle.u_machine.proofs.States.{applies_trans}
use Rattle.u_machine.proofs.parts.Parts.settle_flying.Goals as goal

pub land-requires-clause-all : goal.land-requires-clause-all
land-requires-clause-all c = subst (λ (n : ℕ). HasEntered c.enter_given.new.self n) (sym c.enter_given.ensures.goes.applied_count) c.in_ok-enter_given.ensures.has

pub returns-clause-applies : goal.returns-clause-applies
returns-clause-applies c = applies_trans _ _ _ c.enter_given.ensures.applies c.land.ensures.applies

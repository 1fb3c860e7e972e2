use Rattle.std.proofs.Common.{inl, inr, sym, ◌∙◌, subst}
use Rattle.u_rule.specs.declared.firing.Firing.{Firing}
use Rattle.u_plain.specs.Tries.{EnabledOver}
use Rattle.u_plain.proofs.Lists.{false_true}
use Rattle.u_plain.proofs.enabling.add.Goals as goal

pub returns-else-enabled : goal.returns-else-enabled
returns-else-enabled c f = (
  (λ m. inl m),
  (λ s. elim s [
    | inl m ↦ m
    | inr e ↦ false_true (sym c.if-enabled.false ∙ c.in_ok-enabled.ensures.1 (subst (λ (x : Firing). EnabledOver c.args.job.now c.args.held.now x) (sym e.0) e.1))
  ]),
)

pub returns-in_ok-add_new : goal.returns-in_ok-add_new
returns-in_ok-add_new c f = (
  (λ m. elim ((c.in_ok-add_new.ensures f).0 m) [
    | inl a ↦ inl a
    | inr e ↦ inr (e, subst (λ (x : Firing). EnabledOver c.args.job.now c.args.held.now x) e (c.in_ok-enabled.ensures.0 c.if-enabled.true))
  ]),
  (λ s. elim s [ inl a ↦ (c.in_ok-add_new.ensures f).1 (inl a) | inr e ↦ (c.in_ok-add_new.ensures f).1 (inr e.0) ]),
)

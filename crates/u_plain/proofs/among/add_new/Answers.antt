use Rattle.std.proofs.Common.{inl, inr, List, Contains, refl, subst}
use Rattle.u_rule.specs.declared.firing.Firing.{Firing}
use Rattle.u_plain.proofs.among.add_new.Goals as goal

pub returns-then-is_among : goal.returns-then-is_among
returns-then-is_among c f =
    let there : Contains c.args.list.now.items c.args.firing = subst (λ (fs : List Firing). Contains fs c.args.firing) c.deref.ensures.value (c.if-is_among.ensures.0 refl) in (
      (λ m. inl m),
      (λ s. elim s [ inl m ↦ m | inr e ↦ subst (λ (x : Firing). Contains c.args.list.now.items x) e there ]),
    )

use Rattle.std.proofs.Common.{◌≡◌, ◌⊎◌, inl, inr, Contains, ◌++◌, ◌∷◌, [], subst, List}
use Rattle.std.proofs.lemmas.List.{take_more, take_all}
use Rattle.std.proofs.lemmas.List.Elements.{Contains-append_left, Contains-push, Contains-push_cases}
use Rattle.u_rule.specs.declared.firing.Firing.{Firing}
use Rattle.u_plain.proofs.ready.not_among.Goals as goal

step_exact : (before old new log : List Firing) (y : Firing) → ((f : Firing) → Contains old f → Contains before f × (Contains log f → ⊥)) → ((f : Firing) → Contains new f → Contains old f ⊎ ((y ≡ f) × (Contains log f → ⊥))) → (f : Firing) → Contains new f → Contains (before ++ y ∷ []) f × (Contains log f → ⊥)
step_exact before old new log y i s f m =
    elim (s f m) [
      | inl a ↦ (Contains-append_left before (y ∷ []) f (i f a).0, (i f a).1)
      | inr e ↦ (subst (λ (x : Firing). Contains (before ++ y ∷ []) x) e.0 (Contains-push before y), e.1)
    ]

step_all : (before old new log : List Firing) (y : Firing) → ((f : Firing) → Contains before f → Contains old f ⊎ Contains log f) → ((f : Firing) → Contains old f → Contains new f) → Contains new y ⊎ Contains log y → (f : Firing) → Contains (before ++ y ∷ []) f → Contains new f ⊎ Contains log f
step_all before old new log y i k t f m =
    elim (Contains-push_cases before y f m) [
      | inl a ↦ elim (i f a) [ inl b ↦ inl (k f b) | inr l ↦ inr l ]
      | inr e ↦ subst (λ (x : Firing). Contains new x ⊎ Contains log x) e t
    ]

pub loop-firing-preserved : goal.loop-firing-preserved
loop-firing-preserved c = record {
  exact = rw (take_more c.args.found.now c.loop-firing.firing-index c.firing-item.result c.loop-firing-test.true, ← c.firing-item.is) (step_exact _ c.loop-firing.rest.items _ _ _ c.loop-firing.invariant.exact c.in_ok-add_new.ensures.exact);
  all = rw (take_more c.args.found.now c.loop-firing.firing-index c.firing-item.result c.loop-firing-test.true, ← c.firing-item.is) (step_all _ c.loop-firing.rest.items _ _ _ c.loop-firing.invariant.all c.in_ok-add_new.ensures.kept c.in_ok-add_new.ensures.there);
  rises = c.in_ok-add_new.ensures.rises;
}

pub returns-clause-exact : goal.returns-clause-exact
returns-clause-exact c f m = rw (take_all c.loop-firing.firing-index c.args.found.now c.loop-firing-test.false) at (c.loop-firing.invariant.exact f m)

pub returns-clause-all : goal.returns-clause-all
returns-clause-all c f m = c.loop-firing.invariant.all f (rw (take_all c.loop-firing.firing-index c.args.found.now c.loop-firing-test.false) m)

use Rattle.std.proofs.Common.{◌≡◌, ◌≤◌, inl, inr, length, take, arith, sym, subst, ◌++◌, [], ◌∷◌, ap, ◌∙◌, ◌+◌}
use Rattle.std.specs.Prelude.{Contains}
use Rattle.std.proofs.lemmas.List.{take_more, take_all}
use Rattle.std.proofs.lemmas.List.Elements.{Contains-append_left, Contains-push, Contains-push_cases}
use Rattle.u_rule.specs.declared.firing.Firing.{Firing}
use Rattle.u_sets.specs.Members.{IsWith}
use Rattle.u_machine.proofs.parts.set_of.Goals as goal

pub loop-firing-preserved : goal.loop-firing-preserved
loop-firing-preserved c f =
    let d = c.firing-item.result in
    let xs = c.args.firings.now in
    let i = c.loop-firing.firing-index in
    let w = subst (λ (g : Firing). IsWith c.loop-firing.set g c.insert.new.self) c.in_ok-copy.ensures c.in_ok-insert.ensures.ok in
    let e : take (i + 1) xs ≡ take i xs ++ d ∷ [] = take_more xs i d c.loop-firing-test.true ∙ ap (λ (g : Firing). take i xs ++ g ∷ []) (sym c.firing-item.is) in (
      (λ m. rw e (elim ((w f).0 m) [ inl k ↦ Contains-append_left (take i xs) (d ∷ []) f ((c.loop-firing.invariant f).0 k) | inr p ↦ subst (λ (g : Firing). Contains (take i xs ++ d ∷ []) g) p (Contains-push (take i xs) d) ])),
      λ m. (w f).1 (elim (Contains-push_cases (take i xs) d f (rw e at m)) [ inl k ↦ inl ((c.loop-firing.invariant f).1 k) | inr p ↦ inr p ]),
    )

pub returns : goal.returns
returns c f =
    let h : length c.args.firings.now ≤ c.loop-firing.firing-index = omega arith in
    let e = take_all c.loop-firing.firing-index c.args.firings.now h in
    ((λ m. rw e at ((c.loop-firing.invariant f).0 m)), λ m. (c.loop-firing.invariant f).1 (rw e m))

use Rattle.std.proofs.Common.{◌≡◌, ◌+◌, List, ◌∷◌, Some, Contains, subst, sym, ap, ◌∙◌, arith}
use Rattle.std.specs.Prelude.{slice_get}
use Rattle.u_name.specs.Context.{Tree}
use Rattle.u_names.specs.Contexts.{KeyParts, key_within}
use Rattle.u_names.proofs.Mapped.{if_none, below_at}
use Rattle.u_names.proofs.KeyedContexts.{root_number, key_back, no_context, no_outer, number_at, number_fits}
use Rattle.u_names.proofs.contexts.Contexts.+find.Goals as goal

pub returns-in_default-apart-clause-number : goal.returns-in_default-apart-clause-number
returns-in_default-apart-clause-number t c =
    subst (λ (us : List Tree). slice_get us 0 ≡ Some c.args.context.now) c.self.view_is (root_number c.self.inside.root c.self.inside.others.items c.self.inside.keys c.self.invariant c.args.context.now c.in_default-apart.ensures.root)

pub returns-in_err-outer-clause-none : goal.returns-in_err-outer-clause-none
returns-in_err-outer-clause-none t c =
    if_none c.from_residual.result (Contains c.args.self.now c.args.context.now → ⊥)
    (subst (λ (us : List Tree). (Contains us c.in-Some-apart.outer.now → ⊥) → Contains us c.args.context.now → ⊥) c.self.view_is
    (no_outer c.self.inside.root c.self.inside.others.items c.self.inside.keys c.self.invariant c.in-Some-apart.key c.in-Some-apart.outer.now c.args.context.now c.in-Some-apart.ensures.parts) c.in_err-outer.ensures.none)

pub returns-in_err-place-clause-none : goal.returns-in_err-place-clause-none
returns-in_err-place-clause-none t c =
    let at : slice_get (c.self.inside.root ∷ c.self.inside.others.items) c.in_ok-outer.outer ≡ Some c.in-Some-apart.outer.now =
    subst (λ (us : List Tree). slice_get us c.in_ok-outer.outer ≡ Some c.in-Some-apart.outer.now) (sym c.self.view_is) c.in_ok-outer.ensures.number in
    let key : KeyParts = key_within c.in_ok-outer.outer c.in-Some-apart.key in
    if_none c.from_residual-in_err-place.result (Contains c.args.self.now c.args.context.now → ⊥)
    (subst (λ (us : List Tree). Contains us c.args.context.now → ⊥) c.self.view_is
    (no_context c.self.inside.root c.self.inside.others.items c.self.inside.keys c.self.invariant key c.args.context.now
    (key_back (c.self.inside.root ∷ c.self.inside.others.items) c.in_ok-outer.outer c.in-Some-apart.outer.now c.args.context.now c.in-Some-apart.key at c.in-Some-apart.ensures.parts)
    (below_at (c.self.inside.root ∷ c.self.inside.others.items) c.in_ok-outer.outer c.in-Some-apart.outer.now at)
    (subst (λ (k : KeyParts). Contains c.self.inside.keys k → ⊥) c.within.ensures c.in_err-place.ensures.none)))

pub overflow_cast-result : goal.overflow_cast-result
overflow_cast-result t c =
    let n = number_fits c.self.inside.root c.self.inside.others.items c.self.inside.keys c.self.invariant c.in_ok-place.place c.within.result c.in_ok-place.ensures.place in
    omega (arith, n)

pub overflow_add-result : goal.overflow_add-result
overflow_add-result t c =
    let n = number_fits c.self.inside.root c.self.inside.others.items c.self.inside.keys c.self.invariant c.in_ok-place.place c.within.result c.in_ok-place.ensures.place in
    omega (arith, n)

pub returns-clause-number : goal.returns-clause-number
returns-clause-number t c =
    let at : slice_get (c.self.inside.root ∷ c.self.inside.others.items) c.in_ok-outer.outer ≡ Some c.in-Some-apart.outer.now =
    subst (λ (us : List Tree). slice_get us c.in_ok-outer.outer ≡ Some c.in-Some-apart.outer.now) (sym c.self.view_is) c.in_ok-outer.ensures.number in
    let key : KeyParts = key_within c.in_ok-outer.outer c.in-Some-apart.key in
    subst (λ (us : List Tree). slice_get us (c.in_ok-place.place + 1) ≡ Some c.args.context.now) c.self.view_is
    (number_at c.self.inside.root c.self.inside.others.items c.self.inside.keys c.self.invariant c.in_ok-place.place key c.args.context.now
    (c.in_ok-place.ensures.place ∙ ap (λ (k : KeyParts). Some k) c.within.ensures)
    (key_back (c.self.inside.root ∷ c.self.inside.others.items) c.in_ok-outer.outer c.in-Some-apart.outer.now c.args.context.now c.in-Some-apart.key at c.in-Some-apart.ensures.parts))

use Rattle.std.proofs.Common.{◌≡◌, ◌+◌, ◌*◌, ◌-◌, ℕ, List, Some, Contains, subst, sym, ◌∙◌, ap, arith}
use Rattle.std.specs.Prelude.{slice_get}
use Rattle.u_name.specs.Name.{Activity}
use Rattle.u_names.specs.Frames.{beside}
use Rattle.u_names.specs.Groups.{behind, leader, groups}
use Rattle.u_names.proofs.Mapped.{if_none}
use Rattle.u_names.proofs.Grouped.{no_group, number_in, place_small}
use Rattle.u_names.proofs.activities.Activities.find.Goals as goal

pub returns-in_err-place-clause-none : goal.returns-in_err-place-clause-none
returns-in_err-place-clause-none c =
    let st = c.statement.ensures.value in
    let first : c.statement-2.result - c.behind_of-behind.result ≡ leader c.args.activity.now.statement =
    ap (λ (n : ℕ). n - c.behind_of-behind.result) c.statement-2.ensures.value
    ∙ ap (λ (n : ℕ). c.args.activity.now.statement - n) (c.behind_of-behind.ensures.value ∙ ap (λ (n : ℕ). behind n) st) in
    if_none c.from_residual.result (Contains c.args.self.now c.args.activity.now → ⊥)
    (subst (λ (bs : List Activity). Contains bs c.args.activity.now → ⊥) c.self.view_is
    (no_group c.self.inside.leaders c.args.activity.now c.self.invariant.first c.statement.ensures.bounds.statement.0 c.statement.ensures.bounds.statement.1
    (subst (λ (n : ℕ). Contains c.self.inside.leaders (beside c.args.activity.now n) → ⊥) first c.in_err-place.ensures.none)))

pub overflow_mul-result : goal.overflow_mul-result
overflow_mul-result c = let p = place_small c.self.inside.leaders c.in_ok-place.place _ c.in_ok-place.ensures.number c.self.invariant.few in omega (arith, p)

pub overflow_add-result : goal.overflow_add-result
overflow_add-result c =
    let p = place_small c.self.inside.leaders c.in_ok-place.place _ c.in_ok-place.ensures.number c.self.invariant.few in
    let q = c.from.ensures in
    let r = c.behind_of-behind.ensures.below in
    omega (arith, p, q, r)

pub returns-clause-number : goal.returns-clause-number
returns-clause-number c =
    let st = c.statement.ensures.value in
    let first : c.statement-2.result - c.behind_of-behind.result ≡ leader c.args.activity.now.statement =
    ap (λ (n : ℕ). n - c.behind_of-behind.result) c.statement-2.ensures.value
    ∙ ap (λ (n : ℕ). c.args.activity.now.statement - n) (c.behind_of-behind.ensures.value ∙ ap (λ (n : ℕ). behind n) st) in
    let far : c.from.result ≡ behind c.args.activity.now.statement = c.from.ensures ∙ c.behind_of-behind.ensures.value ∙ ap (λ (n : ℕ). behind n) st in
    subst (λ (bs : List Activity). slice_get bs (3 * c.in_ok-place.place + c.from.result) ≡ Some c.args.activity.now) c.self.view_is
    (subst (λ (n : ℕ). slice_get (groups c.self.inside.leaders) (3 * c.in_ok-place.place + n) ≡ Some c.args.activity.now) (sym far)
    (number_in c.self.inside.leaders c.args.activity.now c.in_ok-place.place c.statement.ensures.bounds.statement.0 (c.in_ok-place.ensures.number ∙ ap (λ (n : ℕ). Some (beside c.args.activity.now n)) first)))

use Rattle.std.proofs.Common.{◌≡◌, ◌+◌, ◌*◌, ◌-◌, ℕ, List, Some, subst, sym, ◌∙◌, ap, arith}
use Rattle.std.specs.Prelude.{slice_get}
use Rattle.u_base.specs.Firing.{Distinct}
use Rattle.u_sets.specs.Members.{GoesLast}
use Rattle.u_name.specs.Name.{Activity}
use Rattle.u_names.specs.Frames.{beside}
use Rattle.u_names.specs.Groups.{behind, leader, groups, Grows}
use Rattle.u_names.proofs.Grouped.{number_in, new_small, groups_grow, groups_distinct, more_leaders, first_is}
use Rattle.u_names.proofs.activities.Activities.number_beside.Goals as goal

pub returns-then-len-ge-MOST_GROUPS-clause-distinct : goal.returns-then-len-ge-MOST_GROUPS-clause-distinct
returns-then-len-ge-MOST_GROUPS-clause-distinct c =
    subst (λ (bs : List Activity). Distinct bs) c.self.view_is (groups_distinct c.self.inside.leaders c.self.invariant.first c.self.invariant.distinct)

pub returns-in_err-place-clause-distinct : goal.returns-in_err-place-clause-distinct
returns-in_err-place-clause-distinct c =
    subst (λ (ls : List Activity). Distinct (groups ls)) (sym c.in_err-place.ensures.err) (groups_distinct c.self.inside.leaders c.self.invariant.first c.self.invariant.distinct)

pub invariant_of-self-2 : goal.invariant_of-self-2
invariant_of-self-2 c =
    let first : c.args.statement - c.behind_of-behind.result ≡ leader c.args.statement =
    ap (λ (n : ℕ). c.args.statement - n) c.behind_of-behind.ensures.value in
    let l = c.if-len-ge-MOST_GROUPS.false in
    let n = c.len.ensures in
    more_leaders c.self.inside.leaders c.number_beside.new.self (beside c.args.near.now (leader c.args.statement))
    (subst (λ (n : ℕ). GoesLast c.self.inside.leaders (beside c.args.near.now n) c.number_beside.new.self) first c.in_ok-place.ensures.ok) c.in_ok-place.ensures.distinct
    (first_is c.args.statement c.requires.0 c.requires.1) (omega (arith, l, n)) c.self.invariant

pub overflow_mul-result : goal.overflow_mul-result
overflow_mul-result c =
    let l = c.if-len-ge-MOST_GROUPS.false in
    let n = c.len.ensures in
    let p = new_small c.self.inside.leaders c.number_beside.new.self _ c.in_ok-place.place _ c.in_ok-place.ensures.ok c.in_ok-place.ensures.number (omega (arith, l, n)) in
    omega (arith, p)

pub overflow_add-result : goal.overflow_add-result
overflow_add-result c =
    let l = c.if-len-ge-MOST_GROUPS.false in
    let n = c.len.ensures in
    let p = new_small c.self.inside.leaders c.number_beside.new.self _ c.in_ok-place.place _ c.in_ok-place.ensures.ok c.in_ok-place.ensures.number (omega (arith, l, n)) in
    let q = c.from.ensures in
    let r = c.behind_of-behind.ensures.below in
    omega (arith, p, q, r)

pub returns-clause-number : goal.returns-clause-number
returns-clause-number c =
    let first : c.args.statement - c.behind_of-behind.result ≡ leader c.args.statement =
    ap (λ (n : ℕ). c.args.statement - n) c.behind_of-behind.ensures.value in
    let far : c.from.result ≡ behind c.args.statement = c.from.ensures ∙ c.behind_of-behind.ensures.value in
    subst (λ (n : ℕ). slice_get (groups c.number_beside.new.self) (3 * c.in_ok-place.place + n) ≡ Some (beside c.args.near.now c.args.statement)) (sym far)
    (number_in c.number_beside.new.self (beside c.args.near.now c.args.statement) c.in_ok-place.place c.requires.0 (c.in_ok-place.ensures.number ∙ ap (λ (n : ℕ). Some (beside c.args.near.now n)) first))

pub returns-clause-grows : goal.returns-clause-grows
returns-clause-grows c = subst (λ (bs : List Activity). Grows bs (groups c.number_beside.new.self)) c.self.view_is (groups_grow c.self.inside.leaders c.number_beside.new.self _ c.in_ok-place.ensures.ok)

pub returns-clause-distinct : goal.returns-clause-distinct
returns-clause-distinct c = let i = invariant_of-self-2 c in groups_distinct c.number_beside.new.self i.first i.distinct

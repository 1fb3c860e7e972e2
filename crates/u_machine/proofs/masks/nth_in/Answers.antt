use Rattle.std.proofs.Common.{arith, ◌≡◌, ◌+◌, ◌∷◌, ◌++◌, ◌∙◌, sym, ap, subst, map, length, List}
use Rattle.std.specs.Prelude.{slice_get, Some}
use Rattle.std.specs.Map.Iter.{deref}
use Rattle.std.proofs.lemmas.Bool.Decides.{nat_tests}
use Rattle.u_sets.proofs.Shown.{shown, shown_all}
use Rattle.u_rule.specs.declared.firing.Firing.{Firing}
use Rattle.u_machine.specs.Masks.{is_in, those_in}
use Rattle.u_machine.proofs.Masked.{found_at}
use Rattle.u_machine.proofs.masks.nth_in.Goals as goal

pub returns-then-left-eq0-clause-ok : goal.returns-then-left-eq0-clause-ok
returns-then-left-eq0-clause-ok c =
    let front : List Firing = map (deref {X = Firing}) c.loop-firing.yielded in
    let x : Firing = c.in-Some.firing.now in
    let rest : List Firing = c.next.new.self in
    let all : c.args.ready.now ≡ front ++ x ∷ rest =
    sym (c.into_iter-firing-iterator.ensures.into_iter_gives ∙ c.iter-firing-items.ensures.rest)
    ∙ (shown c.loop-firing.yielded c.into_iter-firing-iterator.result c.loop-firing.firing-iterator c.loop-firing.yielded_by
    ∙ ap (λ (r : List Firing). front ++ r) c.in-Some.ensures.steps) in
    let none_left : c.loop-firing.left ≡ 0 = grind (arith, nat_tests, c.if-left-eq0.true) in
    let count : length (those_in c.args.buckets front) ≡ c.args.before = omega (arith, c.loop-firing.invariant, none_left) in
    subst (λ fs. slice_get (those_in c.args.buckets fs) c.args.before ≡ Some x) (sym all) (found_at (is_in c.args.buckets) front rest x c.args.before (sym c.is_within.ensures ∙ c.if-is_within.true) count)

pub returns-clause-err : goal.returns-clause-err
returns-clause-err c =
    let all : map (deref {X = Firing}) c.loop-firing.yielded ≡ c.args.ready.now =
    sym (shown_all c.loop-firing.yielded c.into_iter-firing-iterator.result c.loop-firing.firing-iterator c.loop-firing.yielded_by c.in-None.ensures.steps.0)
    ∙ (c.into_iter-firing-iterator.ensures.into_iter_gives ∙ c.iter-firing-items.ensures.rest) in
    subst (λ fs. length (those_in c.args.buckets fs) + c.loop-firing.left ≡ c.args.before) all c.loop-firing.invariant

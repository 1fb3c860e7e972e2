use Rattle.std.proofs.Common.{◌≤◌, arith, sym, subst, length, List}
use Rattle.std.proofs.lemmas.List.{take_all, length-take}
use Rattle.u_rule.specs.declared.firing.Firing.{Firing}
use Rattle.u_machine.specs.Taking.{HasSoManyNew}
use Rattle.u_machine.specs.Invariant.{state_of}
use Rattle.u_machine.proofs.TakenLists.{next_place}
use Rattle.u_machine.proofs.NewOnes.{none_new, few_new, new_behind, old_behind}
use Rattle.u_machine.proofs.parts.Parts.compare_all_new.Goals as goal
use Rattle.u_machine.proofs.parts.Parts.compare_all_new.Goals.{then-is_new, else-is_new}

pub loop-place-init : goal.loop-place-init
loop-place-init c = record { counted = none_new (state_of c.args.self.now); within = omega arith }

pub overflow_add-count : goal.overflow_add-count
overflow_add-count c =
    let l = few_new (state_of c.args.self.now) _ c.loop-place.count c.loop-place.invariant.counted in
    let t = length-take c.loop-place.place c.args.firings.now in
    omega (arith, l, t, c.loop-place-test.true, c.loop-place.invariant.within, c.loop-place.auto.place-fits, c.loop-place.auto.count-fits)

pub loop-place-preserved : goal.loop-place-preserved
loop-place-preserved c = record {
  counted = subst (λ (fs : List Firing). HasSoManyNew (state_of c.args.self.now) fs c.if-is_new.count) (sym (next_place c.args.firings.now c.loop-place.place c.index-firings-place.result c.loop-place-test.true c.index-firings-place.is))
      (elim c.if-is_new.branch [
        | then-is_new w ↦ rw w.count-is (let n = c.is_new.ensures.0 w.if-is_new.true in new_behind (state_of c.args.self.now) c.index-firings-place.result _ c.loop-place.count n.0 n.1 c.loop-place.invariant.counted)
        | else-is_new w ↦ rw w.count-is (old_behind (state_of c.args.self.now) c.index-firings-place.result _ c.loop-place.count c.is_new.result c.is_new.ensures w.if-is_new.false c.loop-place.invariant.counted)
      ]);
  within = omega (arith, c.loop-place-test.true);
}

pub returns : goal.returns
returns c =
    let h : length c.args.firings.now ≤ c.loop-place.place = omega (arith, c.loop-place-test.false) in
    subst (λ (fs : List Firing). HasSoManyNew (state_of c.args.self.now) fs c.loop-place.count) (take_all c.loop-place.place c.args.firings.now h) c.loop-place.invariant.counted

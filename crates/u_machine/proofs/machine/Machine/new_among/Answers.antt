use Rattle.std.proofs.Common.{◌≤◌, arith, sym, subst, length, List}
use Rattle.std.proofs.lemmas.List.{take_all, length-take}
use Rattle.u_rule.specs.declared.firing.Firing.{Firing}
use Rattle.u_machine.specs.Taking.{HasSoManyNew}
use Rattle.u_machine.proofs.TakenLists.{next_place}
use Rattle.u_machine.proofs.NewOnes.{none_new, few_new, not_before, counted_if_new, uncounted_if_old}
use Rattle.u_machine.proofs.machine.Machine.new_among.Goals as goal
use Rattle.u_machine.proofs.machine.Machine.new_among.Goals.{then-is_new, else-is_new}

pub loop-firing-init : goal.loop-firing-init
loop-firing-init c = none_new c.args.self.now

pub overflow_add-count : goal.overflow_add-count
overflow_add-count c =
    let l = few_new c.args.self.now _ c.loop-firing.count c.loop-firing.invariant in
    let t = length-take c.loop-firing.firing-index c.args.firings.now in
    omega (arith, l, t, c.loop-firing-test.true)

pub loop-firing-preserved : goal.loop-firing-preserved
loop-firing-preserved c =
    let m = c.args.self.now in
    let f = c.firing-item.result in
    let before = not_before c.args.firings.now c.loop-firing.firing-index f c.loop-firing-test.true c.firing-item.is c.requires in
    subst (λ (fs : List Firing). HasSoManyNew m fs c.if-is_new.count) (sym (next_place c.args.firings.now c.loop-firing.firing-index f c.loop-firing-test.true c.firing-item.is))
    (elim c.if-is_new.branch [
      | then-is_new w ↦ rw w.count-is (counted_if_new m f _ c.loop-firing.count c.is_new.result c.is_new.ensures before w.if-is_new.true c.loop-firing.invariant)
      | else-is_new w ↦ rw w.count-is (uncounted_if_old m f _ c.loop-firing.count c.is_new.result c.is_new.ensures before w.if-is_new.false c.loop-firing.invariant)
    ])

pub returns : goal.returns
returns c =
    let h : length c.args.firings.now ≤ c.loop-firing.firing-index = omega arith in
    subst (λ (fs : List Firing). HasSoManyNew c.args.self.now fs c.loop-firing.count) (take_all c.loop-firing.firing-index c.args.firings.now h) c.loop-firing.invariant

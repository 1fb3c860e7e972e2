use Rattle.std.proofs.Common.{List, true, sym, subst, arith}
use Rattle.u_rule.specs.declared.firing.Firing.{Firing}
use Rattle.u_trace.specs.Stories.{AreThoseAt, Below}
use Rattle.u_trace.specs.Marks.{IsMarked}
use Rattle.u_trace.proofs.Lists.{get_below}
use Rattle.u_trace.proofs.PickLaws.{picked_none, picked_all}
use Rattle.u_trace.proofs.picking.picked.Goals as goal

pub loop-place-init : goal.loop-place-init
loop-place-init c = subst (λ (fs : List Firing). AreThoseAt c.args.log.now (Below 0 (IsMarked c.args.marks.now)) fs) (sym c.new-found.ensures.items) (picked_none c.args.log.now (IsMarked c.args.marks.now))

pub returns : goal.returns
returns c =
    picked_all c.args.log.now (IsMarked c.args.marks.now) c.loop-place.place c.loop-place.found.items c.loop-place.invariant
    (λ k p. let b = get_below c.args.marks.now k true p in let n = c.requires in let l = c.loop-place-test.false in omega (arith, b, n, l))

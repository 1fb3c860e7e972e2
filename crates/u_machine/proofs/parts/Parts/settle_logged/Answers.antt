use Rattle.std.proofs.Common.{◌<◌, arith, length}
use Rattle.u_machine.proofs.States.{applies_trans}
use Rattle.u_machine.proofs.Going.{lengthens_on, lengthens_le, goes_on, entered_more, entered_longer}
use Rattle.u_machine.proofs.Settled.{log_within}
use Rattle.u_machine.proofs.parts.Parts.settle_logged.Goals as goal

pub close_before-requires-clause-all : goal.close_before-requires-clause-all
close_before-requires-clause-all c k from to =
    let v = c.loop-place.invariant in
    let g = c.enter_given.ensures.goes in
    entered_longer c.loop-place.self c.enter_given.new.self k g c.enter_given.ensures.applies.grows.history (omega (arith, to, v.to)) (v.all k (omega (arith, from, g.applied_count)) to)

pub returns-in_default-clause-applies : goal.returns-in_default-clause-applies
returns-in_default-clause-applies c = applies_trans _ _ _ (applies_trans _ _ _ c.loop-place.invariant.applies c.enter_given.ensures.applies) c.close_before.ensures.applies

pub returns-in_default-clause-log : goal.returns-in_default-clause-log
returns-in_default-clause-log c =
    rw c.close_before.ensures.still.log (lengthens_on _ _ _ c.loop-place.invariant.goes.log c.enter_given.ensures.goes.log)

pub loop-place-smaller : goal.loop-place-smaller
loop-place-smaller c =
    let v = c.loop-place.invariant in
    let w = log_within c.loop-place.self v.kept in
    let b : c.loop-place.place < length c.loop-place.self.log.items = let n = c.len.ensures in omega (arith, n, c.loop-place-test.true) in
    let l = v.applies.grows.limit in
    omega (arith, w, b)

pub loop-place-preserved : goal.loop-place-preserved
loop-place-preserved c =
    let v = c.loop-place.invariant in
    let e = c.enter_given.ensures in
    let b : c.loop-place.place < length c.loop-place.self.log.items = let n = c.len.ensures in omega (arith, n, c.loop-place-test.true) in
    record {
      kept = e.kept;
      applies = applies_trans _ _ _ v.applies e.applies;
      goes = goes_on _ _ _ v.goes e.goes;
      idle = c.in-Ok.ensures.idle;
      from = omega (arith, v.from, e.goes.applied_count);
      to = let l = lengthens_le _ _ e.goes.log in omega (arith, b, l);
      all = entered_more c.loop-place.self c.enter_given.new.self c.loop-place.place e.goes e.applies.grows.history b v.all c.in-Ok.ensures.has;
    }

pub returns-clause-applies : goal.returns-clause-applies
returns-clause-applies c = applies_trans _ _ _ c.loop-place.invariant.applies c.close_before-2.ensures.applies

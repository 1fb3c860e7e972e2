use Rattle.std.proofs.Common.{◌+◌, ◌-◌, ◌/◌, arith, subst, sym}
use Rattle.u_history.specs.Outcomes.{lent}
use Rattle.u_history.specs.Places.{IsBefore}
use Rattle.u_history.proofs.Gathered.{lent_below, length_lent}
use Rattle.u_history.proofs.Spans.{low_moved, high_moved}
use Rattle.u_history.proofs.place.first_at.Goals as goal

pub loop-low-preserved-then-is_before : goal.loop-low-preserved-then-is_before
loop-low-preserved-then-is_before c =
    let l = c.loop-low.invariant in
    let t = c.loop-low-test.true in
    let m = c.loop-low.low + (c.loop-low.high - c.loop-low.low) / 2 in
    record {
      order = omega (arith, t);
      within = l.within;
      before = low_moved c.args.place (lent c.args.entries.now) c.requires m (lent_below c.args.entries.now m (omega (arith, t, l.within))) (λ d. subst (IsBefore c.args.place) (sym (c.entry_at.ensures d)) (c.is_before.ensures.0 c.if-is_before.true));
      behind = l.behind;
    }

pub loop-low-preserved : goal.loop-low-preserved
loop-low-preserved c =
    let l = c.loop-low.invariant in
    let t = c.loop-low-test.true in
    let m = c.loop-low.low + (c.loop-low.high - c.loop-low.low) / 2 in
    let n = length_lent c.args.entries.now in
    record {
      order = omega (arith, t);
      within = omega (arith, t, l.within);
      before = l.before;
      behind = λ k d a b. high_moved c.args.place (lent c.args.entries.now) c.requires m (lent_below c.args.entries.now m (omega (arith, t, l.within))) (λ e h. absurd (let f = c.if-is_before.false in let g = c.is_before.ensures.1 (subst (IsBefore c.args.place) (c.entry_at.ensures e) h) in cc)) k d a (lent_below c.args.entries.now k b);
    }

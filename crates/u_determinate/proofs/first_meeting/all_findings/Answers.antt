use Rattle.std.proofs.Common.{arith, refl, sym, subst}
use Rattle.std.proofs.lemmas.Option.{slice_get_read}
use Rattle.u_determinate.proofs.FirstMeetings.{FindingsBelow, findings_none, findings_more}
use Rattle.u_determinate.proofs.first_meeting.all_findings.Goals as goal

pub loop-block-init : goal.loop-block-init
loop-block-init c =
    subst (FindingsBelow c.args.blocks.now 0) (sym c.new-all.ensures.items) (findings_none c.args.blocks.now)

pub loop-block-preserved : goal.loop-block-preserved
loop-block-preserved c =
    let p = c.args.blocks.now in
    let i = c.loop-block.block-index in
    let b = c.block-item.result in
    rw c.in_ok-push.ensures.items (findings_more p i b (slice_get_read p _ i b refl c.loop-block-test.true c.block-item.is) c.loop-block.all.items c.in_ok-found.found c.in_ok-found.ensures c.loop-block.invariant)

pub returns : goal.returns
returns c = record {
  count = omega (arith, c.loop-block.invariant.0, c.loop-block-test.false, c.loop-block.auto.block-index-end);
  each = c.loop-block.invariant.1;
}

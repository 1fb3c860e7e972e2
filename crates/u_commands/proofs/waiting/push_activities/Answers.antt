use Rattle.u_trace.specs.Text.{waiting_text}
use Rattle.u_trace.specs.declared.activities.WaitingActivity.{WaitingActivity}
use Rattle.u_commands.specs.Placed.{place_at}
use Rattle.u_commands.proofs.Lined.{lines_placed}
use Rattle.u_commands.proofs.waiting.push_activities.Goals as goal

pub loop-waiting-preserved : goal.loop-waiting-preserved
loop-waiting-preserved c =
    lines_placed waiting_text (λ (x : WaitingActivity). place_at c.args.origins.now x.activity) c.args.activities.now c.loop-waiting.waiting-index c.waiting-item.result c.args.out.now.items c.loop-waiting.out.items _ _ _ c.loop-waiting-test.true c.waiting-item.is c.loop-waiting.invariant c.in_ok-push_waiting.ensures.ok c.in_ok-push_place.ensures c.in_ok-push.ensures.items

use Rattle.u_trace.specs.Text.{read_text}
use Rattle.u_trace.specs.declared.reads.DeferredRead.{DeferredRead}
use Rattle.u_commands.specs.Placed.{place_at}
use Rattle.u_commands.proofs.Lined.{lines_placed}
use Rattle.u_commands.proofs.waiting.push_reads.Goals as goal

pub loop-read-preserved : goal.loop-read-preserved
loop-read-preserved c =
    lines_placed read_text (λ (x : DeferredRead). place_at c.args.origins.now x.reader) c.args.reads.now c.loop-read.read-index c.read-item.result c.args.out.now.items c.loop-read.out.items _ _ _ c.loop-read-test.true c.read-item.is c.loop-read.invariant c.in_ok-push_read.ensures.ok c.in_ok-push_place.ensures c.in_ok-push.ensures.items

use Rattle.u_replica.proofs.FiredLaws.{lines_none}
use Rattle.u_replica.proofs.ListedLaws.{listed_more}
use Rattle.u_replica.proofs.listed_lines.lines_ahead.Goals as goal

pub loop-line-init : goal.loop-line-init
loop-line-init c = rw c.new-lines.ensures.items (lines_none c.args.bytes.now)

pub loop-line-preserved : goal.loop-line-preserved
loop-line-preserved c =
    rw c.in_ok-push-in-Line-eq102-default.ensures.items
    (listed_more c.args.bytes.now c.loop-line.rest.now c.in-Line-eq102-default.others.now c.loop-line.lines.items c.in-Line-eq102-default.line c.loop-line.invariant c.in-Line-eq102-default.ensures.0)

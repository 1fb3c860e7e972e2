use Rattle.u_determinate.proofs.Links.{sources_more}
use Rattle.u_determinate.proofs.incoming.sources_of.Goals as goal

pub loop-number-preserved : goal.loop-number-preserved
loop-number-preserved c =
    rw c.in_ok-push.ensures.items (sources_more c.args.statements.now c.loop-number.number c.loop-number.all.items (record { links = c.in_ok-links.links; behind = c.in_ok-behind.behind }) c.loop-number.invariant c.in_ok-links.ensures c.in_ok-behind.ensures)

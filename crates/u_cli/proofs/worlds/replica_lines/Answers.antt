use Rattle.std.proofs.Common.{sym, ◌+◌}
use Rattle.u_cli.proofs.Gathering.{lines_more}
use Rattle.u_cli.proofs.worlds.replica_lines.Goals as goal

pub push_replica-requires : goal.push_replica-requires
push_replica-requires c = sym ((c.holds.ensures.is.members (c.loop-place.place + 1) c.replica.result.now c.replica.ensures).number)

pub loop-place-preserved : goal.loop-place-preserved
loop-place-preserved c =
    lines_more c.args.world.now.replicas c.loop-place.place c.replica.result.now c.loop-place.lines.items c.push_replica.new.line.items c.replica.ensures c.loop-place.invariant c.in_ok-push_replica.ensures

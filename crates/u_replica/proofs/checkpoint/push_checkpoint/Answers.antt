use Rattle.std.proofs.Common.{◌+◌, ap, length}
use Rattle.u_replica.proofs.CheckpointWritten.{all_written}
use Rattle.u_replica.proofs.checkpoint.push_checkpoint.Goals as goal

pub returns-clause-ok : goal.returns-clause-ok
returns-clause-ok c =
    all_written c.args.version c.args.out.now.items c.push_head.new.out.items c.write_firings.new.out.items c.push_set.new.out.items c.push_count.new.out.items c.args.applied.now c.args.parked.now (length c.args.applied.now + c.len.result) c.push_count.result c.in_ok-push_head.ensures.ok c.in_ok-write_firings.ensures.ok c.in_ok-push_set.ensures.ok (ap (λ n. length c.args.applied.now + n) c.len.ensures) c.push_count.ensures.ok

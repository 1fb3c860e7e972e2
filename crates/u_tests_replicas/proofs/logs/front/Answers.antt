use Rattle.u_tests_replicas.proofs.Soundness.{front_sound}
use Rattle.u_tests_replicas.proofs.logs.front.Goals as goal

pub returns : goal.returns
returns g c = front_sound g.J.Named.job c.args.machine.now c.applied-log.result.now c.min.result c.holds.ensures.is c.requires c.applied-log.ensures

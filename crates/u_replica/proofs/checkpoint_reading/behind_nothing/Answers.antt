use Rattle.std.proofs.Common.{subst}
use Rattle.u_replica.specs.CheckpointReading.{IsAnswer}
use Rattle.u_replica.proofs.ListedLaws.{read_nothing}
use Rattle.u_replica.proofs.checkpoint_reading.behind_nothing.Goals as goal

pub returns-in-Ok : goal.returns-in-Ok
returns-in-Ok c = λ m version text a. read_nothing m version text c.in-Ok.checkpoint (subst (λ r. IsAnswer version text r) c.in-Ok.is a)

pub returns-in-Err : goal.returns-in-Err
returns-in-Err c = λ m version text a. subst (λ r. IsAnswer version text r) c.in-Err.is a

use Rattle.std.proofs.Common.{subst}
use Rattle.std.specs.Prelude.{IsOk}
use Rattle.u_machine.specs.State.{IsSettled, NothingReady}
use Rattle.u_replica.specs.ReplicaState.{ReplicaState}
use Rattle.u_replica.proofs.replica.Replica.run.Goals as goal

pub returns-clause-quiet : goal.returns-clause-quiet
returns-clause-quiet c = subst (λ (r : ReplicaState). IsSettled r.machine → NothingReady r.machine → IsOk c.run.result) c.self.view_is c.run.ensures.quiet

-- What `save` tells of a job.
use Rattle.std.specs.Prelude.{◌≡◌, ℕ, List}
use Rattle.u_check.specs.Jobs.{JobParts}
use Rattle.u_base.specs.Firing.{Plain}
use Rattle.u_rule.specs.Rule.{own_of}
use Rattle.u_rule.specs.declared.firing.Firing.{Firing}
use Rattle.u_machine.specs.Calls.{firing_le}
use Rattle.u_replica.specs.CheckpointText.{checkpoint_text}
use Rattle.u_replica.specs.Checkpoints.{AreFirings}

-- fs is the plain run of the job: each firing the least that is enabled and new, so many at most. The
-- checkpoint is theirs.
pub record SavesRunOfJob (job : JobParts) (firings : ℕ) (checkpoint : List ℕ) (status : ℕ) : Type 0 where
  pub fs : List Firing
  pub plain : Plain (own_of job) firing_le firings fs
  pub valid : AreFirings fs
  pub text : checkpoint ≡ checkpoint_text job.program.version fs
  pub ended : status ≡ 0

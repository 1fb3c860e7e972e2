-- What is listed cannot fire.
use Rattle.std.specs.Prelude.{◌≡◌, Ok}
use Rattle.u_check.specs.Jobs.{JobParts}
use Rattle.u_base.specs.Firing.{Enabled}
use Rattle.u_rule.specs.Rule.{own_of}
use Rattle.u_rule.specs.Structures.{cell_named}
use Rattle.u_rule.specs.declared.entry.Entry.{Entry}
use Rattle.u_rule.specs.declared.firing.Firing.{Firing}
use Rattle.u_trace.specs.Waiting.{IsWaiting}
use Rattle.u_trace.specs.Deferred.{IsDeferred}
use Rattle.u_trace.specs.declared.activities.WaitingActivity.{WaitingActivity}
use Rattle.u_trace.specs.declared.reads.DeferredRead.{DeferredRead}

-- over H no firing of an activity that waits is enabled, and none by which a deferred read's activity
-- reads its cell
pub record AreStill (job : JobParts) (H : Entry → Type 0) : Type 0 where
  pub activities : (w : WaitingActivity) (f : Firing) → IsWaiting job.program.blocks H w → Enabled (own_of job) H f → f.activity ≡ w.activity → ⊥
  pub reads :
      (r : DeferredRead) (f : Firing) → IsDeferred job.program.blocks H r → Enabled (own_of job) H f → f.activity ≡ r.reader
      → cell_named f.values ≡ Ok r.cell → ⊥

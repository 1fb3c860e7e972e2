-- What is answered of what waits.
use Rattle.u_sets.specs.Rising.{IsListOf}
use Rattle.u_check.specs.Jobs.{JobParts}
use Rattle.u_rule.specs.declared.entry.Entry.{Entry}
use Rattle.u_trace.specs.Waiting.{IsWaiting}
use Rattle.u_trace.specs.Deferred.{IsDeferred}
use Rattle.u_trace.specs.Orders.{by_activity, by_reader}
use Rattle.u_trace.specs.declared.answer.Waiting.{Waiting}

-- the lists have exactly the activities of the job that wait over H and its deferred reads, each in order
pub record AreWaits (job : JobParts) (H : Entry → Type 0) (w : Waiting) : Type 0 where
  pub activities : IsListOf by_activity (IsWaiting job.program.blocks H) w.activities.items
  pub reads : IsListOf by_reader (IsDeferred job.program.blocks H) w.reads.items

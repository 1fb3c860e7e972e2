use Rattle.std.proofs.Common.{◌∙◌, sym, subst}
use Rattle.u_sets.proofs.Shown.{shown_all}
use Rattle.u_replica.specs.Checkpoints.{AreFirings}
use Rattle.u_replica.proofs.CheckpointWritten.{valid_more}
use Rattle.u_replica.proofs.checkpoint.set_in_range.Goals as goal

pub loop-firing-preserved : goal.loop-firing-preserved
loop-firing-preserved c = valid_more c.loop-firing.yielded c.in-Some.firing c.loop-firing.invariant c.in_range.ensures

pub returns : goal.returns
returns c =
    subst AreFirings
    (sym (shown_all c.loop-firing.yielded c.into_iter-firing-iterator.result c.loop-firing.firing-iterator c.loop-firing.yielded_by c.in-None.ensures.steps.0)
    ∙ (c.into_iter-firing-iterator.ensures.into_iter_gives ∙ c.iter-firing-items.ensures.rest))
    c.loop-firing.invariant

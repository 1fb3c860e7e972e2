use Rattle.std.proofs.Common.{◌∙◌, ap}
use Rattle.u_sets.specs.Columns.{numbered_pairs}
use Rattle.u_sets.proofs.Columned.{empty_more}
use Rattle.u_sets.proofs.column.reach.Goals as goal

pub loop-places-preserved : goal.loop-places-preserved
loop-places-preserved g c = ap numbered_pairs c.in_ok-push.ensures.items ∙ empty_more c.loop-places.places.items ∙ c.loop-places.invariant

use Rattle.std.proofs.Common.{List, Bool, subst}
use Rattle.u_rule.specs.Rule.{own_of}
use Rattle.u_trace.specs.Stories.{AreThoseAt, InStory}
use Rattle.u_trace.specs.Marks.{IsMarked}
use Rattle.u_trace.proofs.PickLaws.{same_places}
use Rattle.u_trace.proofs.telling.applied_story.Goals as goal

pub returns : goal.returns
returns c =
    same_places c.args.log.now (IsMarked c.in_ok-marks.marks.items) (InStory (own_of c.args.job.now) c.args.log.now c.args.entry.now) c.in_ok-found.found.items c.in_ok-marks.ensures.marked
    (subst (λ (bs : List Bool). AreThoseAt c.args.log.now (IsMarked bs) c.in_ok-found.found.items) c.deref.ensures.value c.in_ok-found.ensures)

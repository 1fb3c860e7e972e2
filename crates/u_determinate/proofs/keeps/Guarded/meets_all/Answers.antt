use Rattle.std.proofs.Common.{◌≡◌, false, sym, ◌∙◌}
use Rattle.std.proofs.lemmas.Bool.{false≢true}
use Rattle.std.proofs.lemmas.List.{get_or_default}
use Rattle.u_determinate.specs.declared.incoming.Link.{Link}
use Rattle.u_determinate.specs.Determinate.{MayMeet}
use Rattle.u_determinate.specs.Flow.{arc_of}
use Rattle.u_determinate.proofs.Links.{link}
use Rattle.u_determinate.proofs.PortLaws.{before_more}
use Rattle.u_determinate.proofs.keeps.Guarded.meets_all.Goals as goal
use Rattle.u_determinate.proofs.keeps.Guarded.meets_all.Goals.{else-other-one-via-then-other-one+else-not-may_meet, else-other-one-via-else-other-one}

pub loop-other-preserved : goal.loop-other-preserved
loop-other-preserved c =
    before_more (λ (k : Link). k.port ≡ c.args.one.now.port → MayMeet c.args.self.now.flow.statements.now (arc_of c.args.one.now) (arc_of k)) c.loop-other.other-index c.args.links.now (link 0 false 0 0) c.loop-other.invariant c.loop-other-test.true
    (λ e. elim c.else-other-one.branch [
      | else-other-one-via-then-other-one+else-not-may_meet w ↦ w.may_meet.ensures.0 w.if-not-may_meet.false
      | else-other-one-via-else-other-one w ↦ absurd (w.if-other-one.false e)
    ])

pub returns-then-not-may_meet : goal.returns-then-not-may_meet
returns-then-not-may_meet c =
    ((λ t. absurd (false≢true t)), λ f. absurd (false≢true (sym c.if-not-may_meet.true ∙ c.may_meet.ensures.1 (f _ (c.loop-other.other-index, c.loop-other-test.true, get_or_default c.args.links.now c.loop-other.other-index _ _ c.loop-other-test.true) c.if-other-one.true))))

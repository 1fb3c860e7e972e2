use Rattle.std.proofs.Common.{ℕ, sym, ◌∙◌}
use Rattle.std.proofs.lemmas.Bool.{false≢true}
use Rattle.u_determinate.specs.Meetings.{Asks}
use Rattle.u_determinate.proofs.Opposed.{below_next}
use Rattle.u_determinate.proofs.FirstMeetings.{asks_all}
use Rattle.u_determinate.proofs.first_meeting.first_at.Goals as goal

pub loop-number-preserved : goal.loop-number-preserved
loop-number-preserved c =
    below_next (λ (m : ℕ). Asks c.args.meeting c.args.guarded.flow.statements.now m) c.loop-number.number c.loop-number.invariant (c.keeps.ensures.0 c.if-not-keeps.false)

pub returns-then-not-keeps : goal.returns-then-not-keeps
returns-then-not-keeps c =
    ((λ a. false≢true (sym c.if-not-keeps.true ∙ c.keeps.ensures.1 a)), λ m l. c.loop-number.invariant m l)

pub returns : goal.returns
returns c =
    asks_all c.args.meeting c.args.guarded.flow.statements.now c.loop-number.number c.loop-number-test.false c.loop-number.invariant

use Rattle.std.proofs.Common.{◌≡◌, ℕ, arith, sym, Option, subst}
use Rattle.u_determinate.specs.declared.verdict.MeetingPoint.{MeetingPoint}
use Rattle.u_determinate.specs.declared.verdict.Determinacy.TheVariants.{Determinate, Meets}
use Rattle.u_determinate.specs.Findings.{AreFindings, IsFirstFound}
use Rattle.u_determinate.proofs.FirstMeetings.{KeptKinds, meeting_in, none_found, next_kind, first_answer, determinate, answer_exact}
use Rattle.u_determinate.proofs.first_meeting.determinacy_of.Goals as goal

pub loop-meeting-init : goal.loop-meeting-init
loop-meeting-init c = λ m h. absurd (omega (arith, h))

pub loop-meeting-preserved : goal.loop-meeting-preserved
loop-meeting-preserved c =
    let p = c.args.blocks.now in
    let i = c.loop-meeting.meeting-index in
    let fs = c.deref.result.now in
    let are = subst (AreFindings p) (sym c.deref.ensures.value) c.in_ok-findings.ensures in
    next_kind p i c.loop-meeting-test.true c.loop-meeting.invariant (none_found p fs are (meeting_in i) (subst (λ (o : Option MeetingPoint). IsFirstFound fs (meeting_in i) o) c.in_default.is c.first_of.ensures))

pub returns-clause-answer : goal.returns-clause-answer
returns-clause-answer c =
    let e : c.loop-meeting.meeting-index ≡ 4 = omega arith in
    determinate c.args.blocks.now c.requires (subst (λ (i : ℕ). KeptKinds c.args.blocks.now i) e c.loop-meeting.invariant)

pub returns-clause-exact : goal.returns-clause-exact
returns-clause-exact c =
    let e : c.loop-meeting.meeting-index ≡ 4 = omega arith in
    answer_exact c.args.blocks.now Determinate (determinate c.args.blocks.now c.requires (subst (λ (i : ℕ). KeptKinds c.args.blocks.now i) e c.loop-meeting.invariant))

pub returns-in-Some-clause-answer : goal.returns-in-Some-clause-answer
returns-in-Some-clause-answer c =
    let p = c.args.blocks.now in
    let i = c.loop-meeting.meeting-index in
    let fs = c.deref.result.now in
    let are = subst (AreFindings p) (sym c.deref.ensures.value) c.in_ok-findings.ensures in
    first_answer p fs are i c.in-Some.place c.loop-meeting-test.true c.loop-meeting.invariant (subst (λ (o : Option MeetingPoint). IsFirstFound fs (meeting_in i) o) c.in-Some.is c.first_of.ensures)

pub returns-in-Some-clause-exact : goal.returns-in-Some-clause-exact
returns-in-Some-clause-exact c =
    let p = c.args.blocks.now in
    let i = c.loop-meeting.meeting-index in
    let fs = c.deref.result.now in
    let are = subst (AreFindings p) (sym c.deref.ensures.value) c.in_ok-findings.ensures in
    answer_exact p (Meets c.in-Some.place) (first_answer p fs are i c.in-Some.place c.loop-meeting-test.true c.loop-meeting.invariant (subst (λ (o : Option MeetingPoint). IsFirstFound fs (meeting_in i) o) c.in-Some.is c.first_of.ensures))

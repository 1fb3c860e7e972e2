use Rattle.std.proofs.Common.{◌≡◌, ℕ, arith, refl, sym, ap, ◌∙◌, get_or, Some, None}
use Rattle.std.specs.Prelude.{slice_get}
use Rattle.std.proofs.lemmas.Option.{slice_get-get_or, slice_get_within}
use Rattle.u_check.proofs.First.{at_place}
use Rattle.u_determinate.specs.declared.first_meeting.Found.{Found}
use Rattle.u_determinate.specs.Findings.{found_of}
use Rattle.u_determinate.proofs.Opposed.{below_next}
use Rattle.u_determinate.proofs.FirstMeetings.{one_there}
use Rattle.u_determinate.proofs.first_meeting.first_of.Goals as goal

abbrev nothing : Found
nothing = record { arcs = None; ends = None; calls = None; turns = None }

pub loop-i-preserved : goal.loop-i-preserved
loop-i-preserved c =
    let fs = c.args.findings.now in
    let i = c.loop-i.i in
    let it = get_or fs i nothing in
    let at : slice_get fs i ≡ Some it = slice_get-get_or fs i nothing c.loop-i-test.true in
    below_next (λ (j : ℕ). (f : Found) → slice_get fs j ≡ Some f → found_of f c.args.meeting ≡ None) i c.loop-i.invariant
    (λ f e. ap (λ (x : Found). found_of x c.args.meeting) (one_there fs i f it e at) ∙ sym c.of.ensures ∙ c.in_default.is)

pub returns : goal.returns
returns c = λ i f e.
    let w = slice_get_within c.args.findings.now i f e in
    c.loop-i.invariant i (omega (arith, w, c.loop-i-test.false)) f e

pub returns-in-Some : goal.returns-in-Some
returns-in-Some c =
    let fs = c.args.findings.now in
    let i = c.loop-i.i in
    let it = get_or fs i nothing in
    record {
      meeting = refl;
      counts = omega arith;
      it = it;
      stands = at_place fs i ∙ slice_get-get_or fs i nothing c.loop-i-test.true;
      found = sym c.of.ensures ∙ c.in-Some.is;
      before = λ j f l e. c.loop-i.invariant j (omega (arith, l)) f e;
    }

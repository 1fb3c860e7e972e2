use Rattle.std.proofs.Common.{◌≡◌, ◌<◌, ℕ, Some, None}
use Rattle.std.specs.Prelude.{slice_get}
use Rattle.u_determinate.specs.declared.first_meeting.Found.{Found}
use Rattle.u_determinate.specs.Findings.{found_of}
use Rattle.u_determinate.proofs.first_meeting.first_of.Given as goal

abbrev pub invariant-loop-i : goal.invariant-loop-i
invariant-loop-i l =
    (j : ℕ) → j < l.i → (f : Found) → slice_get l.findings j ≡ Some f → found_of f l.meeting ≡ None

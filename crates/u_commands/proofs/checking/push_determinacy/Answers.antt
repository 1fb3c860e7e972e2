-- The three pieces of the line, one behind another.
use Rattle.u_commands.specs.Checks.{determinacy_line}
use Rattle.u_commands.proofs.Waited.{join3}
use Rattle.u_commands.proofs.checking.push_determinacy.Goals as goal

pub returns-in_ok-extend_from_slice-in-Meets : goal.returns-in_ok-extend_from_slice-in-Meets
unfolding determinacy_line
returns-in_ok-extend_from_slice-in-Meets c =
    rw c.in-Meets.is (join3 _ _ _ _ _ _ _ _
    c.in_ok-push_numbered-in-Meets.ensures
    c.in_ok-push_numbered-in-Meets-2.ensures
    c.meeting_words.ensures
    c.in_ok-extend_from_slice-in-Meets.ensures.items)

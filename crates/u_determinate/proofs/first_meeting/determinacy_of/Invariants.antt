use Rattle.u_determinate.proofs.FirstMeetings.{KeptKinds}
use Rattle.u_determinate.proofs.first_meeting.determinacy_of.Given as goal

abbrev pub invariant-loop-meeting : goal.invariant-loop-meeting
invariant-loop-meeting l = KeptKinds l.blocks l.meeting-index

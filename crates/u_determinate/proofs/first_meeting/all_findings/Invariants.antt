use Rattle.u_determinate.proofs.FirstMeetings.{FindingsBelow}
use Rattle.u_determinate.proofs.first_meeting.all_findings.Given as goal

abbrev pub invariant-loop-block : goal.invariant-loop-block
invariant-loop-block l = FindingsBelow l.blocks l.block-index l.all.items

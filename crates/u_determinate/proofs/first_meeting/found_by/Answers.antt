use Rattle.u_determinate.proofs.FirstMeetings.{first_each}
use Rattle.u_determinate.proofs.first_meeting.found_by.Goals as goal

pub returns : goal.returns
returns c =
    first_each c.args.guarded.flow.statements.now (record { arcs = c.first_at-arcs.result; ends = c.first_at-ends.result; calls = c.first_at-calls.result; turns = c.first_at-turns.result }) c.first_at-arcs.ensures c.first_at-ends.ensures c.first_at-calls.ensures c.first_at-turns.ensures

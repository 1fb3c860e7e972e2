use Rattle.std.proofs.Common.{◌∙◌}
use Rattle.u_replica.proofs.CheckpointSteps.{first_bad, first_long, first_rest}
use Rattle.u_replica.proofs.checkpoint_reading.read_head.Goals as goal

pub returns-in-None : goal.returns-in-None
returns-in-None c = first_bad c.args.version c.args.bytes.now c.in-Line.line.now c.in-Line.rest.now c.in-Line.ensures.0 c.in-None.ensures

pub returns-in-TooLong : goal.returns-in-TooLong
returns-in-TooLong c = first_long c.args.version c.args.bytes.now c.in-TooLong.ensures

pub returns-in-Rest : goal.returns-in-Rest
returns-in-Rest c = first_rest c.args.version c.args.bytes.now c.new-in-Rest.result (c.new-in-Rest.ensures ∙ c.new.ensures.items) c.in-Rest.ensures

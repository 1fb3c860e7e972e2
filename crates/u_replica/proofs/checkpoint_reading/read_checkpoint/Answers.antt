use Rattle.std.proofs.Common.{arith}
use Rattle.u_replica.proofs.CheckpointSame.{read_whole, read_back}
use Rattle.u_replica.proofs.CheckpointCuts.{read_cut}
use Rattle.u_replica.proofs.checkpoint_reading.read_checkpoint.Goals as goal

pub returns-clause-answer : goal.returns-clause-answer
returns-clause-answer c = read_whole c.args.version c.args.bytes.now c.read_lines.result c.read_lines.ensures

pub returns-clause-back : goal.returns-clause-back
returns-clause-back c head fs may valid text = read_back c.args.version c.args.bytes.now (omega arith) head fs c.read_lines.result c.read_lines.ensures may valid text

pub returns-clause-cut : goal.returns-clause-cut
returns-clause-cut c head fs k may valid inside text = read_cut c.args.version head fs k c.args.bytes.now c.read_lines.result (omega arith) may valid inside text c.read_lines.ensures

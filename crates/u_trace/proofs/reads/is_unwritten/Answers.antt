use Rattle.std.specs.Prelude.{Contains}
use Rattle.u_trace.proofs.Stored.{written_or_not}
use Rattle.u_trace.proofs.reads.is_unwritten.Goals as goal

pub returns : goal.returns
returns c = written_or_not (Contains c.args.history.now) c.args.cell.now c.writes_to.result.now c.is_empty.result c.is_empty.ensures c.writes_to.ensures.all

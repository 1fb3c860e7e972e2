use Rattle.u_source.proofs.SourceLaws.{source_back}
use Rattle.u_source.proofs.source.Source.read.Goals as goal

pub returns-clause-back : goal.returns-clause-back
returns-clause-back c = source_back c.args.bytes.now c.read_source.result c.read_source.ensures

use Rattle.u_source.proofs.OnceLaws.{read_back}
use Rattle.u_source.proofs.lexing.tokens.Goals as goal

pub returns-clause-back : goal.returns-clause-back
returns-clause-back c = λ ts a. read_back c.args.bytes.now ts c.read_all.result c.read_all.ensures a

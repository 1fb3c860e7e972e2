use Rattle.u_program.proofs.Same.{read_back}
use Rattle.u_program.proofs.text.read.Goals as goal

pub returns-clause-back : goal.returns-clause-back
returns-clause-back c = λ p v. read_back c.args.bytes.now p c.read_lines.result c.read_lines.ensures v

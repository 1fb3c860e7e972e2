use Rattle.u_delta.proofs.Same.{read_whole, read_back}
use Rattle.u_delta.proofs.reading.read_message.Goals as goal

pub returns-clause-back : goal.returns-clause-back
returns-clause-back c message is =
    read_back c.args.bytes.now message c.read_lines.result (read_whole c.args.bytes.now c.read_lines.result c.read_lines.ensures) is

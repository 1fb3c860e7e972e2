use Rattle.u_name.proofs.PartsInRange.{tail_is_fine}
use Rattle.u_name.proofs.reading.Cursor.tail.Goals as goal

pub returns-clause-fine : goal.returns-clause-fine
returns-clause-fine c = tail_is_fine c.tail_parts.result c.args.self.now.rest.now c.tail_parts.new.self.rest.now c.tail_parts.ensures

use Rattle.u_name.proofs.PartsInRange.{frame_is_fine}
use Rattle.u_name.proofs.reading.Cursor.frame.Goals as goal

pub returns-clause-fine : goal.returns-clause-fine
returns-clause-fine c = frame_is_fine c.frame_parts.result c.args.self.now.rest.now c.frame_parts.new.self.rest.now c.frame_parts.ensures

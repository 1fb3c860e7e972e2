use Rattle.u_trace.proofs.OwnerLaws.{still_same}
use Rattle.u_trace.proofs.table.Givers.note.Goals as goal

pub returns-clause-owns : goal.returns-clause-owns
returns-clause-owns c = still_same c.args.self.now c.note_other.new.self c.note_other.ensures.names c.note_other.ensures.owners

use Rattle.u_check.proofs.QuestionLaws.{same_rows}
use Rattle.u_check.proofs.table.Table.is_same.Goals as goal

pub returns : goal.returns
returns c = rw (c.eq.ensures, c.as_slice.ensures.entries, c.as_slice-2.ensures.entries, c.self.view_is, c.other.view_is) (same_rows c.args.self.now c.args.other.now)

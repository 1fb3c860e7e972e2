use Rattle.u_history.proofs.Neighbours.{same_cell}
use Rattle.u_history.proofs.place.is_in_cell.Goals as goal

pub returns : goal.returns
returns c = rw c.eq.ensures (same_cell c.args.write.now.cell c.args.cell.now)

use Rattle.u_sets.proofs.Places.{inserted}
use Rattle.u_sets.proofs.falling.put_in_place.Goals as goal

pub returns-in_ok-insert-in-Err-clause-ok : goal.returns-in_ok-insert-in-Err-clause-ok
returns-in_ok-insert-in-Err-clause-ok g c = rw c.in_ok-insert-in-Err.ensures.items (inserted c.args.list.now.items c.in-Err.place c.args.item)

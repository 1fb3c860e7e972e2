use Rattle.std.proofs.Common.{arith, refl}
use Rattle.u_sets.proofs.Sorted.{searchable, Ascending-insert}
use Rattle.u_sets.proofs.Places.{absent, inserted}
use Rattle.u_sets.proofs.rising.place_in.Goals as goal

pub returns-in_ok-insert-in-Err-clause-rises : goal.returns-in_ok-insert-in-Err-clause-rises
returns-in_ok-insert-in-Err-clause-rises g c =
    let p = (rw c.deref.ensures.value at c.in-Err.ensures.position) (searchable g.T.Ord.cmp g.met.T.Ord.total c.args.list.now.items c.args.item c.requires) in
    rw c.in_ok-insert-in-Err.ensures.items (Ascending-insert g.T.Ord.cmp g.met.T.Ord.total c.args.list.now.items c.in-Err.place c.args.item (rw c.deref.ensures.value at c.in-Err.ensures.bound) (λ k d h. p.0 k d (omega arith) h) p.1 c.requires)

pub returns-in_ok-insert-in-Err-clause-ok : goal.returns-in_ok-insert-in-Err-clause-ok
returns-in_ok-insert-in-Err-clause-ok g c = rw c.in_ok-insert-in-Err.ensures.items (inserted c.args.list.now.items c.in-Err.place c.args.item)

pub returns-in_ok-insert-in-Err-clause-new : goal.returns-in_ok-insert-in-Err-clause-new
returns-in_ok-insert-in-Err-clause-new g c =
    let p = (rw c.deref.ensures.value at c.in-Err.ensures.position) (searchable g.T.Ord.cmp g.met.T.Ord.total c.args.list.now.items c.args.item c.requires) in
    ((λ z. absent g.T.Ord.cmp g.met.T.Ord.total c.args.list.now.items c.in-Err.place c.args.item (λ k d h. p.0 k d (omega (arith, rw c.deref.ensures.value at c.in-Err.ensures.bound)) h) p.1), λ z. refl)

use Rattle.std.proofs.Common.{arith}
use Rattle.u_sets.proofs.Sorted.{searchable}
use Rattle.u_sets.proofs.Places.{absent}
use Rattle.u_sets.proofs.Fronted.{taken_out, rises_out}
use Rattle.u_machine.proofs.Queued.{none_out, found_at}
use Rattle.u_machine.proofs.priority_queue.take_from.Goals as goal

pub returns-in-Some-clause-without : goal.returns-in-Some-clause-without
returns-in-Some-clause-without g c =
    let run = c.args.run.now.items in
    let at = found_at g.K.Ord.cmp g.met.K.Ord.total g.met.K.ExactOrd.exact run c.in-Ok.place c.args.item.now (let n = c.args.run.now.ok in omega (arith, c.in-Ok.ensures.bound, n.0)) c.in-Ok.ensures.ok in
    rw c.in-Some.ensures.items (taken_out g.K.Ord.cmp g.met.K.Ord.total run c.in-Ok.place c.args.item.now c.requires at)

pub returns-in-Some-clause-rises : goal.returns-in-Some-clause-rises
returns-in-Some-clause-rises g c =
    let run = c.args.run.now.items in
    let at = found_at g.K.Ord.cmp g.met.K.Ord.total g.met.K.ExactOrd.exact run c.in-Ok.place c.args.item.now (let n = c.args.run.now.ok in omega (arith, c.in-Ok.ensures.bound, n.0)) c.in-Ok.ensures.ok in
    rw c.in-Some.ensures.items (rises_out g.K.Ord.cmp g.met.K.Ord.total run c.in-Ok.place c.args.item.now c.requires at)

pub returns-in-Err-clause-was : goal.returns-in-Err-clause-was
returns-in-Err-clause-was g c =
    let p = c.in-Err.ensures.position (searchable g.K.Ord.cmp g.met.K.Ord.total c.args.run.now.items c.args.item.now c.requires) in
    let n = c.args.run.now.ok in
    ((λ z. absurd (cc)), λ m. absurd (absent g.K.Ord.cmp g.met.K.Ord.total c.args.run.now.items c.in-Err.field-0 c.args.item.now (λ k d h. p.0 k d (omega (arith, c.in-Err.ensures.bound, n.0)) h) p.1 m))

pub returns-in-Err-clause-without : goal.returns-in-Err-clause-without
returns-in-Err-clause-without g c = none_out c.args.run.now.items c.args.item.now (λ m. absurd ((let f = (returns-in-Err-clause-was g c).1 m in cc)))

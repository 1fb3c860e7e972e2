use Rattle.std.proofs.Common.{arith}
use Rattle.u_sets.proofs.Sorted.{searchable}
use Rattle.u_sets.proofs.Places.{absent}
use Rattle.u_sets.proofs.rising.has.Goals as goal

pub returns-in-Err : goal.returns-in-Err
returns-in-Err g c =
    let p = c.in-Err.ensures.position (searchable g.T.Ord.cmp g.met.T.Ord.total c.args.list.now c.args.item.now c.requires) in
    ((λ z. absurd (cc)), λ m. absurd (absent g.T.Ord.cmp g.met.T.Ord.total c.args.list.now c.in-Err.field-0 c.args.item.now (λ k d h. p.0 k d (omega (arith, c.in-Err.ensures.bound)) h) p.1 m))

use Rattle.u_sets.proofs.Hashed.{exactly, puts, was_new}
use Rattle.u_sets.proofs.few.Few.insert.Goals as goal

pub returns-in_ok-added-in-Many-clause-ok : goal.returns-in_ok-added-in-Many-clause-ok
returns-in_ok-added-in-Many-clause-ok g c =
    let x = exactly g.V.PartialEq.eq g.V.Ord.cmp g.met.V.ExactOrd.exact g.met.V.Ord.matches_eq in
    rw (c.in-Many.is, ← c.deref_mut.ensures.value) (puts g.V.PartialEq.eq g.met.V.Eq.laws x c.deref_mut.result.now.keys c.insert.new.self.keys c.args.value c.in_ok-added-in-Many.ensures.updates.0)

pub returns-in_ok-added-in-Many-clause-new : goal.returns-in_ok-added-in-Many-clause-new
returns-in_ok-added-in-Many-clause-new g c =
    let x = exactly g.V.PartialEq.eq g.V.Ord.cmp g.met.V.ExactOrd.exact g.met.V.Ord.matches_eq in
    rw (c.in-Many.is, ← c.deref_mut.ensures.value) (was_new g.V.PartialEq.eq g.met.V.Eq.laws x c.deref_mut.result.now.keys c.args.value c.in_ok-added-in-Many.added c.in_ok-added-in-Many.ensures.added)

pub returns-in_ok-added-in-Many-clause-still : goal.returns-in_ok-added-in-Many-clause-still
returns-in_ok-added-in-Many-clause-still g c n =
    let t = returns-in_ok-added-in-Many-clause-new g c in
    absurd (n (t.1 (λ m. let k = c.contains.ensures.1 m in let f = c.if-contains.false in cc)))

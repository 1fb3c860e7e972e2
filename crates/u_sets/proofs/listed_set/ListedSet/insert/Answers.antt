use Rattle.u_sets.proofs.Hashed.{exactly, was_new}
use Rattle.u_sets.proofs.Placed.{goes_last}
use Rattle.u_sets.proofs.Listed.{rises, members, with_last}
use Rattle.u_sets.proofs.listed_set.ListedSet.insert.Goals as goal

pub returns-in_err-added-clause-rises : goal.returns-in_err-added-clause-rises
returns-in_err-added-clause-rises g c = rises g.K.Ord.cmp g.met.K.Ord.total g.met.K.ExactOrd.exact c.insert_full.new.self.keys

pub returns-clause-ok : goal.returns-clause-ok
returns-clause-ok g c = rw (← c.self.view_is) (with_last g.K.Ord.cmp g.met.K.Ord.total g.met.K.ExactOrd.exact c.self.inside.keys.keys c.args.key c.insert_full.new.self.keys (rw c.in_ok-added.ensures.keys (goes_last g.K.PartialEq.eq g.met.K.Eq.laws (exactly g.K.PartialEq.eq g.K.Ord.cmp g.met.K.ExactOrd.exact g.met.K.Ord.matches_eq) c.self.inside.keys.keys c.args.key)))

pub returns-clause-new : goal.returns-clause-new
returns-clause-new g c =
    let m = members g.K.Ord.cmp g.met.K.Ord.total g.met.K.ExactOrd.exact c.self.inside.keys.keys c.args.key in
    let w = was_new g.K.PartialEq.eq g.met.K.Eq.laws (exactly g.K.PartialEq.eq g.K.Ord.cmp g.met.K.ExactOrd.exact g.met.K.Ord.matches_eq) c.self.inside.keys.keys c.args.key c.in_ok-added.added c.in_ok-added.ensures.added in
    rw (← c.self.view_is) ((λ h n. w.0 h (m.0 n)), λ n. w.1 (λ p. n (m.1 p)))

pub returns-clause-rises : goal.returns-clause-rises
returns-clause-rises g c = rises g.K.Ord.cmp g.met.K.Ord.total g.met.K.ExactOrd.exact c.insert_full.new.self.keys

use Rattle.std.proofs.Common.{◌∙◌, sym}
use Rattle.u_sets.proofs.Hashed.{exactly, found, finds}
use Rattle.u_sets.proofs.Listed.{members}
use Rattle.u_sets.proofs.listed_set.ListedSet.contains.Goals as goal

pub returns : goal.returns
returns g c =
    let m = members g.K.Ord.cmp g.met.K.Ord.total g.met.K.ExactOrd.exact c.self.inside.keys.keys c.args.key.now in
    rw (← c.self.view_is) ((λ h. m.1 (found g.K.PartialEq.eq g.met.K.Eq.laws (exactly g.K.PartialEq.eq g.K.Ord.cmp g.met.K.ExactOrd.exact g.met.K.Ord.matches_eq) c.self.inside.keys.keys c.args.key.now (sym c.contains.ensures ∙ h))), λ n. c.contains.ensures ∙ finds g.K.PartialEq.eq g.met.K.Eq.laws (exactly g.K.PartialEq.eq g.K.Ord.cmp g.met.K.ExactOrd.exact g.met.K.Ord.matches_eq) c.self.inside.keys.keys c.args.key.now (m.0 n))

use Rattle.std.proofs.Common.{◌∙◌, sym}
use Rattle.u_sets.proofs.Hashed.{exactly, found, finds}
use Rattle.u_sets.proofs.placed_set.PlacedSet.contains.Goals as goal

pub returns : goal.returns
returns g c = rw (← c.self.view_is) ((λ h. found g.K.PartialEq.eq g.met.K.Eq.laws (exactly g.K.PartialEq.eq g.K.Ord.cmp g.met.K.ExactOrd.exact g.met.K.Ord.matches_eq) c.self.inside.keys.keys c.args.key.now (sym c.contains.ensures ∙ h)), λ m. c.contains.ensures ∙ finds g.K.PartialEq.eq g.met.K.Eq.laws (exactly g.K.PartialEq.eq g.K.Ord.cmp g.met.K.ExactOrd.exact g.met.K.Ord.matches_eq) c.self.inside.keys.keys c.args.key.now m)

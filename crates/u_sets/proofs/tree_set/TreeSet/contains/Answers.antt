use Rattle.std.proofs.Common.{◌∙◌, sym}
use Rattle.u_sets.proofs.Keys.{found, finds}
use Rattle.u_sets.proofs.tree_set.TreeSet.contains.Goals as goal

pub returns : goal.returns
returns g c = rw (← c.self.view_is) ((λ h. found g.K.Ord.cmp g.met.K.Ord.total g.met.K.ExactOrd.exact c.self.inside.keys.keys c.args.key.now (sym c.contains.ensures ∙ h)), λ m. c.contains.ensures ∙ finds g.K.Ord.cmp g.met.K.Ord.total g.met.K.ExactOrd.exact c.self.inside.keys.keys c.args.key.now m)

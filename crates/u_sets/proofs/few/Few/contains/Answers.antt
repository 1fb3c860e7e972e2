use Rattle.std.proofs.Common.{◌∙◌, sym}
use Rattle.u_sets.proofs.Hashed.{exactly, found, finds}
use Rattle.u_sets.proofs.few.Few.contains.Goals as goal

pub returns-in-Many : goal.returns-in-Many
returns-in-Many g c =
    let x = exactly g.V.PartialEq.eq g.V.Ord.cmp g.met.V.ExactOrd.exact g.met.V.Ord.matches_eq in
    rw (c.in-Many.is, ← c.deref.ensures) ((λ h. found g.V.PartialEq.eq g.met.V.Eq.laws x c.deref.result.now.keys c.args.value.now (sym c.contains.ensures ∙ h)), λ m. c.contains.ensures ∙ finds g.V.PartialEq.eq g.met.V.Eq.laws x c.deref.result.now.keys c.args.value.now m)

use Rattle.std.proofs.Common.{◌∙◌, sym, ap}
use Rattle.std.specs.Ordering.{is_le}
use Rattle.u_sets.proofs.Fronted.{all_before}
use Rattle.u_sets.proofs.ordered_set.goes_behind.Goals as goal

pub returns-in-Some-clause-before : goal.returns-in-Some-clause-before
returns-in-Some-clause-before g c h =
    all_before g.K.Ord.cmp g.met.K.Ord.total c.args.keys.now c.in-Some.first.now c.args.key.now c.in-Some.ensures c.requires
    (ap is_le (sym c.cmp.ensures) ∙ (sym c.is_le.ensures ∙ h))

use Rattle.std.proofs.Common.{◌-◌, ◌∙◌, arith, length, sym}
use Rattle.u_sets.proofs.Turned.{before_all, is_less}
use Rattle.u_sets.proofs.ordered_set.goes_first.Goals as goal

pub returns : goal.returns
returns g c t =
    before_all g.K.Ord.cmp g.met.K.Ord.total c.args.front.now c.args.others.now (length c.args.front.now - 1) c.index-front-many.result c.args.key.now c.requires (omega (arith, c.if-many-eq0.false)) (omega (arith, c.if-many-ge-MOST_IN_FRONT.false)) c.index-front-many.is
    (sym c.cmp.ensures ∙ is_less c.cmp.result (rw c.is_lt.ensures at t))

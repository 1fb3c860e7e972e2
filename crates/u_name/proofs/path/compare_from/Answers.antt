use Rattle.std.proofs.Common.{arith, ◌∙◌}
use Rattle.u_name.proofs.WordByWord.{at_end}
use Rattle.u_name.proofs.path.compare_from.Goals as goal

pub returns : goal.returns
returns c =
    let here = c.loop-place.invariant in
    c.cmp-2.ensures ∙ at_end c.args.left.now c.args.right.now c.loop-place.place here.in_left here.in_right (omega arith) ∙ here.decides

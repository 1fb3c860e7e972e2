use Rattle.std.proofs.Common.{rules, ◌≡◌, ◌∷◌, ◌+◌, drop, arith, length}
use Rattle.u_base.proofs.PiecesLaws.{drop_step, free_step}
use Rattle.u_base.proofs.cutting.cut.Goals as goal

pub loop-first-preserved : goal.loop-first-preserved
loop-first-preserved c =
    let e : c.in-Some.first.now ∷ c.in-Some.others.now ≡ drop c.loop-first.len c.args.bytes.now = search rules in
    let l : length c.loop-first.rest.now ≡ length c.in-Some.others.now + 1 = search rules in
    (drop_step c.loop-first.len c.in-Some.first.now c.args.bytes.now c.in-Some.others.now e, free_step c.args.byte c.loop-first.len c.in-Some.first.now c.args.bytes.now c.in-Some.others.now c.loop-first.invariant.1 e (search rules), omega (arith, c.loop-first.invariant))

use Rattle.std.proofs.Common.{arith, codes, subst, ◌≡◌}
use Rattle.u_explain.specs.Left.{IsLeft, Among, Behind, Numbered}
use Rattle.u_explain.specs.Lines.{KindOn}
use Rattle.u_explain.proofs.LeftLaws.{among_next}
use Rattle.u_explain.proofs.fronts.regions_left.Goals as goal

pub loop-region-preserved : goal.loop-region-preserved
loop-region-preserved c = among_next 0 c.loop-region.region (Numbered (Behind (codes " ") (KindOn c.args.version))) c.args.bytes.now c.loop-region.best.now c.region_left.result.now c.shorter-best.result.now (omega arith) c.loop-region.invariant c.region_left.ensures c.shorter-best.ensures.one c.shorter-best.ensures.first c.shorter-best.ensures.second

pub returns : goal.returns
returns c =
    let high = c.loop-region.auto.region-end in
    let last = c.loop-region-test.false in
    let e : c.loop-region.region ≡ 100 = omega (arith, high, last) in
    subst (λ n. IsLeft (Among 0 n (Numbered (Behind (codes " ") (KindOn c.args.version)))) c.args.bytes.now c.loop-region.best.now) e c.loop-region.invariant

use Rattle.u_explain.specs.Left.{Numbered}
use Rattle.u_explain.specs.Lines.{FollowOn}
use Rattle.u_explain.proofs.LeftLaws.{among_next}
use Rattle.u_explain.proofs.fronts.numbers_left.Goals as goal

pub loop-number-preserved : goal.loop-number-preserved
loop-number-preserved c = among_next c.args.low c.loop-number.number (Numbered (FollowOn c.args.follows)) c.args.bytes.now c.loop-number.best.now c.number_left.result.now c.shorter-best.result.now c.loop-number.auto.number c.loop-number.invariant c.number_left.ensures c.shorter-best.ensures.one c.shorter-best.ensures.first c.shorter-best.ensures.second

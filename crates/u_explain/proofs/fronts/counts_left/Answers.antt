use Rattle.std.proofs.Common.{false}
use Rattle.u_program.specs.declared.program.Version.TheVariants as versions
use Rattle.u_explain.specs.Left.{Numbered}
use Rattle.u_explain.specs.Lines.{ArrowOn}
use Rattle.u_explain.proofs.LeftLaws.{among_next}
use Rattle.u_explain.proofs.fronts.counts_left.Goals as goal

pub loop-number-preserved : goal.loop-number-preserved
loop-number-preserved c = among_next 1 c.loop-number.number (Numbered (ArrowOn versions.Two false 0)) c.args.bytes.now c.loop-number.best.now c.count_left.result.now c.shorter-best.result.now c.loop-number.auto.number c.loop-number.invariant c.count_left.ensures c.shorter-best.ensures.one c.shorter-best.ensures.first c.shorter-best.ensures.second

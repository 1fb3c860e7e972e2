use Rattle.std.proofs.Common.{false}
use Rattle.u_program.specs.declared.program.Version.TheVariants as versions
use Rattle.u_explain.specs.Left.{IsLeft, Among, Numbered}
use Rattle.u_explain.specs.Lines.{ArrowOn}
use Rattle.u_explain.proofs.fronts.counts_left.Given as goal

abbrev pub invariant-loop-number : goal.invariant-loop-number
invariant-loop-number l = IsLeft (Among 1 l.number (Numbered (ArrowOn versions.Two false 0))) l.bytes l.best

use Rattle.std.proofs.Common.{codes}
use Rattle.u_explain.specs.Left.{IsLeft, Among, Numbered, Behind}
use Rattle.u_explain.specs.Lines.{KindOn}
use Rattle.u_explain.proofs.fronts.regions_left.Given as goal

abbrev pub invariant-loop-region : goal.invariant-loop-region
invariant-loop-region l = IsLeft (Among 0 l.region (Numbered (Behind (codes " ") (KindOn l.version)))) l.bytes l.best

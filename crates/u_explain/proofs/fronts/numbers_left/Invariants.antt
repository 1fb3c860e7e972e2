use Rattle.u_explain.specs.Left.{IsLeft, Among, Numbered}
use Rattle.u_explain.specs.Lines.{FollowOn}
use Rattle.u_explain.proofs.fronts.numbers_left.Given as goal

abbrev pub invariant-loop-number : goal.invariant-loop-number
invariant-loop-number l = IsLeft (Among l.low l.number (Numbered (FollowOn l.follows))) l.bytes l.best

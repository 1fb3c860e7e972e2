use Rattle.u_determinate.proofs.PortLaws.{Before, IsThat}
use Rattle.u_determinate.proofs.marking.is_alone.Given as goal

abbrev pub invariant-loop-other : goal.invariant-loop-other
invariant-loop-other l = Before (IsThat l.link) l.other-index l.links

use Rattle.u_determinate.proofs.PortLaws.{Before, IsElsewhere}
use Rattle.u_determinate.proofs.marking.only_link.Given as goal

abbrev pub invariant-loop-link : goal.invariant-loop-link
invariant-loop-link l = Before (IsElsewhere l.port) l.link-index l.links

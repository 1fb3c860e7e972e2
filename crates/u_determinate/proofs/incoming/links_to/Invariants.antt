use Rattle.u_determinate.proofs.Links.{LinksFrom}
use Rattle.u_determinate.proofs.incoming.links_to.Given as goal

abbrev pub invariant-loop-i : goal.invariant-loop-i
invariant-loop-i l = LinksFrom l.statements l.to l.i l.links.items

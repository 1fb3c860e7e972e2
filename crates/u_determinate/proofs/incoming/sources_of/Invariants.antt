use Rattle.u_determinate.proofs.Links.{SourcesBelow}
use Rattle.u_determinate.proofs.incoming.sources_of.Given as goal

abbrev pub invariant-loop-number : goal.invariant-loop-number
invariant-loop-number l = SourcesBelow l.statements l.number l.all.items

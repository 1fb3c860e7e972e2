use Rattle.std.specs.Prelude.{Contains}
use Rattle.u_determinate.proofs.Links.{Gained}
use Rattle.u_determinate.proofs.incoming.add_links.Given as goal

abbrev pub invariant-loop-place : goal.invariant-loop-place
invariant-loop-place l = Gained (Contains l.initial.links.items) l.list l.statement l.on_false l.to l.place l.links.items

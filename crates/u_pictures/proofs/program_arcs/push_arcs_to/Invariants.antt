use Rattle.std.proofs.Common.{◌≡◌, ◌++◌, take}
use Rattle.u_pictures.specs.Dot.{text}
use Rattle.u_pictures.specs.Arcs.{arcs_to}
use Rattle.u_pictures.proofs.program_arcs.push_arcs_to.Given as goal

abbrev pub invariant-loop-destination : goal.invariant-loop-destination
invariant-loop-destination l = l.out.items ≡ l.initial.out.items ++ text (arcs_to l.block l.from l.exit (take l.destination-index l.to))

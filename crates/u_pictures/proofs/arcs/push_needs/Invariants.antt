use Rattle.std.proofs.Common.{◌≡◌, ◌++◌, take, map}
use Rattle.u_pictures.specs.Dot.{text}
use Rattle.u_pictures.specs.Picture.{need_arc}
use Rattle.u_pictures.proofs.arcs.push_needs.Given as goal

abbrev pub invariant-loop-entry : goal.invariant-loop-entry
invariant-loop-entry l = l.out.items ≡ l.initial.out.items ++ text (map (need_arc l.firing) (take l.entry-index l.entries))

use Rattle.std.proofs.Common.{◌≡◌, ◌++◌, take, map}
use Rattle.u_pictures.specs.Dot.{text}
use Rattle.u_pictures.specs.Picture.{give_arc}
use Rattle.u_pictures.proofs.arcs.push_gifts.Given as goal

abbrev pub invariant-loop-entry : goal.invariant-loop-entry
invariant-loop-entry l = l.out.items ≡ l.initial.out.items ++ text (map (give_arc l.program.blocks l.firing) (take l.entry-index l.entries))

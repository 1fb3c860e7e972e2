use Rattle.std.proofs.Common.{◌≡◌, ◌++◌, take}
use Rattle.std.specs.List.{flat_map}
use Rattle.u_pictures.specs.Dot.{text}
use Rattle.u_pictures.specs.Picture.{firing_lines}
use Rattle.u_pictures.proofs.firings.push_firings.Given as goal

abbrev pub invariant-loop-firing : goal.invariant-loop-firing
invariant-loop-firing l = l.out.items ≡ l.initial.out.items ++ text (flat_map (firing_lines l.origins l.program) (take l.firing-index l.firings))

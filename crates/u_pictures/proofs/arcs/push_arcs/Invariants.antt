use Rattle.std.proofs.Common.{◌≡◌, ◌++◌, take}
use Rattle.std.specs.List.{flat_map}
use Rattle.u_pictures.specs.Dot.{text}
use Rattle.u_pictures.specs.Picture.{firing_arcs}
use Rattle.u_pictures.proofs.arcs.push_arcs.Given as goal

abbrev pub invariant-loop-firing : goal.invariant-loop-firing
invariant-loop-firing l = l.out.items ≡ l.initial.out.items ++ text (flat_map (firing_arcs l.job) (take l.firing-index l.firings))

use Rattle.std.proofs.Common.{◌≡◌, ◌++◌, take}
use Rattle.u_pictures.specs.Dot.{text, numbered}
use Rattle.u_pictures.specs.Clusters.{the_loop}
use Rattle.u_pictures.proofs.clusters.push_loops.Given as goal

abbrev pub invariant-loop-i : goal.invariant-loop-i
invariant-loop-i l = l.out.items ≡ l.initial.out.items ++ text (numbered (the_loop l.block) 1 (take l.i l.block.loops))

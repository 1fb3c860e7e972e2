use Rattle.std.proofs.Common.{◌≡◌, ◌++◌, length}
use Rattle.u_compile.specs.Maps.{map_lines}
use Rattle.u_compile.proofs.map_text.push_blocks.Given as goal

abbrev pub invariant-loop-block : goal.invariant-loop-block
invariant-loop-block l = l.out.items ++ map_lines l.rest ≡ l.initial.out.items ++ map_lines l.initial.rest

abbrev pub decreases-loop-block : goal.decreases-loop-block
decreases-loop-block l = length l.rest

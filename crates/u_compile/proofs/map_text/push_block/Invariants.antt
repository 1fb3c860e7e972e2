use Rattle.std.proofs.Common.{◌≡◌, ◌+◌, ◌-◌, ◌≤◌, ◌++◌, length}
use Rattle.u_compile.specs.Maps.{block_lines}
use Rattle.u_compile.proofs.map_text.push_block.Given as goal

abbrev pub invariant-loop-origin : goal.invariant-loop-origin
invariant-loop-origin l =
    (l.out.items ++ block_lines l.block.name (length l.all - length l.rest + 1) l.rest
    ≡ l.initial.out.items ++ block_lines l.block.name 1 l.all) × (length l.rest ≤ length l.all)

abbrev pub decreases-loop-origin : goal.decreases-loop-origin
decreases-loop-origin l = length l.rest

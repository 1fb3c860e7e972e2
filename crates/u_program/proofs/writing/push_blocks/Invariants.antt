use Rattle.std.proofs.Common.{◌≡◌, ◌++◌, take}
use Rattle.u_base.specs.Spaced.{ended}
use Rattle.u_program.specs.Text.{blocks_lines}
use Rattle.u_program.proofs.writing.push_blocks.Given as goal

abbrev pub invariant-loop-block : goal.invariant-loop-block
invariant-loop-block l = l.out.items ≡ l.initial.out.items ++ ended (blocks_lines l.version (take l.block-index l.blocks))

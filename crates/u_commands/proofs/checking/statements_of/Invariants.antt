use Rattle.std.proofs.Common.{◌≡◌, take}
use Rattle.u_commands.specs.Checks.{statements_of}
use Rattle.u_commands.proofs.checking.statements_of.Given as goal

abbrev pub invariant-loop-block : goal.invariant-loop-block
invariant-loop-block l = l.count ≡ statements_of (take l.block-index l.program.blocks)

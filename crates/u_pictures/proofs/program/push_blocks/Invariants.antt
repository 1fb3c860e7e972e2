use Rattle.std.proofs.Common.{◌≡◌, ◌++◌, take}
use Rattle.u_pictures.specs.Dot.{text}
use Rattle.u_pictures.specs.ProgramPicture.{picture}
use Rattle.u_pictures.proofs.program.push_blocks.Given as goal

abbrev pub invariant-loop-block : goal.invariant-loop-block
invariant-loop-block l = l.out.items ≡ l.initial.out.items ++ text (picture l.origins l.version (take l.block-index l.blocks))

use Rattle.std.proofs.Common.{◌≡◌, map, take}
use Rattle.u_compile.specs.Maps.{origins_size, block_size}
use Rattle.u_compile.proofs.mapping.origins_of.Given as goal

abbrev pub invariant-loop-block : goal.invariant-loop-block
invariant-loop-block l = map origins_size l.found.items ≡ map block_size (take l.block-index l.blocks)

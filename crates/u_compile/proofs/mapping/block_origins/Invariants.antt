use Rattle.std.proofs.Common.{◌≡◌, vec_len}
use Rattle.u_compile.proofs.mapping.block_origins.Given as goal

abbrev pub invariant-loop-before : goal.invariant-loop-before
invariant-loop-before l = vec_len l.origins ≡ l.before

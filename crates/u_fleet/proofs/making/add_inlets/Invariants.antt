use Rattle.std.proofs.Common.{◌≡◌, ◌+◌, vec_len}
use Rattle.u_fleet.proofs.making.add_inlets.Given as goal

abbrev pub invariant-loop-pair : goal.invariant-loop-pair
invariant-loop-pair g l = vec_len l.inlets ≡ vec_len l.initial.inlets + l.pair-index

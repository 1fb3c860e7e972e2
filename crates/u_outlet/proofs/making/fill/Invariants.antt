use Rattle.std.proofs.Common.{◌≡◌, [], All, vec_len}
use Rattle.u_outlet.specs.Ends.{seen_by}
use Rattle.u_outlet.proofs.making.fill.Given as goal

abbrev pub invariant-loop : goal.invariant-loop
invariant-loop g l = (vec_len l.inlets ≡ l.counter) × All (λ i. seen_by i ≡ []) l.inlets.items

use Rattle.std.proofs.Common.{◌≡◌, length}
use Rattle.u_source.specs.Choosing.{deepens}
use Rattle.u_source.proofs.choosing.deepens.Given as goal

abbrev pub invariant-loop-symbol : goal.invariant-loop-symbol
invariant-loop-symbol l = deepens l.rest ≡ deepens l.symbols

abbrev pub decreases-loop-symbol : goal.decreases-loop-symbol
decreases-loop-symbol l = length l.rest

use Rattle.std.proofs.Common.{◌≡◌, ◌++◌, length}
use Rattle.u_source.specs.Derivations.{all_placed}
use Rattle.u_source.proofs.parsing.put.Given as goal

abbrev pub invariant-loop-symbol : goal.invariant-loop-symbol
invariant-loop-symbol l = all_placed l.at l.room l.rest ++ l.stack.items ≡ all_placed l.at l.room l.right ++ l.initial.stack.items

abbrev pub decreases-loop-symbol : goal.decreases-loop-symbol
decreases-loop-symbol l = length l.rest

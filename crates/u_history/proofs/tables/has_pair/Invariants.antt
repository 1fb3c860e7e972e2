use Rattle.std.proofs.Common.{take, Contains}
use Rattle.u_rule.specs.EntryOrder.{written}
use Rattle.u_history.proofs.tables.has_pair.Given as goal

abbrev pub invariant-loop-pair : goal.invariant-loop-pair
invariant-loop-pair l = Contains (take l.pair-index l.pairs) (written l.write.writer l.write.value) → ⊥

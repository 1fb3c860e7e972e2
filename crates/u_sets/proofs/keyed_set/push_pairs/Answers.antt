use Rattle.std.proofs.Common.{map, refl, arith}
use Rattle.std.specs.Map.Iter.{deref_pair}
use Rattle.u_sets.proofs.Keyed.{pairs_more, group_whole}
use Rattle.u_sets.proofs.keyed_set.push_pairs.Goals as goal

pub loop-value-preserved : goal.loop-value-preserved
loop-value-preserved g c =
    pairs_more deref_pair c.loop-value.list.items c.push.new.self.items _ (map deref_pair c.args.list.now.items) c.args.key.now c.as_slice-values.result.now c.loop-value.value-index c.value-item.result c.loop-value-test.true c.value-item.is c.in_ok-push.ensures.items refl c.loop-value.invariant

pub returns-clause-ok : goal.returns-clause-ok
returns-clause-ok g c =
    group_whole c.args.least c.args.key.now c.args.few.now c.as_slice-values.result.now c.loop-value.value-index (map deref_pair c.loop-value.list.items) (map deref_pair c.args.list.now.items) (omega arith) c.as_slice-values.ensures.items (omega arith) c.loop-value.invariant

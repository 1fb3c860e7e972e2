use Rattle.std.proofs.Common.{map, refl, arith}
use Rattle.u_sets.specs.Columns.{deref_value}
use Rattle.u_sets.proofs.Keyed.{pairs_more, group_whole}
use Rattle.u_sets.proofs.column.push_values.Goals as goal

pub loop-value-preserved : goal.loop-value-preserved
loop-value-preserved g c =
    pairs_more deref_value c.loop-value.list.items c.push.new.self.items _ (map deref_value c.args.list.now.items) c.args.number c.as_slice-values.result.now c.loop-value.value-index c.value-item.result c.loop-value-test.true c.value-item.is c.in_ok-push.ensures.items refl c.loop-value.invariant

pub returns-clause-ok : goal.returns-clause-ok
returns-clause-ok g c =
    group_whole c.args.least c.args.number c.args.few.now c.as_slice-values.result.now c.loop-value.value-index (map deref_value c.loop-value.list.items) (map deref_value c.args.list.now.items) (omega arith) c.as_slice-values.ensures.items (omega arith) c.loop-value.invariant

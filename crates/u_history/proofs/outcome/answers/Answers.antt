use Rattle.std.proofs.Common.{◌≡◌, [], arith}
use Rattle.u_sets.proofs.Gathering.{scan_more, scan_all}
use Rattle.u_value.specs.declared.value.Value.{Value}
use Rattle.u_rule.specs.declared.entry.Entry.{Entry}
use Rattle.u_rule.specs.declared.entry.Entry.TheVariants as kinds
use Rattle.u_history.specs.Orders.{value_order}
use Rattle.u_history.specs.Outcomes.{lent}
use Rattle.u_history.proofs.Gathered.{listed, step_item, lent_below, lent_end}
use Rattle.u_history.proofs.outcome.answers.Goals as goal

pub loop-index-preserved : goal.loop-index-preserved
loop-index-preserved c = record {
  rises = c.in_ok-add_answer.ensures.rises;
  all = scan_more (λ (e : Entry) (x : Value). e ≡ kinds.Answer x) [] (lent c.args.entries.now) c.loop-index.index c.entry_at.result.now c.loop-index.list.items c.add_answer.new.list.items (lent_below c.args.entries.now c.loop-index.index (omega arith)) c.loop-index.invariant.all (step_item (λ (x : Value). kinds.Answer x) c.entry_at.result.now _ c.loop-index.list.items c.add_answer.new.list.items (c.entry_at.ensures c.entry_at.result.now) c.in_ok-add_answer.ensures.ok);
}

pub returns : goal.returns
returns c =
    listed (λ (x : Value). kinds.Answer x) value_order (lent c.args.entries.now) c.loop-index.list.items c.loop-index.invariant.rises (scan_all (λ (e : Entry) (x : Value). e ≡ kinds.Answer x) [] (lent c.args.entries.now) c.loop-index.index c.loop-index.list.items (lent_end c.args.entries.now c.loop-index.index (omega arith)) c.loop-index.invariant.all)

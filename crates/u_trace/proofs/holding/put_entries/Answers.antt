use Rattle.std.proofs.Common.{◌≤◌, arith, length, subst, List}
use Rattle.std.proofs.lemmas.List.{take_all}
use Rattle.u_rule.specs.declared.entry.Entry.{Entry}
use Rattle.u_sets.specs.Members.{IsUnion}
use Rattle.u_sets.proofs.Places.{union_none, union_more}
use Rattle.u_trace.proofs.holding.put_entries.Goals as goal

pub loop-entry-init : goal.loop-entry-init
loop-entry-init c = union_none c.args.held.now c.args.entries.now

pub loop-entry-preserved : goal.loop-entry-preserved
loop-entry-preserved c =
    union_more c.args.held.now c.args.entries.now c.loop-entry.held c.insert_copy.new.self c.loop-entry.entry-index c.entry-item.result c.loop-entry-test.true c.entry-item.is c.loop-entry.invariant
    c.in_ok-insert_copy.ensures.ok

pub returns : goal.returns
returns c =
    let h : length c.args.entries.now ≤ c.loop-entry.entry-index = omega arith in
    subst (λ (right : List Entry). IsUnion c.args.held.now right c.loop-entry.held) (take_all c.loop-entry.entry-index c.args.entries.now h) c.loop-entry.invariant

use Rattle.std.proofs.Common.{arith, subst, length, ◌≤◌}
use Rattle.std.proofs.lemmas.List.{take_all}
use Rattle.u_rule.specs.declared.firing.Firing.{Firing}
use Rattle.u_rule.specs.EntryOrder.{FiringList}
use Rattle.u_sets.specs.Members.{IsWith, IsUnion}
use Rattle.u_machine.proofs.LateTokens.{union_none, union_more, union_part}
use Rattle.u_machine.proofs.late_tokens.add_all.Goals as goal

pub loop-firing-init : goal.loop-firing-init
loop-firing-init c = union_none c.args.ready.now c.args.firings.now

pub returns-in_err-copy-clause-some : goal.returns-in_err-copy-clause-some
returns-in_err-copy-clause-some c = union_part c.args.ready.now c.loop-firing.ready c.args.firings.now c.loop-firing.firing-index c.loop-firing.invariant

pub returns-in_err-insert-clause-some : goal.returns-in_err-insert-clause-some
returns-in_err-insert-clause-some c = rw c.in_err-insert.ensures.err (union_part c.args.ready.now c.loop-firing.ready c.args.firings.now c.loop-firing.firing-index c.loop-firing.invariant)

pub loop-firing-preserved : goal.loop-firing-preserved
loop-firing-preserved c =
    union_more c.args.ready.now c.loop-firing.ready c.insert.new.self c.args.firings.now c.loop-firing.firing-index c.firing-item.result c.loop-firing-test.true c.firing-item.is c.loop-firing.invariant
    (subst (λ (g : Firing). IsWith c.loop-firing.ready g c.insert.new.self) c.in_ok-copy.ensures c.in_ok-insert.ensures.ok)

pub returns-clause-some : goal.returns-clause-some
returns-clause-some c = union_part c.args.ready.now c.loop-firing.ready c.args.firings.now c.loop-firing.firing-index c.loop-firing.invariant

pub returns-clause-ok : goal.returns-clause-ok
returns-clause-ok c =
    let h : length c.args.firings.now ≤ c.loop-firing.firing-index = omega arith in
    subst (λ (fs : FiringList). IsUnion c.args.ready.now fs c.loop-firing.ready) (take_all c.loop-firing.firing-index c.args.firings.now h) c.loop-firing.invariant

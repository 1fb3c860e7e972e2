use Rattle.std.proofs.Common.{◌≤◌, arith, length, subst, sym, List}
use Rattle.u_rule.specs.Rule.{own_of}
use Rattle.u_rule.specs.declared.entry.Entry.{Entry}
use Rattle.u_rule.proofs.Firings.{own_is_firing}
use Rattle.u_sets.specs.Members.{IsUnion}
use Rattle.u_trace.proofs.HoldingLaws.{gains_none, gains_more, gains_all}
use Rattle.u_trace.proofs.holding.put_given.Goals as goal

pub loop-firing-init : goal.loop-firing-init
loop-firing-init c = gains_none (own_of c.args.job.now) c.args.held.now c.args.firings.now

pub given_by-requires : goal.given_by-requires
given_by-requires c = own_is_firing c.args.job.now c.firing-item.result (c.requires c.firing-item.result (c.loop-firing.firing-index, c.loop-firing-test.true, sym c.firing-item.is))

pub loop-firing-preserved : goal.loop-firing-preserved
loop-firing-preserved c =
    gains_more (own_of c.args.job.now) c.args.held.now c.args.firings.now c.loop-firing.firing-index c.firing-item.result c.loop-firing.held c.in_ok-given.given.items c.put_entries.new.held c.loop-firing-test.true c.firing-item.is c.loop-firing.invariant c.in_ok-given.ensures.all
    (subst (λ (xs : List Entry). IsUnion c.loop-firing.held xs c.put_entries.new.held) c.deref.ensures.value c.in_ok-put_entries.ensures)

pub returns : goal.returns
returns c =
    let h : length c.args.firings.now ≤ c.loop-firing.firing-index = omega arith in
    gains_all (own_of c.args.job.now) c.args.held.now c.args.firings.now c.loop-firing.firing-index c.loop-firing.held h c.loop-firing.invariant

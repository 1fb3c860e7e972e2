use Rattle.std.proofs.Common.{◌≤◌, length, arith, subst, List}
use Rattle.std.proofs.lemmas.List.{take_all}
use Rattle.u_rule.specs.declared.firing.Firing.{Firing}
use Rattle.u_machine.specs.Invariant.{state_of}
use Rattle.u_machine.specs.Taking.{FoundNew}
use Rattle.u_machine.proofs.TakenLists.{found_more, next_place}
use Rattle.u_machine.proofs.parts.Parts.new_of.Goals as goal

pub loop-firing-preserved : goal.loop-firing-preserved
loop-firing-preserved c =
    rw (next_place c.args.firings.now c.loop-firing.firing-index c.firing-item.result c.loop-firing-test.true c.firing-item.is)
    (found_more (state_of c.args.self.now) _ c.loop-firing.news c.add_new.new.news c.firing-item.result c.loop-firing.invariant c.in_ok-add_new.ensures)

pub returns : goal.returns
returns c =
    let h : length c.args.firings.now ≤ c.loop-firing.firing-index = omega arith in
    record {
      once = c.len-count.ensures.distinct;
      found = subst (λ (fs : List Firing). FoundNew (state_of c.args.self.now) fs c.loop-firing.news) (take_all c.loop-firing.firing-index c.args.firings.now h) c.loop-firing.invariant;
    }

use Rattle.std.proofs.Common.{◌≤◌, length, arith, sym, Contains}
use Rattle.std.proofs.lemmas.List.{take_all}
use Rattle.u_rule.specs.declared.entry.Entry.{Entry}
use Rattle.u_sets.proofs.Rounds.{each_more}
use Rattle.u_machine.proofs.Going.{goes_on, gives_still}
use Rattle.u_machine.proofs.States.{applies_trans}
use Rattle.u_machine.proofs.parts.Parts.enter_all.Goals as goal

pub enter-requires-clause-gives : goal.enter-requires-clause-gives
enter-requires-clause-gives c =
    gives_still c.args.self.now c.loop-entry.self c.entry-item.result c.loop-entry.invariant.goes
    (c.requires.gives c.entry-item.result (c.loop-entry.entry-index, c.loop-entry-test.true, sym c.entry-item.is))

pub returns-in_err-enter-clause-applies : goal.returns-in_err-enter-clause-applies
returns-in_err-enter-clause-applies c = applies_trans _ _ _ c.loop-entry.invariant.applies c.enter.ensures.applies

pub loop-entry-preserved : goal.loop-entry-preserved
loop-entry-preserved c =
    let p = applies_trans _ _ _ c.loop-entry.invariant.applies c.enter.ensures.applies in
    record {
      kept = c.enter.ensures.kept;
      applies = p;
      goes = goes_on _ _ _ c.loop-entry.invariant.goes c.enter.ensures.goes;
      idle = c.in_ok-enter.ensures.idle;
      all = each_more (λ (e : Entry). Contains c.enter.new.self.matcher e) c.args.given.now c.loop-entry.entry-index c.entry-item.result c.loop-entry-test.true c.entry-item.is c.in_ok-enter.ensures.has
          (λ e m. c.enter.ensures.applies.grows.history e (c.loop-entry.invariant.all e m));
    }

pub returns-clause-has : goal.returns-clause-has
returns-clause-has c e m = let h : length c.args.given.now ≤ c.loop-entry.entry-index = omega arith in c.loop-entry.invariant.all e (rw take_all m)

use Rattle.std.proofs.Common.{arith, inl, inr, refl, subst, sym, Ok}
use Rattle.u_rule.specs.EntryOrder.{FiringList}
use Rattle.u_rule.specs.declared.entry.Entry.TheVariants as entries
use Rattle.u_match.specs.Waking.{EnterAnswer}
use Rattle.u_match.specs.declared.matcher.Entered.{Entered}
use Rattle.u_match.specs.declared.matcher.Entered.TheVariants as woken_entries
use Rattle.u_machine.specs.Invariant.{IsPartitioned, HasLate, taken_of}
use Rattle.u_machine.proofs.Lists.{slice_get_Contains}
use Rattle.u_machine.proofs.Going.{slice_get_below}
use Rattle.u_machine.proofs.Steps.{entered}
use Rattle.u_machine.proofs.Sorting.{woken_more}
use Rattle.u_machine.proofs.LateTokens.{enters_late}
use Rattle.u_machine.proofs.Making.{untaken_new}
use Rattle.u_machine.proofs.States.{Applies-history}
use Rattle.u_machine.proofs.parts.Parts.put_token.Goals as goal
use Rattle.u_machine.proofs.parts.Parts.put_token.Goals.{In-Woken}

-- what came of the entry
entered_it : (c : In-Woken) → EnterAnswer c.args.self.now.job.now c.args.self.now.matcher (entries.Token c.args.token.now) (Ok woken_entries.Woken) c.enter_token.new.woken.items c.enter_token.new.self
entered_it c = subst (λ (x : Entered). EnterAnswer c.args.self.now.job.now c.args.self.now.matcher (entries.Token c.args.token.now) (Ok x) c.enter_token.new.woken.items c.enter_token.new.self) c.in-Woken.is c.in_ok-enter_token.ensures

pub returns-in-Woken-clause-kept : goal.returns-in-Woken-clause-kept
returns-in-Woken-clause-kept c =
    let k = c.requires.kept in
    let m = c.args.self.now in
    let e = entries.Token c.args.token.now in
    let more = c.enter_token.new.self in
    let found = c.enter_token.new.woken.items in
    let (fresh, w, exact, order) = entered_it (goal.at.returns-in-Woken-clause-kept c).In-Woken in
    let few = c.has_waiting.ensures c.if-has_waiting.false in
    let (f, at, from, place, g) = c.requires.gives in
    record {
      all_ready = k.all_ready;
      flight = k.flight;
      logged = entered _ _ _ _ _ _ k.logged f e more (slice_get_Contains _ _ f place) g w;
      partitioned = subst (λ (fs : FiringList). IsPartitioned m.job.now m.log.items (taken_of m) k.all_ready fs more) (sym c.turn_round.ensures)
          (woken_more _ _ _ _ _ _ k.partitioned e more found c.requires.idle fresh w exact order);
      late = subst (λ (fs : FiringList). HasLate m.job.now (taken_of m) k.all_ready m.ready fs m.late more) (sym c.turn_round.ensures)
          (enters_late _ _ _ _ _ _ _ k.late e more c.requires.idle fresh w (λ h i. (k.partitioned.fit h i).0) found exact (λ h x i t _. untaken_new m k few e fresh h ((exact h).0 i).0 t));
      idle = λ q. let b = slice_get_below m.log.items at f place in absurd (omega (arith, b, q, from));
    }

pub returns-in-Woken-clause-applies : goal.returns-in-Woken-clause-applies
returns-in-Woken-clause-applies c =
    let (fresh, w, exact, order) = entered_it (goal.at.returns-in-Woken-clause-applies c).In-Woken in
    Applies-history _ _ (λ x k. (w x).1 (inl k))

pub returns-in-Woken-clause-has : goal.returns-in-Woken-clause-has
returns-in-Woken-clause-has c =
    let (fresh, w, exact, order) = entered_it (goal.at.returns-in-Woken-clause-has c).In-Woken in
    (w (entries.Token c.args.token.now)).1 (inr refl)

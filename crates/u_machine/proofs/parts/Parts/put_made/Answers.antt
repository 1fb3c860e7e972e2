use Rattle.std.proofs.Common.{◌≡◌, ◌∙◌, [], arith, inl, inr, refl, subst, sym}
use Rattle.std.specs.Prelude.{Contains}
use Rattle.u_base.proofs.Member.{Contains-nil}
use Rattle.u_rule.specs.EntryOrder.{FiringList}
use Rattle.u_machine.specs.Invariant.{state_of, woken_of, IsPartitioned, HasLate, taken_of}
use Rattle.u_machine.proofs.Lists.{slice_get_Contains}
use Rattle.u_machine.proofs.Going.{slice_get_below, gives_still}
use Rattle.u_machine.proofs.Steps.{entered}
use Rattle.u_machine.proofs.Sorting.{woken_more}
use Rattle.u_machine.proofs.Settled.{not_both}
use Rattle.u_machine.proofs.LateTokens.{enters_late}
use Rattle.u_machine.proofs.Making.{makes_applies, makes_goes_on}
use Rattle.u_machine.proofs.States.{Applies-history, applies_trans}
use Rattle.u_machine.proofs.parts.Parts.put_made.Goals as goal

pub returns-clause-kept : goal.returns-clause-kept
returns-clause-kept c =
    let p = c.make_all.new.self in
    let k = c.in_ok-make_all.ensures.kept in
    let e = c.args.entry.now in
    let more = c.enter.new.self in
    let found = c.in_ok-found.found.items in
    let w = c.in_ok-found.ensures.ok in
    let none : woken_of p ≡ [] = c.in_ok-make_all.ensures.makes.woken ∙ c.requires.idle in
    let fresh = λ (m : Contains p.matcher e). not_both c.contains.result (c.contains.ensures.1 m) c.if-contains.false in
    let (f, at, from, place, g) = gives_still _ _ _ (makes_goes_on _ _ c.in_ok-make_all.ensures.makes) c.requires.gives in
    record {
      all_ready = k.all_ready;
      flight = k.flight;
      logged = entered _ _ _ _ _ _ k.logged f e more (slice_get_Contains _ _ f place) g w;
      partitioned = subst (λ (fs : FiringList). IsPartitioned p.job.now p.log.items (taken_of p) k.all_ready fs more) (sym c.turn_round.ensures)
          (woken_more _ _ _ _ _ _ k.partitioned e more found none fresh w c.in_ok-found.ensures.exact c.in_ok-found.ensures.order);
      late = subst (λ (fs : FiringList). HasLate p.job.now (taken_of p) k.all_ready p.ready fs p.late more) (sym c.turn_round.ensures)
          (enters_late _ _ _ _ _ _ _ k.late e more none fresh w (λ h i. (k.partitioned.fit h i).0) found c.in_ok-found.ensures.exact (λ h x _ _ i. Contains-nil x (rw c.in_ok-make_all.ensures.ok at i)));
      idle = λ q. let b = slice_get_below p.log.items at f place in absurd (omega (arith, b, q, from));
    }

pub returns-clause-applies : goal.returns-clause-applies
returns-clause-applies c =
    applies_trans _ _ _ (makes_applies _ _ c.in_ok-make_all.ensures.makes) (Applies-history (state_of c.make_all.new.self) c.enter.new.self (λ x k. (c.in_ok-found.ensures.ok x).1 (inl k)))

pub returns-clause-has : goal.returns-clause-has
returns-clause-has c = (c.in_ok-found.ensures.ok c.args.entry.now).1 (inr refl)

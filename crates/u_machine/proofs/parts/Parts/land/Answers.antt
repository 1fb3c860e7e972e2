use Rattle.std.proofs.Common.{◌≡◌, ◌+◌, [], ℕ, sym, ap, subst, length, take, arith}
use Rattle.std.proofs.lemmas.Bool.{false≢true}
use Rattle.std.proofs.lemmas.List.{length-drop}
use Rattle.u_rule.specs.EntryOrder.{FiringList}
use Rattle.u_machine.specs.State.{state}
use Rattle.u_machine.specs.Calls.{Applies}
use Rattle.u_machine.specs.Invariant.{EnteredBefore, HasEntered, parked_of, state_of}
use Rattle.u_machine.proofs.Flight.{as_it_flies}
use Rattle.u_machine.proofs.Settled.{same_taken, all_held}
use Rattle.u_machine.proofs.LateTokens.{same_taken_late}
use Rattle.u_machine.proofs.Steps.{all_applied, all_applied_more, all_taken_still}
use Rattle.u_machine.proofs.parts.Parts.land.Goals as goal
use Rattle.u_machine.proofs.parts.Parts.land.Goals.{After-len-all}

module _ (c : After-len-all) where
  -- none is parked but the one in flight
  alone : c.args.self.now.parked ≡ []
  alone = (c.requires.kept.flight c.requires.flight).alone

  whole : c.len-all.result ≡ length c.args.self.now.log.items
  whole = let n = c.len-all.ensures in omega (arith, n)

  none_left : c.args.self.now.applied_count + length (parked_of c.args.self.now) ≡ length c.args.self.now.log.items
  none_left =
      let f = c.requires.kept.flight c.requires.flight in
      let d = ap length (as_it_flies _ c.args.self.now.applied_count c.args.self.now.log.items c.args.self.now.parked c.requires.flight) in
      let l = length-drop c.args.self.now.applied_count c.args.self.now.log.items in
      omega (arith, f.last, d, l)

  all : EnteredBefore c.args.self.now (length c.args.self.now.log.items)
  all n from to =
      let f = c.requires.kept.flight c.requires.flight in
      let e : n ≡ c.args.self.now.applied_count = omega (arith, from, to, f.last) in
      subst (λ (i : ℕ). HasEntered c.args.self.now i) (sym e) c.requires.all

pub returns-clause-kept : goal.returns-clause-kept
returns-clause-kept c =
    let d = (goal.at.returns-clause-kept c).After-len-all in
    let k = c.requires.kept in
    let m = c.args.self.now in
    record {
      all_ready = k.all_ready;
      logged = rw (alone d, whole d) (all_applied _ _ _ _ _ _ k.logged (none_left d) (all_held m k (all d)));
      partitioned = rw (alone d, whole d) (same_taken _ _ _ _ _ _ _ (λ g. let t = all_taken_still _ _ _ _ _ _ k.logged (none_left d) g in (t.1, t.0)) k.partitioned);
      late = rw (alone d, whole d) (same_taken_late _ _ _ _ _ _ _ k.late _ (λ g. let t = all_taken_still _ _ _ _ _ _ k.logged (none_left d) g in (t.1, t.0)));
      idle = λ e. c.requires.idle;
      flight = λ e. absurd (false≢true e);
    }

pub returns-clause-applies : goal.returns-clause-applies
returns-clause-applies c =
    let d = (goal.at.returns-clause-applies c).After-len-all in
    let m = c.args.self.now in
    rw (whole d) (subst (λ (fs : FiringList). Applies (state_of m) (state m.job.now m.limit (take (length m.log.items) m.log.items) fs m.matcher)) (sym (alone d))
    (all_applied_more _ _ _ _ _ _ c.requires.kept.logged (none_left d)))

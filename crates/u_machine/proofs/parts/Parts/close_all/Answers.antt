use Rattle.std.proofs.Common.{◌≡◌, ◌∙◌, [], sym, length, arith}
use Rattle.std.proofs.lemmas.Bool.{false≢true}
use Rattle.u_machine.specs.Invariant.{parked_with}
use Rattle.u_machine.proofs.Flight.{as_they_wait}
use Rattle.u_machine.proofs.Settled.{same_taken, all_held}
use Rattle.u_machine.proofs.LateTokens.{same_taken_late}
use Rattle.u_machine.proofs.Steps.{all_applied, all_applied_more, all_taken_still}
use Rattle.u_machine.proofs.parts.Parts.close_all.Goals as goal
use Rattle.u_machine.proofs.parts.Parts.close_all.Goals.{After-clear, After-len-self}

they_wait : (c : After-clear) → parked_with c.args.self.now.in_flight (length c.args.self.now.log.items) c.args.self.now.log.items [] ≡ []
they_wait c = as_they_wait _ _ _ _ c.requires.logged

whole : (c : After-len-self) → c.len-self.result ≡ length c.args.self.now.log.items
whole c = let n = c.len-self.ensures in omega (arith, n)

pub returns-clause-kept : goal.returns-clause-kept
returns-clause-kept c =
    let k = c.requires.kept in
    let m = c.args.self.now in
    let l = they_wait (goal.at.returns-clause-kept c).After-clear in
    let n = whole (goal.at.returns-clause-kept c).After-len-self in
    record {
      all_ready = k.all_ready;
      flight = λ e. absurd (false≢true (sym c.requires.logged ∙ e));
      logged = rw (c.clear.ensures, n, l) (all_applied _ _ _ _ _ _ k.logged c.requires.none (all_held m k c.requires.all));
      partitioned = rw (c.clear.ensures, n, l) (same_taken _ _ _ _ _ _ _ (λ g. let t = all_taken_still _ _ _ _ _ _ k.logged c.requires.none g in (t.1, t.0)) k.partitioned);
      late = rw (c.clear.ensures, n, l) (same_taken_late _ _ _ _ _ _ _ k.late _ (λ g. let t = all_taken_still _ _ _ _ _ _ k.logged c.requires.none g in (t.1, t.0)));
      idle = λ e. c.requires.idle;
    }

pub returns-clause-applies : goal.returns-clause-applies
returns-clause-applies c =
    rw (c.clear.ensures, whole (goal.at.returns-clause-applies c).After-len-self, they_wait (goal.at.returns-clause-applies c).After-clear)
    (all_applied_more _ _ _ _ _ _ c.requires.kept.logged c.requires.none)

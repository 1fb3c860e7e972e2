use Rattle.std.proofs.Common.{◌≡◌, ◌∙◌, [], ◌∷◌, subst, ap, refl}
use Rattle.u_rule.specs.Rule.{start_of, own_of}
use Rattle.u_rule.specs.declared.entry.Entry.{Entry}
use Rattle.u_rule.specs.declared.firing.Firing.{Firing}
use Rattle.std.specs.Prelude.{Contains, ◌↔◌}
use Rattle.u_base.specs.Firing.{Enabled, Same}
use Rattle.u_rule.specs.EntryOrder.{entry_cmp, EntryList, FiringList}
use Rattle.u_sets.specs.Rising.{Rises}
use Rattle.u_sets.specs.Members.{IsWith}
use Rattle.u_machine.specs.State.{state}
use Rattle.std.proofs.lemmas.Bool.{false≢true}
use Rattle.u_machine.proofs.Fresh.{only_one, fresh_log, fresh_partitioned}
use Rattle.u_machine.proofs.LateTokens.{none_late}
use Rattle.u_machine.proofs.parts.Parts.new.Goals as goal

starts : (c : goal.After-drop-woken-2) → IsWith [] (start_of c.args.job.now) c.enter.new.self
starts c =
    subst (λ (xs : EntryList). IsWith xs (start_of c.args.job.now) c.enter.new.self) c.new-matcher.ensures
    (subst (λ (e : Entry). IsWith c.new-matcher.result e c.enter.new.self) c.start.ensures.start c.in_ok-woken.ensures.ok)

held : (c : goal.After-drop-woken-2) → c.enter.new.self ≡ start_of c.args.job.now ∷ []
held c =
    only_one c.enter.new.self (start_of c.args.job.now) (subst (λ (xs : EntryList). Rises entry_cmp xs) c.history.ensures c.len-count.ensures.rises) (starts c)

pub returns-clause-kept : goal.returns-clause-kept
returns-clause-kept c = record {
  all_ready = c.in_ok-ready.ready;
  flight = λ e. absurd (false≢true e);
  logged = rw (c.new.ensures.items, c.new-2.ensures, held c) (fresh_log c.args.job.now c.args.limit);
  partitioned = rw (c.new.ensures.items, c.new-2.ensures, c.new-4.ensures.items)
      (fresh_partitioned c.args.job.now c.args.limit c.enter.new.self c.in_ok-woken.woken.items c.in_ok-ready.ready (starts c)
      (subst (λ (e : Entry). (f : Firing) → Contains c.in_ok-woken.woken.items f ↔ (Contains ((own_of c.args.job.now).needs f) e × Enabled (own_of c.args.job.now) (Contains c.enter.new.self) f)) c.start.ensures.start c.in_ok-woken.ensures.exact)
      (subst (λ (fs : FiringList). Same (Contains c.in_ok-ready.ready) (Contains fs)) c.deref.ensures.value c.in_ok-ready.ensures));
  late = rw (c.new-2.ensures, c.new-3.ensures, c.new-4.ensures.items) (none_late c.args.job.now [] c.in_ok-ready.ready c.enter.new.self);
  idle = λ e. rw c.new-4.ensures.items refl;
}

pub returns-clause-state : goal.returns-clause-state
returns-clause-state c =
    ap (λ (parked : FiringList). state c.args.job.now c.args.limit [] parked c.enter.new.self) c.new-2.ensures
    ∙ ap (λ (h : EntryList). state c.args.job.now c.args.limit [] [] h) (held c)

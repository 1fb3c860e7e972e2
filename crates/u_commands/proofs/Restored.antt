-- How a replica goes on from a checkpoint.
use Rattle.std.proofs.Common.{◌≡◌, ◌∙◌, subst, refl, ℕ, List, ◌⊎◌, inl, inr, take, Contains, Ok, Err, arith}
use Rattle.u_check.specs.Jobs.{JobParts}
use Rattle.u_base.specs.Firing.{System, Cl, IsNextFrom, Same}
use Rattle.u_base.proofs.Member.{Contains-nil}
use Rattle.u_base.proofs.Held.{Enabled-mono}
use Rattle.u_base.proofs.Closure.{Cl-mono}
use Rattle.u_rule.specs.Rule.{own_of}
use Rattle.u_rule.specs.declared.firing.Firing.{Firing}
use Rattle.u_machine.specs.State.{State, Taken, IsMachine, IsSettled}
use Rattle.u_machine.specs.Calls.{firing_le, Fires, RunAnswer}
use Rattle.u_machine.specs.Taking.{TakesAll}
use Rattle.u_machine.specs.declared.answer.Ran.{Ran}
use Rattle.u_machine.specs.declared.answer.Ran.TheVariants as ran
use Rattle.u_machine.specs.declared.answer.Refusal.TheVariants as refusals
use Rattle.u_machine.proofs.States.{settled_is_Cl}
use Rattle.u_history.specs.declared.report.Ending.TheVariants as states
use Rattle.u_replica.specs.declared.checkpoint.Ending.{Ending}
use Rattle.u_replica.specs.ReplicaState.{ReplicaState}
use Rattle.u_replica.specs.Restoring.{blank, IsRestored, IsRestoreError}
use Rattle.u_replica.specs.declared.answer.RestoreError.{RestoreError}
use Rattle.u_replica.specs.declared.answer.RestoreError.TheVariants as restores
use Rattle.u_commands.specs.Runs.{ReportsMachine, RunsBehind, RunRefused, ending_of}
use Rattle.u_commands.specs.declared.command_error.CommandError.{CommandError}
use Rattle.u_commands.specs.declared.command_error.CommandError.TheVariants as faults
use Rattle.u_commands.specs.Restores.{most_taken, SavedOrFired, GoesOn, ReportsOn, FillsUp, ending_line, RestoresJob, CheckpointRefused, fault_in}

module _ {E F : Type 0} (s : System E F) (le : F → F → Type 0) (M N : F → Type 0) (same : Same M N) (done : List F) where
  there : (f : F) → M f ⊎ Contains done f → N f ⊎ Contains done f
  there f (inl m) = inl ((same f).0 m)
  there f (inr c) = inr c

  back : (f : F) → N f ⊎ Contains done f → M f ⊎ Contains done f
  back f (inl n) = inl ((same f).1 n)
  back f (inr c) = inr c

  -- what is next after one set is next after another with the same members
  next_same : (f : F) → IsNextFrom s le M done f → IsNextFrom s le N done f
  next_same f n = record {
    enabled = Enabled-mono s (Cl s (λ g. M g ⊎ Contains done g)) (Cl s (λ g. N g ⊎ Contains done g)) (Cl-mono s (λ g. M g ⊎ Contains done g) (λ g. N g ⊎ Contains done g) there) f n.enabled;
    new = λ t. n.new (back f t);
    least = λ g en. elim (n.least g (Enabled-mono s (Cl s (λ h. N h ⊎ Contains done h)) (Cl s (λ h. M h ⊎ Contains done h)) (Cl-mono s (λ h. N h ⊎ Contains done h) (λ h. M h ⊎ Contains done h) back) g en)) [ inl t ↦ inl (there g t) | inr l ↦ inr l ];
  }

module _ (job : JobParts) (fs gs : List Firing) (old new : State) (takes : TakesAll (blank job most_taken) fs old) (fires : Fires old gs new) (is : IsMachine new) (settled : IsSettled new) where
  in_checkpoint : (f : Firing) → Taken (blank job most_taken) f ⊎ Contains fs f → Contains fs f
  in_checkpoint f (inl t) = absurd (Contains-nil f t)
  in_checkpoint f (inr c) = c

  before : Same (Taken old) (Contains fs)
  before f = ((λ t. in_checkpoint f ((takes.taken f).0 t)), (λ c. (takes.taken f).1 (inr c)))

  after : Same (Taken new) (SavedOrFired fs gs)
  after f = ((λ t. elim ((fires.taken f).0 t) [ inl o ↦ inl ((before f).0 o) | inr g ↦ inr g ]), (λ t. (fires.taken f).1 (elim t [ inl c ↦ inl ((before f).1 c) | inr g ↦ inr g ])))

  same_job : new.job ≡ job
  same_job = fires.grows.job ∙ takes.grows.job

  closure : Same (Contains new.history) (Cl (own_of new.job) (SavedOrFired fs gs))
  closure e =
      let c = (settled_is_Cl new is.sound settled).0 e in
      ((λ k. Cl-mono (own_of new.job) (Taken new) (SavedOrFired fs gs) (λ f. (after f).0) e (c.0 k)), (λ k. c.1 (Cl-mono (own_of new.job) (SavedOrFired fs gs) (Taken new) (λ f. (after f).1) e k)))

  pub goes_on : GoesOn job fs gs new
  goes_on = record {
    of = same_job;
    limit = fires.grows.limit ∙ takes.grows.limit;
    each = λ k f e. next_same (own_of job) firing_le (Taken old) (Contains fs) before (take k gs) f (rw takes.grows.job at (fires.each k f e));
    taken = after;
    is = is;
    settled = settled;
    history = subst (λ (j : JobParts). Same (Contains new.history) (Cl (own_of j) (SavedOrFired fs gs))) same_job closure;
  }

module _ (job : JobParts) (firings : ℕ) (fs : List Firing) (old new : State) (takes : TakesAll (blank job most_taken) fs old) (is : IsMachine new) where
  reports_on : (end : Ran) (report : List ℕ) (status : ℕ) → RunAnswer old firings (Ok end) new → ReportsMachine new (ending_of end) report status → ReportsOn job firings fs report status
  reports_on ran.Quiet report status a r = record {
    state = states.Quiet;
    gs = a.0;
    machine = new;
    goes = goes_on job fs a.0 old new takes a.1.fires is a.3;
    few = a.2;
    reported = r;
    quiet = ((λ e. a.4), (λ none. refl));
    whole = λ e. rw (a.1.fires.grows.job ∙ takes.grows.job) at a.5.1;
    many = λ e. absurd (cc);
  }
  reports_on ran.Paused report status a r = record {
    state = states.Paused;
    gs = a.0;
    machine = new;
    goes = goes_on job fs a.0 old new takes a.1.fires is a.3;
    few = rw a.2 (omega arith);
    reported = r;
    quiet = ((λ e. absurd (cc)), (λ none. absurd (a.4.1.1 (none a.4.0 a.4.1.0))));
    whole = λ e. absurd (cc);
    many = λ e. a.2;
  }

  fills_up : RunAnswer old firings (Err refusals.Full) new → FillsUp job firings fs
  fills_up a =
      let goes = goes_on job fs a.0 old new takes a.1.fires is a.3 in
      record { gs = a.0; machine = new; goes = goes; few = a.2; ready = a.4; full = a.5 ∙ goes.limit }

-- the firings of a checkpoint were taken, and the replica ran
module _ (job : JobParts) (number life firings : ℕ) (checkpoint : List ℕ) (ending : Ending) (old : ReplicaState) (restored : IsRestored job most_taken number life checkpoint ending old) where
  pub restored_run : (written : List ℕ) (status : ℕ) → RunsBehind (ending_line ending) old.machine firings written status → RestoresJob job firings checkpoint written status
  restored_run written status r = record {
    ending = ending;
    fs = restored.firings;
    read = restored.read;
    of_job = restored.of_job;
    report = r.report;
    on = reports_on job firings restored.firings old.machine r.machine restored.takes r.is_machine r.end r.report status r.ran r.reported;
    is = r.is;
  }

  fills_checkpoint : RunRefused old.machine firings faults.Full → CheckpointRefused job firings checkpoint faults.Full
  fills_checkpoint r = record {
    firings = restored.firings;
    ending = ending;
    read = restored.read;
    so = (restored.of_job, inr (fills_up job firings restored.firings old.machine r.0 restored.takes r.1 r.2));
  }

  pub restored_refused : (fault : CommandError) → RunRefused old.machine firings fault → CheckpointRefused job firings checkpoint fault
  restored_refused (faults.LineNotAllowed n) r = r
  restored_refused (faults.TooMany n) r = r
  restored_refused faults.CutShort r = r
  restored_refused (faults.Rule b) r = r
  restored_refused (faults.Source e) r = r
  restored_refused faults.ArgumentNotAllowed r = r
  restored_refused faults.InputTooLong r = r
  restored_refused (faults.CheckpointLineNotAllowed n) r = absurd r
  restored_refused (faults.CheckpointLineTooLong n) r = absurd r
  restored_refused (faults.OtherFiring n) r = absurd r
  restored_refused (faults.ScriptLineNotAllowed n) r = absurd r
  restored_refused (faults.ScriptLineImpossible n) r = absurd r
  restored_refused (faults.EntryNotAllowed n) r = r
  restored_refused faults.EntryNotHeld r = r
  restored_refused (faults.NameNotAllowed n) r = r
  restored_refused faults.NameTooDeep r = r
  restored_refused faults.PortNotClashed r = r
  restored_refused faults.Full r = fills_checkpoint r
  restored_refused faults.NoMemory r = tt
  restored_refused faults.NoThread r = r
  restored_refused faults.NoReader r = r
  restored_refused faults.NotReadable r = r
  restored_refused faults.NotWritten r = r

-- a replica was restored of a checkpoint, or was not
module _ (job : JobParts) (checkpoint : List ℕ) where
  pub restored_as : (ending : Ending) (r : ReplicaState) → IsRestored job 1000000 1 1 checkpoint ending r → IsRestored job most_taken 1 1 checkpoint ending r
  unfolding most_taken
  restored_as ending r is = is

  pub restored_not : (e : RestoreError) → IsRestoreError job 1000000 checkpoint e → (n : ℕ) → CheckpointRefused job n checkpoint (fault_in e)
  unfolding most_taken
  restored_not (restores.BadLine k) h n = h
  restored_not (restores.TooLong k) h n = h
  restored_not (restores.NotAFiring place) h n = h
  restored_not restores.Full h n = record { firings = h.firings; ending = h.ending; read = h.read; so = (h.so.0, inl h.so.1) }
  restored_not restores.NoMemory h n = tt

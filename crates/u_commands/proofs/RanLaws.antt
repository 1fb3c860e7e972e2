-- What a new machine that ran says of its job.
use Rattle.std.proofs.Common.{◌≡◌, ◌≤◌, ◌-◌, ◌∙◌, sym, ap, refl, subst, arith, inl, inr, ℕ, List, [], ◌++◌, append-nil, length, Contains, Result, Ok, Err}
use Rattle.std.specs.Prelude.{IfErr}
use Rattle.std.specs.Result.{IsErrAnd}
use Rattle.u_check.specs.Jobs.{JobParts}
use Rattle.u_base.specs.Firing.{Held, Same, Enabled, Cl}
use Rattle.u_base.proofs.Held.{Enabled-mono}
use Rattle.u_base.proofs.Plain.{Plain-derivation}
use Rattle.u_determinate.specs.Strict.{IsStrict}
use Rattle.u_determinate.specs.Determinate.{IsDeterminate}
use Rattle.u_determinate.specs.Theorem.{IsDeterminateJob}
use Rattle.u_determinate.proofs.Theorem.{own_runs}
use Rattle.u_rule.specs.Rule.{own_of}
use Rattle.u_rule.specs.EntryOrder.{FiringList}
use Rattle.u_rule.specs.declared.entry.Entry.{Entry}
use Rattle.u_rule.specs.declared.firing.Firing.{Firing}
use Rattle.u_machine.specs.declared.answer.Ran.{Ran}
use Rattle.u_machine.specs.declared.answer.Ran.TheVariants as ran
use Rattle.u_machine.specs.declared.answer.Refusal.{Refusal}
use Rattle.u_machine.specs.declared.answer.Refusal.TheVariants as refusals
use Rattle.u_machine.specs.State.{State, Taken, count_of, IsMachine, IsSettled, NothingReady, IsReady}
use Rattle.u_machine.specs.Calls.{RunAnswer, firing_le}
use Rattle.u_machine.proofs.States.{settled_is_Cl, Applies-refl}
use Rattle.u_machine.proofs.Runs.{run_done, Runs-nil}
use Rattle.u_history.specs.declared.report.Ending.{Ending}
use Rattle.u_history.specs.declared.report.Ending.TheVariants as states
use Rattle.u_history.specs.Report.{IsReportOf}
use Rattle.u_history.proofs.Reports.{report_same, outcome_same}
use Rattle.u_commands.specs.Runs.{RunsTo, HasFired, RanTo, RunRefused, IsStatusOf, ReportsMachine, ReportsRunOfJob, ending_of}
use Rattle.u_commands.specs.Restores.{fault_of}
use Rattle.u_commands.proofs.InPieces.{run_ends}

-- one set, two predicates: one status
status_same : (H K : Entry → Type 0) → Same H K → (s : _) (n : ℕ) → IsStatusOf H s n → IsStatusOf K s n
status_same H K same s n t = record { answers = t.answers; cells = t.cells; ports = t.ports; faults = t.faults; outcome = outcome_same H K same t.answers t.cells t.ports t.faults t.outcome; is = t.is }

module _ (m : State) (is : IsMachine m) (st : IsSettled m) (alone : m.parked ≡ []) where
  taken_logged : (f : Firing) → Taken m f → Contains m.log f
  taken_logged f t = subst (λ (xs : FiringList). Contains xs f) (ap (λ (xs : FiringList). m.log ++ xs) alone ∙ append-nil m.log) t

  logged_taken : (f : Firing) → Contains m.log f → Taken m f
  logged_taken f c = subst (λ (xs : FiringList). Contains xs f) (sym (ap (λ (xs : FiringList). m.log ++ xs) alone ∙ append-nil m.log)) c

  held_closed : (e : Entry) → Held (own_of m.job) m.log e → Cl (own_of m.job) (Taken m) e
  held_closed e h = let s = settled_is_Cl m is.sound st in (s.0 e).0 ((s.1 e).1 h)

  closed_held : (e : Entry) → Cl (own_of m.job) (Taken m) e → Held (own_of m.job) m.log e
  closed_held e c = let s = settled_is_Cl m is.sound st in (s.1 e).0 ((s.0 e).1 c)

  none_left : NothingReady m → (f : Firing) → Enabled (own_of m.job) (Held (own_of m.job) m.log) f → Contains m.log f
  none_left n f en = taken_logged f (n f (Enabled-mono (own_of m.job) (Held (own_of m.job) m.log) (Cl (own_of m.job) (Taken m)) held_closed f en))

  some_left : (f : Firing) × IsReady m f → (f : Firing) × Enabled (own_of m.job) (Held (own_of m.job) m.log) f × (Contains m.log f → ⊥)
  some_left (f, r) = (f, Enabled-mono (own_of m.job) (Cl (own_of m.job) (Taken m)) (Held (own_of m.job) m.log) closed_held f r.0, λ c. r.1 (logged_taken f c))

-- where nothing is parked, the count is 0
none_parked : (new : State) (s : Ending) (report : List ℕ) → new.parked ≡ [] → IsReportOf (Contains new.history) s (length new.log) (length new.parked) report → IsReportOf (Contains new.history) s (length new.log) 0 report
none_parked new s report e r = subst (λ (fs : FiringList). IsReportOf (Contains new.history) s (length new.log) (length fs) report) e r

module _ (old new : State) (budget : ℕ) (log : old.log ≡ []) (parked : old.parked ≡ []) (is : IsMachine new) where
  -- the machine's log is the run, and its history is what the log holds
  ran_to : (end : Ran) → RunAnswer old budget (Ok end) new → RunsTo old.job budget (ending_of end) new.log × Same (Contains new.history) (Held (own_of old.job) new.log)
  ran_to ran.Quiet a =
      let d = run_done old new budget ran.Quiet a log parked is.sound in (
        record {
          plain = d.0.plain;
          whole = λ e. d.1 refl;
          all = λ e. rw d.0.job at (none_left new is a.3 d.0.parked a.4);
          many = λ e. absurd (cc);
          more = λ e. absurd (cc);
        },
        d.0.held,
      )
  ran_to ran.Paused a =
      let d = run_done old new budget ran.Paused a log parked is.sound in
      let p = a.1.alone parked in (
        record {
          plain = d.0.plain;
          whole = λ e. absurd (cc);
          all = λ e. absurd (cc);
          many = λ e. ap length (p.0 ∙ ap (λ (xs : FiringList). xs ++ a.0) log) ∙ a.2;
          more = λ e. rw d.0.job at (some_left new is a.3 d.0.parked a.4);
        },
        d.0.held,
      )

  fired_all : (end : Ran) → RunAnswer old budget (Ok end) new → ending_of end ≡ states.Paused → HasFired budget new
  fired_all ran.Quiet a e = absurd (cc)
  fired_all ran.Paused a e = (old, (log, parked), a.0, a.1, a.2)

  -- what stands after the run of a machine that had taken nothing
  ran_new : (end : Ran) → RunAnswer old budget (Ok end) new → RanTo old.job budget (ending_of end) new
  ran_new end a =
      let d = run_done old new budget end a log parked is.sound in
      let to = ran_to end a in
      record { of = d.0.job; parked = d.0.parked; run = to.0; held = to.1; fired = fired_all end a }

module _ (m new : State) (fired firings : ℕ) (has : HasFired fired m) (more : fired ≤ firings) where
  whole_run : (r : Result Ran Refusal) → RunAnswer m (firings - fired) r new → RunAnswer has.0 firings r new
  whole_run r a =
      let count = has.4 in
      run_ends has.0 m new (firings - fired) (firings - fired) firings (omega arith) (record { gs = has.2; runs = has.3; count = omega (arith, count, more) }) r (λ e. refl) a

  -- what stands after a run that went on
  pub ran_on : IsMachine new → (end : Ran) → RunAnswer m (firings - fired) (Ok end) new → RanTo m.job firings (ending_of end) new
  ran_on is end a =
      subst (λ (job : JobParts). RanTo job firings (ending_of end) new) (sym has.3.fires.grows.job)
      (ran_new has.0 new firings has.1.0 has.1.1 is end (whole_run (Ok end) a))

  -- it is never full below its limit
  pub never_full : firings ≤ m.limit → RunAnswer m (firings - fired) (Err refusals.Full) new → ⊥
  never_full room a = full (whole_run (Err refusals.Full) a)
    where
      full : RunAnswer has.0 firings (Err refusals.Full) new → ⊥
      full b =
          let none : count_of has.0 ≡ 0 = rw (has.1.0, has.1.1) refl in
          let taken = b.1.fires.count in
          let limit = b.1.fires.grows.limit in
          let same = has.3.fires.grows.limit in
          let few = b.2 in
          let all = b.5 in
          absurd (omega (arith, none, taken, limit, same, few, all, room))

-- a run keeps the limit
pub limit_stays : (old new : State) (budget : ℕ) (end : Ran) → RunAnswer old budget (Ok end) new → new.limit ≡ old.limit
limit_stays old new budget ran.Quiet a = a.1.fires.grows.limit
limit_stays old new budget ran.Paused a = a.1.fires.grows.limit

-- a machine that has taken nothing has fired as often
pub fired_nothing : (m : State) → m.log ≡ [] → m.parked ≡ [] → HasFired 0 m
fired_nothing m log parked = (m, (log, parked), [], Runs-nil m m (Applies-refl m), refl)

-- and its report
pub reports_run : (job : JobParts) (budget : ℕ) (end : Ending) (m : State) (report : List ℕ) (status : ℕ) → (IsDeterminate job.program.blocks → IsDeterminateJob job) → (IsStrict job.program.blocks → IsDeterminateJob job) → RanTo job budget end m → ReportsMachine m end report status → ReportsRunOfJob job budget report status
reports_run job budget end m report status determinate strict to r =
    record {
      state = end;
      fs = m.log;
      run = record {
        run = to.run;
        clashes = λ e.
            let derivation = Plain-derivation (own_of job) firing_le budget m.log to.run.plain in
            elim e [ inl s ↦ own_runs job (strict s) m.log derivation | inr d ↦ own_runs job (determinate d) m.log derivation ];
        reported = report_same (Contains m.history) (Held (own_of job) m.log) to.held end (length m.log) 0 report (none_parked m end report to.parked r.reported);
        ended = status_same (Contains m.history) (Held (own_of job) m.log) to.held end status r.ended;
      };
    }

-- why a run was refused
pub run_refused : (old new : State) (budget : ℕ) → IsMachine new → (r : Refusal) → RunAnswer old budget (Err r) new → RunRefused old budget (fault_of r)
run_refused old new budget is refusals.Full a = (new, is, a)
run_refused old new budget is refusals.NoMemory a = tt

-- what holds of the error that a call answers, where it answers one
pub error_is : {A E : Type 0} (r : Result A E) (P : E → Type 0) → IsErrAnd r P → IfErr r P
error_is (Ok a) P h = tt
error_is (Err e) P h = h

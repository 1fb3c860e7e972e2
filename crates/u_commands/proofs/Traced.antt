-- What a machine that ran says of where an entry came from.
use Rattle.std.proofs.Common.{◌≡◌, refl, sym, subst, ℕ, List, [], ◌∷◌, ◌++◌, append-nil, map, Contains}
use Rattle.u_base.specs.Spaced.{ended}
use Rattle.u_rule.specs.FiringText.{firing_text}
use Rattle.u_check.specs.Jobs.{JobParts}
use Rattle.u_base.specs.Firing.{Held}
use Rattle.u_base.proofs.Held.{Enabled-mono}
use Rattle.u_sets.specs.Rising.{IsListOf}
use Rattle.u_rule.specs.Rule.{own_of}
use Rattle.u_rule.specs.EntryOrder.{firing_cmp}
use Rattle.u_rule.specs.declared.entry.Entry.{Entry}
use Rattle.u_rule.specs.declared.firing.Firing.{Firing}
use Rattle.u_compile.specs.declared.origins.BlockOrigins.{BlockOrigins}
use Rattle.u_machine.specs.State.{State}
use Rattle.u_history.specs.declared.report.Ending.{Ending}
use Rattle.u_trace.specs.Causes.{IsCause}
use Rattle.u_trace.specs.Stories.{IsStory, Tells}
use Rattle.u_trace.specs.declared.trace_error.TraceError.{TraceError}
use Rattle.u_trace.specs.declared.trace_error.TraceError.TheVariants.{NotHeld, NoMemory}
use Rattle.u_commands.specs.declared.command_error.CommandError.{CommandError}
use Rattle.u_commands.specs.Traces.{firing_line, traced_text, trace_fault, IsCauseIn, RanPlainly, TracesJob, TraceRefused}
use Rattle.u_commands.specs.Runs.{RanTo}

pub ran_plainly : (job : JobParts) (firings : ℕ) (m : State) (end : Ending) → RanTo job firings end m → RanPlainly job firings m
ran_plainly job firings m end p = record { of = p.of; plain = p.run.plain; held = p.held }

-- what holds of a machine that ran plainly, with whatever number of firings, holds of a run of the job
pub of_run : (job : JobParts) (firings : ℕ) (m : State) (end : Ending) → RanTo job firings end m → (P : JobParts → ℕ → Type 0) → ((n : ℕ) → RanPlainly m.job n m → P m.job n) → P job firings
of_run job firings m end p P h =
    subst (λ (j : JobParts). P j firings) p.of (h firings (subst (λ (j : JobParts). RanPlainly j firings m) (sym p.of) (ran_plainly job firings m end p)))

module _ (job : JobParts) (origins : List BlockOrigins) (firings : ℕ) (m : State) (ran : RanPlainly job firings m) (e : Entry) where
  cause_in : (f : Firing) → IsCause job m.history e f → IsCauseIn job m.log e f
  cause_in f (en, g) = (Enabled-mono (own_of job) (Contains m.history) (Held (own_of job) m.log) (λ x. (ran.held x).0) f en, g)

  in_cause : (f : Firing) → IsCauseIn job m.log e f → IsCause job m.history e f
  in_cause f (en, g) = (Enabled-mono (own_of job) (Held (own_of job) m.log) (Contains m.history) (λ x. (ran.held x).1) f en, g)

  causes_in : (fs : List Firing) → IsListOf firing_cmp (IsCause job m.history e) fs → IsListOf firing_cmp (IsCauseIn job m.log e) fs
  causes_in fs is = record { rises = is.rises; exact = λ f. ((λ c. cause_in f ((is.exact f).0 c)), (λ c. (is.exact f).1 (in_cause f c))) }

  pub traces_run : (causes story : List Firing) (written : List ℕ) → Held (own_of job) m.log e → IsListOf firing_cmp (IsCause job m.history e) causes → IsStory (own_of job) m.log e story → Tells (own_of job) m.log e story → written ≡ traced_text origins causes story → TracesJob job origins firings e written
  traces_run causes story written held exact is tells text = (
    m.log,
    record {
      plain = ran.plain;
      held = held;
      causes = causes;
      exact = causes_in causes exact;
      story = story;
      is_story = is;
      tells = tells;
      is = text;
    },
  )

-- what no firing of the log gives is not held
pub missing : (m : State) (firings : ℕ) → RanPlainly m.job firings m → (e : Entry) (error : TraceError) (fault : CommandError) → fault ≡ trace_fault error → (error ≡ NotHeld → Contains m.history e → ⊥) → TraceRefused m.job firings e fault
missing m firings ran e NotHeld fault f none = subst (TraceRefused m.job firings e) (sym f) (m.log, ran.plain, λ h. none refl ((ran.held e).1 h))
missing m firings ran e NoMemory fault f none = subst (TraceRefused m.job firings e) (sym f) tt

-- where no place is known, lines have none
plain_lines : (fs : List Firing) → ended (map (firing_line []) fs) ≡ ended (map firing_text fs)
plain_lines [] = refl
plain_lines (f ∷ fs) = rw (append-nil (firing_text f), plain_lines fs) refl

pub plain_more : (origins : List BlockOrigins) (fs : List Firing) (o n : List ℕ) → origins ≡ [] → n ≡ o ++ ended (map firing_text fs) → n ≡ o ++ ended (map (firing_line origins) fs)
plain_more origins fs o n none is = rw (none, plain_lines fs) is

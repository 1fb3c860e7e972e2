-- What `trace` tells of a job and the text of an entry, after so many firings at most.
use Rattle.std.specs.Prelude.{◌≡◌, ℕ, ◌⊎◌, List, ◌∷◌, ◌++◌, Contains, codes, length, map}
use Rattle.u_check.specs.Jobs.{JobParts}
use Rattle.u_base.specs.Firing.{Enabled, Held, Plain, Same}
use Rattle.u_base.specs.Spaced.{ended}
use Rattle.u_rule.specs.Rule.{own_of}
use Rattle.u_rule.specs.EntryOrder.{firing_cmp}
use Rattle.u_rule.specs.EntryReading.{IsEntryOf, IsEntryErrorOf}
use Rattle.u_rule.specs.FiringText.{firing_text}
use Rattle.u_rule.specs.declared.entry.Entry.{Entry}
use Rattle.u_rule.specs.declared.firing.Firing.{Firing}
use Rattle.u_rule.specs.declared.reading.TextError.TheVariants as errors
use Rattle.u_sets.specs.Rising.{IsListOf}
use Rattle.u_machine.specs.Calls.{firing_le}
use Rattle.u_machine.specs.State.{State}
use Rattle.u_trace.specs.declared.trace_error.TraceError.{TraceError}
use Rattle.u_trace.specs.declared.trace_error.TraceError.TheVariants as trace_errors
use Rattle.u_trace.specs.Stories.{IsStory, Tells}
use Rattle.u_compile.specs.declared.origins.BlockOrigins.{BlockOrigins}
use Rattle.u_commands.specs.Outputs.{numbered}
use Rattle.u_commands.specs.Placed.{place_at}
use Rattle.u_commands.specs.declared.command_error.CommandError.{CommandError}
use Rattle.u_commands.specs.declared.command_error.CommandError.TheVariants as faults

-- a firing, and the place of its statement
abbrev pub firing_line : List BlockOrigins → Firing → List ℕ
firing_line origins f = firing_text f ++ place_at origins f.activity

-- a line with the word and the number of firings, and a line for each firing
abbrev pub counted : List BlockOrigins → List ℕ → List Firing → List ℕ
counted origins word fs = numbered word (length fs) ++ (10 ∷ ended (map (firing_line origins) fs))

-- the causes, and the story after them
unfoldable pub traced_text : List BlockOrigins → List Firing → List Firing → List ℕ
traced_text origins causes story =
    counted origins (codes "causes ") causes ++ counted origins (codes "story ") story

-- f is a firing of the job whose needs the run fs holds, and it gives e
abbrev pub IsCauseIn : JobParts → List Firing → Entry → Firing → Type 0
IsCauseIn job fs e f = Enabled (own_of job) (Held (own_of job) fs) f × Contains ((own_of job).gives f) e

-- fs is the plain run of the job: each firing the least that is enabled and new, so many at most. It holds
-- the entry. What is written are all firings that give the entry and whose needs the run holds, in order, each
-- once; and the story of the entry in this run; each with the place of its statement.
pub record TracesRun (job : JobParts) (origins : List BlockOrigins) (firings : ℕ) (e : Entry) (fs : List Firing) (written : List ℕ) : Type 0 where
  pub plain : Plain (own_of job) firing_le firings fs
  pub held : Held (own_of job) fs e
  pub causes : List Firing
  pub exact : IsListOf firing_cmp (IsCauseIn job fs e) causes
  pub story : List Firing
  pub is_story : IsStory (own_of job) fs e story
  pub tells : Tells (own_of job) fs e story
  pub is : written ≡ traced_text origins causes story

-- a machine of the job that ran plainly, with so many firings at most: its log is the run, and its history is
-- what the log holds
pub record RanPlainly (job : JobParts) (firings : ℕ) (m : State) : Type 0 where
  pub of : m.job ≡ job
  pub plain : Plain (own_of job) firing_le firings m.log
  pub held : Same (Contains m.history) (Held (own_of job) m.log)

-- the fault that is told if nothing is traced
abbrev pub trace_fault : TraceError → CommandError
trace_fault trace_errors.NotHeld = faults.EntryNotHeld
trace_fault trace_errors.NoMemory = faults.NoMemory

abbrev pub TracesJob : JobParts → List BlockOrigins → ℕ → Entry → List ℕ → Type 0
TracesJob job origins firings e written = (fs : List Firing) × TracesRun job origins firings e fs written

-- the plain run of the job does not hold the entry
abbrev pub LacksEntry : JobParts → ℕ → Entry → Type 0
LacksEntry job firings e = (fs : List Firing) × Plain (own_of job) firing_le firings fs × (Held (own_of job) fs e → ⊥)

-- why an entry of a job is not traced
abbrev pub TraceRefused : JobParts → ℕ → Entry → CommandError → Type 0
TraceRefused job firings e faults.EntryNotHeld = LacksEntry job firings e
TraceRefused job firings e faults.NoMemory = Unit {0}
TraceRefused job firings e fault = ⊥

-- why the word is no entry: the first byte with which no entry's text goes on
abbrev pub EntryRefused : List ℕ → CommandError → Type 0
EntryRefused text (faults.EntryNotAllowed k) = IsEntryErrorOf text (errors.BadText k)
EntryRefused text faults.NoMemory = Unit {0}
EntryRefused text fault = ⊥

-- this holds of the entry with that text
abbrev pub HasEntry : List ℕ → (Entry → Type 0) → Type 0
HasEntry text P = (e : Entry) × IsEntryOf text e × P e

-- that of the entry with the text, with the status 0
abbrev pub Traces : JobParts → List BlockOrigins → List ℕ → ℕ → List ℕ → ℕ → Type 0
Traces job origins text firings written status =
    HasEntry text (λ e. TracesJob job origins firings e written) × (status ≡ 0)

-- why nothing is traced: the text is no entry's, or the run does not hold the entry
abbrev pub NotTraced : JobParts → List ℕ → ℕ → CommandError → Type 0
NotTraced job text firings fault =
    EntryRefused text fault ⊎ HasEntry text (λ e. TraceRefused job firings e fault)

-- What `draw` tells: the picture of a program, of a run, or of an entry's story.
use Rattle.std.specs.Prelude.{◌≡◌, ◌⊎◌, ℕ, ◌-◌, List, length}
use Rattle.u_program.specs.Parts.{ProgramParts}
use Rattle.u_check.specs.Jobs.{JobParts}
use Rattle.u_base.specs.Firing.{Held, Plain}
use Rattle.u_sets.specs.Rising.{IsListOf}
use Rattle.u_rule.specs.EntryOrder.{entry_cmp}
use Rattle.u_rule.specs.Rule.{own_of}
use Rattle.u_rule.specs.declared.entry.Entry.{Entry}
use Rattle.u_rule.specs.declared.firing.Firing.{Firing}
use Rattle.u_machine.specs.Calls.{firing_le}
use Rattle.u_history.specs.declared.report.Ending.{Ending}
use Rattle.u_history.specs.declared.report.Ending.TheVariants as states
use Rattle.u_trace.specs.Stories.{IsStory, Tells}
use Rattle.u_compile.specs.declared.origins.BlockOrigins.{BlockOrigins}
use Rattle.u_commands.specs.Runs.{RunsTo, IsStatusOf}
use Rattle.u_commands.specs.Traces.{HasEntry, EntryRefused, TraceRefused}
use Rattle.u_commands.specs.declared.command_error.CommandError.{CommandError}
use Rattle.u_pictures.specs.Dot.{picture_text as program_picture}
use Rattle.u_pictures.specs.ProgramPicture.{picture}
use Rattle.u_pictures.specs.Picture.{picture_text}

-- the picture of the program, with the status 0
abbrev pub DrawsProgram : ProgramParts → List BlockOrigins → List ℕ → ℕ → Type 0
DrawsProgram program origins text status =
    (text ≡ program_picture (picture origins program.version program.blocks)) × (status ≡ 0)

-- the picture of the firings and of all entries that they hold
pub record ShowsFirings (job : JobParts) (origins : List BlockOrigins) (fs : List Firing) (text : List ℕ) : Type 0 where
  pub entries : List Entry
  pub exact : IsListOf entry_cmp (Held (own_of job) fs) entries
  pub is : text ≡ picture_text origins job fs entries

-- How many firings of the plain run, of 1000000 at most, the picture of fs leaves out: none if it is quiet.
abbrev pub LeavesOut : JobParts → Ending → List Firing → ℕ → Type 0
LeavesOut job states.Quiet fs left = left ≡ 0
LeavesOut job states.Paused fs left =
    (whole : List Firing) × Plain (own_of job) firing_le 1000000 whole × (left ≡ length whole - length fs)

-- The picture of the plain run of the job, with so many firings at most; the status that `run` has for it;
-- and how many firings are left out.
pub record DrawsRun (job : JobParts) (origins : List BlockOrigins) (firings : ℕ) (text : List ℕ) (status left : ℕ) : Type 0 where
  pub state : Ending
  pub fs : List Firing
  pub run : RunsTo job firings state fs
  pub shows : ShowsFirings job origins fs text
  pub ended : IsStatusOf (Held (own_of job) fs) state status
  pub leaves : LeavesOut job state fs left

-- fs is the plain run of the job, with so many firings at most. It holds the entry. The picture is that of
-- the entry's story in it.
pub record ShowsStory (job : JobParts) (origins : List BlockOrigins) (firings : ℕ) (e : Entry) (fs : List Firing) (text : List ℕ) : Type 0 where
  pub plain : Plain (own_of job) firing_le firings fs
  pub held : Held (own_of job) fs e
  pub story : List Firing
  pub is_story : IsStory (own_of job) fs e story
  pub tells : Tells (own_of job) fs e story
  pub shows : ShowsFirings job origins story text

abbrev pub DrawsStoryOf : JobParts → List BlockOrigins → ℕ → Entry → List ℕ → Type 0
DrawsStoryOf job origins firings e text = (fs : List Firing) × ShowsStory job origins firings e fs text

-- that of the entry with the text, with the status 0
abbrev pub DrawsStory : JobParts → List BlockOrigins → List ℕ → ℕ → List ℕ → ℕ → Type 0
DrawsStory job origins entry firings text status =
    HasEntry entry (λ e. DrawsStoryOf job origins firings e text) × (status ≡ 0)

-- why it is not drawn, as `trace` refuses it
abbrev pub StoryNotDrawn : JobParts → List ℕ → ℕ → CommandError → Type 0
StoryNotDrawn job entry firings fault =
    EntryRefused entry fault ⊎ HasEntry entry (λ e. TraceRefused job firings e fault)

-- What `check` tells of a program that breaks no rule.
use Rattle.std.specs.Prelude.{◌≡◌, ℕ, ◌+◌, Bool, true, false, List, [], ◌∷◌, ◌++◌, codes, decimal, length}
use Rattle.u_program.specs.Parts.{BlockParts}
use Rattle.u_check.specs.Jobs.{JobParts}
use Rattle.u_determinate.specs.Theorem.{IsDeterminateJob}
use Rattle.u_determinate.specs.Breaches.{number_of, IsAnswer}
use Rattle.u_determinate.specs.declared.answer.Strictness.{Strictness}
use Rattle.u_determinate.specs.declared.answer.Strictness.TheVariants.{Strict, Loose}
use Rattle.u_determinate.specs.Meetings as meetings
use Rattle.u_determinate.specs.declared.verdict.Determinacy.{Determinacy}
use Rattle.u_determinate.specs.declared.verdict.Determinacy.TheVariants.{Determinate, Meets}
use Rattle.u_determinate.specs.declared.verdict.Meeting.{Meeting}
use Rattle.u_determinate.specs.declared.verdict.Meeting.TheVariants.{Arcs, Ends, Calls, Turns}
use Rattle.u_commands.specs.Outputs.{numbered}
use Rattle.u_commands.specs.declared.checking.Asked.{Asked}

-- how many statements all blocks have together
abbrev pub statements_of : List BlockParts → ℕ
statements_of [] = 0
statements_of (b ∷ bs) = length b.statements + statements_of bs

-- `checked BLOCKS STATEMENTS`
unfoldable pub checked_line : List BlockParts → List ℕ
checked_line p = codes "checked " ++ (decimal (length p) ++ (codes " " ++ (decimal (statements_of p) ++ (10 ∷ []))))

-- `strict`, or `not strict rule R block B at A`
unfoldable pub strictness_line : Strictness → List ℕ
strictness_line Strict = codes "strict\n"
strictness_line (Loose rule block at) =
    numbered (codes "not strict rule ") (number_of rule)
    ++ (numbered (codes " block ") block ++ (numbered (codes " at ") at ++ (10 ∷ [])))

-- in the runs of each job of these blocks only writes clash
abbrev pub AreDeterminateJobs : List BlockParts → Type 0
AreDeterminateJobs p = (job : JobParts) → job.program.blocks ≡ p → IsDeterminateJob job

-- the word `strict` keeps what it promises
abbrev pub StrictKeeps : List BlockParts → Strictness → Type 0
StrictKeeps p Strict = AreDeterminateJobs p
StrictKeeps p (Loose rule block at) = Unit {0}

-- after the old bytes stands, if it is asked for, the line of what holds of the program
abbrev pub TellsStrictness : List BlockParts → Bool → List ℕ → List ℕ → Type 0
TellsStrictness p false old new = new ≡ old
TellsStrictness p true old new =
    (s : Strictness) × IsAnswer p s × StrictKeeps p s × (new ≡ old ++ strictness_line s)

-- what meets at a place
abbrev pub meeting_words : Meeting → List ℕ
meeting_words Arcs = codes " two arcs\n"
meeting_words Ends = codes " two ends\n"
meeting_words Calls = codes " two applies\n"
meeting_words Turns = codes " next and last\n"

-- `determinate`, or `not determinate block B at A WHAT`
unfoldable pub determinacy_line : Determinacy → List ℕ
determinacy_line Determinate = codes "determinate\n"
determinacy_line (Meets place) =
    numbered (codes "not determinate block ") place.block
    ++ (numbered (codes " at ") place.at ++ meeting_words place.meeting)

-- the word `determinate` keeps what it promises
abbrev pub DeterminateKeeps : List BlockParts → Determinacy → Type 0
DeterminateKeeps p Determinate = AreDeterminateJobs p
DeterminateKeeps p (Meets place) = Unit {0}

-- after the old bytes stands, if it is asked for, the line of whether the program is determinate
abbrev pub TellsDeterminacy : List BlockParts → Bool → List ℕ → List ℕ → Type 0
TellsDeterminacy p false old new = new ≡ old
TellsDeterminacy p true old new =
    (d : Determinacy) × meetings.IsAnswer p d × DeterminateKeeps p d × (new ≡ old ++ determinacy_line d)

-- The lines that tell of a program which breaks no rule of the checker: how large it is, and after
-- that what is asked for, whether it is strict before whether it is determinate.
pub record ChecksProgram (p : List BlockParts) (asked : Asked) (lines : List ℕ) : Type 0 where
  pub middle : List ℕ
  pub strict : TellsStrictness p asked.strict (checked_line p) middle
  pub determinate : TellsDeterminacy p asked.determinate middle lines

-- those lines, with the status 0
abbrev pub Checks : List BlockParts → Asked → List ℕ → ℕ → Type 0
Checks p asked text status = ChecksProgram p asked text × (status ≡ 0)

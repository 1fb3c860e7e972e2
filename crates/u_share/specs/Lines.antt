-- The lines of a bus: the firings among them, and what is told of the others.
use Rattle.std.specs.Prelude.{◌≡◌, ℕ, ◌+◌, ◌<◌, ◌≤◌, ◌⊎◌, List, [], ◌∷◌, ◌++◌, length, take, IsTrue, Contains, Option, Some, None, false, codes, decimal}
use Rattle.u_check.specs.Jobs.{JobParts}
use Rattle.u_rule.specs.Rule.{own_of}
use Rattle.u_rule.specs.FiringText.{firing_text}
use Rattle.u_rule.specs.FiringReading.{IsFiringOf}
use Rattle.u_rule.specs.declared.firing.Firing.{Firing}
use Rattle.u_share.specs.declared.line_fault.LineFault.{LineFault}
use Rattle.u_share.specs.declared.line_fault.LineFault.TheVariants.{TooLong, NotAllowed, NotOfThisJob, CutShort}

-- how many bytes a line has at most
unfoldable pub longest : ℕ
longest = 32768

-- what is kept of a line: all of it, or of one that is too long its first bytes, one more than it may have
abbrev pub first_of : List ℕ → List ℕ
first_of line = take (longest + 1) line

-- a line for each of the firings
abbrev pub text_of : List Firing → List ℕ
text_of [] = []
text_of (f ∷ fs) = firing_text f ++ (10 ∷ text_of fs)

-- the line is the text of f, a firing of the job
pub record IsLineOf (job : JobParts) (line : List ℕ) (f : Firing) : Type 0 where
  pub short : length line ≤ longest
  pub text : IsFiringOf line f
  pub of_job : IsTrue ((own_of job).is_firing f)

-- one of the lines is the text of f, a firing of the job
abbrev pub IsAmong : JobParts → List (List ℕ) → Firing → Type 0
IsAmong job lines f = (line : List ℕ) × Contains lines line × IsLineOf job line f

abbrev pub words_of : LineFault → List ℕ
words_of TooLong = codes "too long"
words_of NotAllowed = codes "not allowed"
words_of NotOfThisJob = codes "not of this job"
words_of CutShort = codes "cut short"

-- the notice `u: line N WHAT`
abbrev pub notice : ℕ → LineFault → List ℕ
notice n fault = codes "u: line " ++ (decimal n ++ (32 ∷ (words_of fault ++ (10 ∷ []))))

-- why a line that ended is skipped
abbrev pub IsFaultOf : JobParts → List ℕ → LineFault → Type 0
IsFaultOf job line TooLong = longest < length line
IsFaultOf job line NotAllowed = (length line ≤ longest) × (line ≡ [] → ⊥) × ((f : Firing) → IsFiringOf line f → ⊥)
IsFaultOf job line NotOfThisJob = (length line ≤ longest) × ((f : Firing) × IsFiringOf line f × ((own_of job).is_firing f ≡ false))
IsFaultOf job line CutShort = ⊥

-- whether a line that ended is skipped: it is empty, or a firing of the job; or why it is
abbrev pub IsSeenAs : JobParts → List ℕ → Option LineFault → Type 0
IsSeenAs job line None = (line ≡ []) ⊎ ((f : Firing) × IsLineOf job line f)
IsSeenAs job line (Some fault) = IsFaultOf job line fault

-- what is written of it
abbrev pub told_of : ℕ → Option LineFault → List ℕ
told_of n None = []
told_of n (Some fault) = notice n fault

-- this is written of line n
abbrev pub IsTold : JobParts → ℕ → List ℕ → List ℕ → Type 0
IsTold job n line text = (seen : Option LineFault) × IsSeenAs job line seen × (text ≡ told_of n seen)

-- this is written of the lines, which are counted from n: a notice of each that is skipped, in order
abbrev pub AreTold : JobParts → ℕ → List (List ℕ) → List ℕ → Type 0
AreTold job n [] text = text ≡ []
AreTold job n (line ∷ lines) text =
    (first : List ℕ) × (rest : List ℕ) × IsTold job n line first × AreTold job (n + 1) lines rest × (text ≡ first ++ rest)

-- what is written of the open line, behind so many that ended: a notice if it has any byte
abbrev pub open_notice : List ℕ → ℕ → List ℕ
open_notice [] ended = []
open_notice (b ∷ bs) ended = notice (ended + 1) CutShort

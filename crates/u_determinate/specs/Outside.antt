-- Runs with replies that are there from the first: what they come to; and who writes the cell of a question.
use Rattle.std.specs.Prelude.{◌≡◌, ◌⊎◌, Bool, true, IsTrue, List, Some, Contains}
use Rattle.u_base.specs.Firing.{Held, Enabled, Derivation, Cl, Same}
use Rattle.u_name.specs.Name.{Activity}
use Rattle.u_name.specs.Cell.{CellOf}
use Rattle.u_value.specs.declared.value.Value.{Value}
use Rattle.u_program.specs.Parts.{StatementParts}
use Rattle.u_check.specs.Kinds.{is_ask}
use Rattle.u_check.specs.Jobs.{JobParts}
use Rattle.u_rule.specs.Fits.{statement_of}
use Rattle.u_rule.specs.Structures.{wrote}
use Rattle.u_rule.specs.Rule.{is_own_of, system_of, own_of}
use Rattle.u_rule.specs.Replies.{IsReply}
use Rattle.u_rule.specs.declared.firing.Firing.{Firing}

-- what may fire where these replies are there: the job's own firings, and the replies
abbrev pub MayFire : JobParts → (Firing → Bool) → Firing → Type 0
MayFire job R f = IsTrue (is_own_of job f) ⊎ IsTrue (R f)

-- A run that fired nothing else, and of which nothing is left: neither an own firing, nor one of the replies.
pub record IsQuietWith (job : JobParts) (R : Firing → Bool) (fs : List Firing) : Type 0 where
  pub run : Derivation (system_of job) fs
  pub only : (f : Firing) → Contains fs f → MayFire job R f
  pub quiet : (f : Firing) → Enabled (own_of job) (Held (system_of job) fs) f → Contains fs f
  pub replied : (f : Firing) → IsTrue (R f) → Enabled (system_of job) (Held (system_of job) fs) f → Contains fs f

-- It holds all that any such run holds: what it comes to is fixed by the job and the replies.
abbrev pub QuietIsWhole : JobParts → Type 0
QuietIsWhole job = (R : Firing → Bool) (fs : List Firing) → IsQuietWith job R fs → Same (Held (system_of job) fs) (Cl (system_of job) (MayFire job R))

-- a reply of that activity, of that value
pub record IsReplyOf (job : JobParts) (f : Firing) (a : Activity) (v : Value) : Type 0 where
  pub reply : IsReply job f
  pub itself : f.activity ≡ a
  pub said : reply.by.value ≡ v

-- An activity that asks writes by its replies alone. So two writes of the cell of a question are two
-- replies that differ, or one of them is by a `store` of another activity.
abbrev pub RepliesAloneWrite : JobParts → Type 0
RepliesAloneWrite job =
    (fs : List Firing) → Derivation (system_of job) fs → (a : Activity) (s : StatementParts)
    → statement_of job.program.blocks a.block a.statement ≡ Some s
    → is_ask s.kind ≡ true → (c : CellOf) (v : Value)
    → Held (system_of job) fs (wrote c a v)
    → (f : Firing) × Contains fs f × IsReplyOf job f a v

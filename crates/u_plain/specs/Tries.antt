-- The firings that a list of entries makes: each grows from its first token.
use Rattle.std.specs.Prelude.{◌≡◌, ◌⊎◌, ◌↔◌, ◌+◌, List, [], ◌∷◌, ◌++◌, length, IsTrue, Option, Some, None, Contains}
use Rattle.u_value.specs.declared.value.Value.{Value}
use Rattle.u_check.specs.Jobs.{JobParts}
use Rattle.u_rule.specs.Parts.{TokenParts, ValueList}
use Rattle.u_rule.specs.Rule.{own_of, is_own_of}
use Rattle.u_rule.specs.Replies.{IsTold, question_of}
use Rattle.u_rule.specs.EntryOrder.{firing, written}
use Rattle.u_rule.specs.declared.parts.Write.{Write}
use Rattle.u_rule.specs.declared.entry.Entry.{Entry}
use Rattle.u_rule.specs.declared.entry.Entry.TheVariants as entries
use Rattle.u_rule.specs.declared.firing.Firing.{Firing}
use Rattle.u_base.specs.Firing.{Enabled}

-- what is enabled over the list
abbrev pub EnabledOver : JobParts → List Entry → Firing → Type 0
EnabledOver job held f = Enabled (own_of job) (Contains held) f

-- of the same activity, with the same values and perhaps more behind them
abbrev pub Extends : Firing → Firing → Type 0
Extends made f = (f.activity ≡ made.activity) × ((rest : ValueList) × (f.values ≡ made.values ++ rest))

-- the record with the write
abbrev pub with_write : Firing → Write → Firing
with_write made w = firing made.activity made.values (Some (written w.writer w.value))

-- the record with one more value
abbrev pub longer : Firing → Value → Firing
longer made v = firing made.activity (made.values ++ (v ∷ [])) None

-- enabled, and the record itself, or the reply to it that the table of the job has
abbrev pub FitsItself : JobParts → List Entry → Firing → Firing → Type 0
FitsItself job held made f = ((made ≡ f) ⊎ (IsTold job f × (made ≡ question_of f))) × EnabledOver job held f

-- it is the reply to the record that the table has, where it has one: an own firing of the job
abbrev pub IsReplyTo : JobParts → Firing → Option Firing → Type 0
IsReplyTo job made told =
    (f : Firing) → IsTrue (is_own_of job f) → (told ≡ Some f) ↔ (IsTold job f × (made ≡ question_of f))

-- enabled, and the record with the entry as its write
abbrev pub FitsRead : JobParts → List Entry → Firing → Entry → Firing → Type 0
FitsRead job held made e f =
    (w : Write) × (e ≡ entries.Write w) × (with_write made w ≡ f) × EnabledOver job held f

-- enabled, and the entry is its token at the port behind the record's
abbrev pub FitsLonger : JobParts → List Entry → Firing → Entry → Firing → Type 0
FitsLonger job held made e f =
    (t : TokenParts) × (e ≡ entries.Token t) × (t.activity ≡ made.activity)
    × (t.port ≡ length made.values + 1) × Extends (longer made t.value) f × EnabledOver job held f

-- enabled, and the entry is its first token
abbrev pub FitsFirst : JobParts → List Entry → Entry → Firing → Type 0
FitsFirst job held e f =
    (t : TokenParts) × (e ≡ entries.Token t) × (t.port ≡ 1)
    × Extends (firing t.activity (t.value ∷ []) None) f × EnabledOver job held f

-- The firings that a token makes with what it meets, and those that a write makes with the reads that wait.
use Rattle.std.specs.Prelude.{◌≡◌, Bool, List, [], ◌∷◌, ◌++◌, ◌⊎◌, Contains, IsTrue, Option, Some, None, Ok, ⊤}
use Rattle.u_name.specs.Name.{Activity}
use Rattle.u_name.specs.Cell.{CellOf}
use Rattle.u_value.specs.declared.value.Value.{Value}
use Rattle.u_check.specs.Jobs.{JobParts}
use Rattle.u_rule.specs.Parts.{ValueList}
use Rattle.u_program.specs.Parts.{StatementParts}
use Rattle.u_rule.specs.Fits.{statement_of, IsExecutable}
use Rattle.u_rule.specs.Rule.{is_own_of}
use Rattle.u_rule.specs.EntryOrder.{firing, written}
use Rattle.u_rule.specs.Replies.{IsTold, question_of}
use Rattle.u_rule.specs.Structures.{cell_named}
use Rattle.u_rule.specs.declared.entry.Entry.{Entry}
use Rattle.u_rule.specs.declared.firing.Firing.{Firing}
use Rattle.u_rule.specs.declared.parts.Written.{Written}
use Rattle.u_rule.specs.declared.parts.Write.{Write}
use Rattle.u_sets.specs.Members.{SomeOf}
use Rattle.u_history.specs.Outcomes.{PairIn}
use Rattle.u_match.specs.declared.meeting.Read.{Read}

-- s is the statement that the activity names, and where it is known so, the activity may execute it
abbrev pub IsKnown : Bool → JobParts → Activity → StatementParts → Type 0
IsKnown known job a s = (statement_of job.program.blocks a.block a.statement ≡ Some s) × (IsTrue known → IsExecutable job.program.blocks a)

-- f is that firing, and an own one of the job
abbrev pub IsSame : JobParts → Firing → Firing → Type 0
IsSame job g f = (g ≡ f) × IsTrue (is_own_of job f)

abbrev pub IsSomeSame : JobParts → Option Firing → Firing → Type 0
IsSomeSame job None f = ⊥
IsSomeSame job (Some g) f = IsSame job g f

-- f is that firing, or a reply to it that the table has
abbrev pub IsMadeOf : JobParts → Firing → Firing → Type 0
IsMadeOf job g f = (g ≡ f) ⊎ (IsTold job f × (g ≡ question_of f))

-- and is an own one of the job
abbrev pub IsKept : JobParts → Firing → Firing → Type 0
IsKept job g f = IsMadeOf job g f × IsTrue (is_own_of job f)

-- f is of one value, of two, and of two with a write; or is a reply to such a firing
abbrev pub IsOne : JobParts → Activity → Value → Firing → Type 0
IsOne job a v f = IsKept job (firing a (v ∷ []) None) f

abbrev pub IsTwo : JobParts → Activity → Value → Value → Firing → Type 0
IsTwo job a v w f = IsKept job (firing a (v ∷ w ∷ []) None) f

abbrev pub IsReading : JobParts → Activity → Value → Value → Written → Firing → Type 0
IsReading job a v w x f = IsKept job (firing a (v ∷ w ∷ []) (Some x)) f

-- f reads a write in H of the cell that the two values name
abbrev pub ReadsCell : JobParts → (Entry → Type 0) → Activity → Value → Value → Firing → Type 0
ReadsCell job H a v w f = (cell : CellOf) × (cell_named (v ∷ w ∷ []) ≡ Ok cell) × ((x : Written) × PairIn H cell x × IsReading job a v w x f)

-- f has these two values, and besides nothing or a write that it reads or that the table has
abbrev pub JoinsTwo : JobParts → (Entry → Type 0) → Activity → Value → Value → Firing → Type 0
JoinsTwo job H a v w f = IsTwo job a v w f ⊎ ReadsCell job H a v w f

-- f has two values, the last of which is one of the list
abbrev pub JoinsSome : JobParts → (Entry → Type 0) → Activity → List Value → Value → Firing → Type 0
JoinsSome job H a seconds v f = SomeOf seconds (JoinsTwo job H a v) f

-- one value of each of the lists
abbrev pub IsChoice : List ValueList → ValueList → Type 0
IsChoice [] [] = ⊤
IsChoice (l ∷ lists) (v ∷ vs) = Contains l v × IsChoice lists vs
IsChoice lists vs = ⊥

-- f has the chosen values, behind them one of each of the lists, and no write but one that the table has
abbrev pub JoinsAll : JobParts → Activity → ValueList → List ValueList → Firing → Type 0
JoinsAll job a chosen lists f = (vs : ValueList) × IsChoice lists vs × IsKept job (firing a (chosen ++ vs) None) f

-- f is a waiting read with the write
abbrev pub IsWoken : Write → Read → Firing → Type 0
IsWoken w r f = firing r.activity (r.structure ∷ r.index ∷ []) (Some (written w.writer w.value)) ≡ f

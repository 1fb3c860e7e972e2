-- Determinate programs: where two arcs lead to one port, at most one of them delivers.
--
-- In a run of such a program a port has two values only if a cell has two writes (`Theorem`). Two
-- sides of a conditional may meet in one port, and a loop may compute its next values on two sides.
use Rattle.std.specs.Prelude.{◌≡◌, ℕ, Bool, not, List, Contains, ◌⊎◌}
use Rattle.u_program.specs.declared.program.Kind.{Kind}
use Rattle.u_program.specs.declared.program.Kind.TheVariants.{Enter, Next, Last, End}
use Rattle.u_program.specs.Parts.{StatementParts, BlockParts}
use Rattle.u_check.specs.Rules.{Arc}
use Rattle.u_determinate.specs.Arcs.{Leads, ArcFrom}
use Rattle.u_determinate.specs.Guards.{Stands, Applies, HasGuard, ArcHasGuard}

-- Both arcs have a guard of one control, and need the other truth value of it. Two arcs from one
-- side need the same, and both deliver.
abbrev pub ArcsExclude : List StatementParts → Arc → Arc → Type 0
ArcsExclude ss a b =
    (c : ℕ) × (value : Bool) × ArcHasGuard ss c value a × ArcHasGuard ss c (not value) b

-- the same of two statements
abbrev pub Exclude : List StatementParts → ℕ → ℕ → Type 0
Exclude ss m n = (c : ℕ) × (value : Bool) × HasGuard ss c value m × HasGuard ss c (not value) n

-- one arc comes from an `enter`, which delivers to initiation 1, the other from a `next`, to a
-- later one
abbrev pub EnterAndNext : List StatementParts → Arc → Arc → Type 0
EnterAndNext ss a b = ((l : ℕ) × ArcFrom ss a (Enter l)) × ArcFrom ss b Next

-- the two arcs may lead to one port: they are one, or no place gets a value from each of them
abbrev pub MayMeet : List StatementParts → Arc → Arc → Type 0
MayMeet ss a b = (a ≡ b) ⊎ (EnterAndNext ss a b ⊎ (EnterAndNext ss b a ⊎ ArcsExclude ss a b))

-- Arcs to one port may meet there. Without this a port gets a value from each of two arcs.
abbrev pub OneSource : List StatementParts → Type 0
OneSource ss = (n port : ℕ) (a b : Arc) → Leads ss n port a → Leads ss n port b → MayMeet ss a b

-- at most one statement is of that kind
abbrev pub OneOfKind : List StatementParts → Kind → Type 0
OneOfKind ss k = (m n : ℕ) → Stands ss m k → Stands ss n k → m ≡ n

-- at most one `apply` names that statement
abbrev pub OneApply : List StatementParts → ℕ → Type 0
OneApply ss n = (l m : ℕ) → Applies ss l n → Applies ss m n → l ≡ m

-- Each `next` and each `last` of one loop exclude each other. Without this a loop goes on after it
-- ended, and ends twice: a `leave` gives two values.
abbrev pub TurnsOrEnds : List StatementParts → Type 0
TurnsOrEnds ss =
    (m n : ℕ) (next : Stands ss m Next) (last : Stands ss n Last) →
    next.it.region ≡ last.it.region → Exclude ss m n

-- A block of a determinate program. With two `end`s a call has two results, and with two `apply`s
-- that name one `back` the results of both calls come back there.
pub record IsDeterminateBlock (b : BlockParts) : Type 0 where
  pub one_source : OneSource b.statements
  pub one_end : OneOfKind b.statements End
  pub one_apply : (n : ℕ) → OneApply b.statements n
  pub one_turn : TurnsOrEnds b.statements

-- the blocks are those of a determinate program
abbrev pub IsDeterminate : List BlockParts → Type 0
IsDeterminate p = (b : BlockParts) → Contains p b → IsDeterminateBlock b

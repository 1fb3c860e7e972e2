-- What is kept of a block: the arcs to each statement, what stands behind it, and which statements
-- are marked.
use Rattle.std.specs.Prelude.{◌≡◌, ℕ, suc, ◌+◌, ◌<◌, ◌==◌, ◌↔◌, Bool, true, false, not}
use Rattle.std.specs.Prelude.{List, [], ◌∷◌, length, Contains, Some, slice_get, slice_index_or}
use Rattle.u_program.specs.declared.program.Kind.{Kind}
use Rattle.u_program.specs.declared.program.Kind.TheVariants.{Enter, Leave, Apply, Back}
use Rattle.u_program.specs.declared.program.Destination.{Destination}
use Rattle.u_program.specs.Parts.{StatementParts}
use Rattle.u_check.specs.Rules.{statement_at, Arc, arc}
use Rattle.u_determinate.specs.Arcs.{destination, Leads, OnlyArc}
use Rattle.u_name.specs.Context.{IsBetween}
use Rattle.u_determinate.specs.Guards.{Rounds, IsPassed, HasGuard}
use Rattle.u_determinate.specs.declared.incoming.Link.{Link}
use Rattle.u_determinate.specs.declared.incoming.Sources.{Sources}
use Rattle.u_determinate.specs.declared.sides.ControlMarks.{ControlMarks}

-- the arc of a link
abbrev pub arc_of : Link → Arc
arc_of l = arc l.statement l.on_false l.place

-- the link is a destination of the list, which stands so, and that destination is a port of
-- statement n
pub record IsListed
    (ds : List Destination) (statement : ℕ) (on_false : Bool) (n : ℕ) (l : Link) : Type 0 where
  pub from : l.statement ≡ statement
  pub list : l.on_false ≡ on_false
  pub there : slice_get ds l.place ≡ Some (destination n l.port)

-- the links are the arcs to statement n
abbrev pub AreLinks : List StatementParts → ℕ → List Link → Type 0
AreLinks ss n links = (l : Link) → Contains links l ↔ Leads ss n l.port (arc_of l)

-- whether a kind is that of an `enter` of the loop that a `leave` leaves, or of an `apply` that names
-- a `back`
abbrev pub is_behind : ℕ → StatementParts → Kind → Kind → Bool
is_behind n s Leave (Enter l) = l == s.region
is_behind n s Back (Apply m c) = m == n
is_behind n s k other = false

-- statement m stands so behind statement n, which is s
pub record IsBehind (ss : List StatementParts) (n : ℕ) (s : StatementParts) (m : ℕ) : Type 0 where
  pub it : StatementParts
  pub stands : statement_at ss m ≡ Some it
  pub names : is_behind n s s.kind it.kind ≡ true

-- statement m stands so behind statement n
abbrev pub StandsBehind : List StatementParts → ℕ → ℕ → Type 0
StandsBehind ss n m =
    (s : StatementParts) × (statement_at ss n ≡ Some s) × IsBehind ss n s m

-- what is kept of statement n
pub record AreSourcesOf (ss : List StatementParts) (n : ℕ) (p : Sources) : Type 0 where
  pub links : AreLinks ss n p.links.items
  pub behind : (m : ℕ) → Contains p.behind.items m ↔ StandsBehind ss n m

-- and of each statement, by its number
pub record AreSources (ss : List StatementParts) (table : List Sources) : Type 0 where
  pub count : length table ≡ length ss + 1
  pub each : (n : ℕ) (p : Sources) → slice_get table n ≡ Some p → AreSourcesOf ss n p

-- whether the number is marked
abbrev pub marked : List Bool → ℕ → Bool
marked marks n = slice_index_or marks n false

abbrev pub IsMarked : List Bool → ℕ → Type 0
IsMarked marks n = marked marks n ≡ true

-- only that link leads to the port
pub record OnlyLink (links : List Link) (port : ℕ) (l : Link) : Type 0 where
  pub listed : Contains links l
  pub leads : l.port ≡ port
  pub only : (k : Link) → Contains links k → k.port ≡ port → k ≡ l

-- the only arc to that port of statement n comes from a statement of which P is known
abbrev pub TakesFrom : List StatementParts → (ℕ → Type 0) → ℕ → ℕ → Type 0
TakesFrom ss P n port = (a : Arc) × OnlyArc ss n port a × P a.statement

-- of each statement that stands behind statement n, P is known
abbrev pub AllBehind : List StatementParts → (ℕ → Type 0) → ℕ → Type 0
AllBehind ss P n = (m : ℕ) → StandsBehind ss n m → P m

-- the arc stands in the list for that truth value, and its statement takes it from one of which P is
-- known
abbrev pub IsSide : List StatementParts → (ℕ → Type 0) → Bool → Arc → Type 0
IsSide ss P value a = (a.on_false ≡ not value) × TakesFrom ss P a.statement 2

-- each marked number is found in one number of rounds
abbrev pub IsSound : ((ℕ → Type 0) → ℕ → Type 0) → List Bool → Type 0
IsSound F marks = (k : ℕ) × ((n : ℕ) → IsMarked marks n → Rounds F k n)

-- how many are not marked
abbrev pub unmarked : List Bool → ℕ
unmarked [] = 0
unmarked (true ∷ marks) = unmarked marks
unmarked (false ∷ marks) = suc (unmarked marks)

-- What is marked follows, and no mark goes away.
pub record Marked (F : (ℕ → Type 0) → ℕ → Type 0) (old new : List Bool) : Type 0 where
  pub count : length new ≡ length old
  pub sound : IsSound F old → IsSound F new

-- One sweep marks what follows, and says whether any of that was new.
pub record Swept (F : (ℕ → Type 0) → ℕ → Type 0) (old new : List Bool) (more : Bool) : Type 0 where
  pub count : length new ≡ length old
  pub sound : IsSound F old → IsSound F new
  pub fewer : more ≡ true → unmarked new < unmarked old
  pub same : more ≡ false → new ≡ old
  pub closed : more ≡ false → (n : ℕ) → n < length new → F (IsMarked new) n → IsMarked new n

-- of each arc to some port from 1 to that number, Q is known
abbrev pub SomePort : List StatementParts → (Arc → Type 0) → ℕ → ℕ → Type 0
SomePort ss Q n ports =
    (port : ℕ) × IsBetween 1 port ports × ((a : Arc) → Leads ss n port a → Q a)

-- the marks are the guards of control c
pub record AreMarks (ss : List StatementParts) (c : ℕ) (m : ControlMarks) : Type 0 where
  pub control : m.control ≡ c
  pub passed : (n : ℕ) → IsMarked m.passed.items n ↔ IsPassed ss c n
  pub on_true : (n : ℕ) → IsMarked m.on_true.items n ↔ HasGuard ss c true n
  pub on_false : (n : ℕ) → IsMarked m.on_false.items n ↔ HasGuard ss c false n

-- and so each, by the control's number
pub record AreAllMarks (ss : List StatementParts) (all : List ControlMarks) : Type 0 where
  pub count : length all ≡ length ss + 1
  pub each : (c : ℕ) (m : ControlMarks) → slice_get all c ≡ Some m → AreMarks ss c m

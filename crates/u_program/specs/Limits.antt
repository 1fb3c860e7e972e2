-- The ranges and limits within which a list of blocks is a program.
use Rattle.std.specs.Prelude.{◌≡◌, Bool, true, false, ℕ, suc, ◌+◌, ◌*◌, ◌≤◌, ◌<◌, List, [], ◌∷◌, length, Option, Some, None, FitsSigned}
use Rattle.std.specs.List.{AllByRecursion}
use Rattle.u_name.specs.Block.{IsBlock}
use Rattle.u_name.specs.Context.{IsBetween}
use Rattle.u_program.specs.declared.program.Constant.{Constant}
use Rattle.u_program.specs.declared.program.Constant.TheVariants as constants
use Rattle.u_program.specs.declared.program.Kind.{Kind}
use Rattle.u_program.specs.declared.program.Kind.TheVariants.{Const, Param, Switch, Enter, Apply, Store, Ask, End}
use Rattle.u_program.specs.declared.program.Version.{Version}
use Rattle.u_program.specs.declared.program.Version.TheVariants as versions
use Rattle.u_program.specs.declared.program.Arguments.{Arguments}
use Rattle.u_program.specs.declared.program.Arguments.TheVariants as arguments
use Rattle.u_program.specs.declared.program.Parameter.{Parameter}
use Rattle.u_program.specs.declared.program.Parameter.TheVariants as parameters
use Rattle.u_program.specs.declared.program.Destination.{Destination}
use Rattle.u_program.specs.Parts.{StatementParts, BlockParts}
use Rattle.std.specs.Int.{w64}

-- how many arguments an `apply` has
abbrev pub count_of : Arguments → ℕ
count_of arguments.One = 1
count_of arguments.Two = 2
count_of arguments.Three = 3
count_of arguments.Four = 4

-- the place of a parameter behind the first
abbrev pub place_of : Parameter → ℕ
place_of parameters.Second = 2
place_of parameters.Third = 3
place_of parameters.Fourth = 4

-- the greatest port that a destination names
abbrev pub greatest_port : Version → ℕ
greatest_port versions.One = 3
greatest_port versions.Two = 5

-- the version of a text, and the limits on numbers of parts; None is no limit
pub record Limits : Type 0 where
  pub version : Version
  pub blocks : Option ℕ
  pub loops : Option ℕ
  pub statements : Option ℕ
  pub destinations : Option ℕ

abbrev pub AtMost : Option ℕ → ℕ → Type 0
AtMost None n = Unit {0}
AtMost (Some m) n = n ≤ m

-- 64 blocks, 99 loops and 999 statements of a block, 16 destinations of a list
abbrev pub limits_of : Version → Limits
limits_of version = record { version = version; blocks = Some 64; loops = Some 99; statements = Some 999; destinations = Some 16 }

-- the widest: what lies within the limits of some version lies within these
abbrev pub the_limits : Limits
the_limits = limits_of versions.Two

abbrev pub no_limits : Version → Limits
no_limits version = record { version = version; blocks = None; loops = None; statements = None; destinations = None }

abbrev pub IsConstant : Constant → Type 0
IsConstant (constants.Int n) = FitsSigned w64 n
IsConstant (constants.Bool b) = Unit {0}
IsConstant (constants.Proc name) = IsBlock name

abbrev pub IsKind : Kind → Type 0
IsKind (Const c) = IsConstant c
IsKind (Enter l) = IsBetween 1 l 99
IsKind (Apply b n) = IsBetween 1 b 999
IsKind (Ask s n) = IsBlock s
IsKind k = Unit {0}

-- an `apply` of version 1 has one argument
abbrev pub HasCount : Version → Arguments → Type 0
HasCount versions.One n = n ≡ arguments.One
HasCount versions.Two n = Unit {0}

-- whether statements of the version have the kind: `param`, and an `apply` of several arguments, are of version 2;
-- no version has `ask` yet
abbrev pub HasKind : Version → Kind → Type 0
HasKind version (Param k) = version ≡ versions.Two
HasKind version (Apply b n) = HasCount version n
HasKind version (Ask s n) = ⊥
HasKind version k = Unit {0}

-- whether a statement of the kind lists destinations
abbrev pub has_list : Kind → Bool
has_list (Apply b n) = false
has_list Store = false
has_list End = false
has_list k = true

-- whether it lists them twice: for true, and for false
abbrev pub has_otherwise : Kind → Bool
has_otherwise Switch = true
has_otherwise k = false

abbrev pub IsListed : Bool → List Destination → Type 0
IsListed true to = Unit {0}
IsListed false to = to ≡ []

pub record IsDestination (d : Destination) : Type 0 where
  pub statement : IsBetween 1 d.statement 999
  pub port : IsBetween 1 d.port 5

-- by statement, then by port
abbrev pub rank : Destination → ℕ
rank d = 8 * d.statement + d.port

-- each is a destination and above the one before it
abbrev pub Ascending : ℕ → List Destination → Type 0
Ascending below [] = Unit {0}
Ascending below (d ∷ ds) = IsDestination d × (below < rank d) × Ascending (rank d) ds

-- no port is greater than the version has
abbrev pub HasPorts : Version → List Destination → Type 0
HasPorts version [] = Unit {0}
HasPorts version (d ∷ ds) = (d.port ≤ greatest_port version) × HasPorts version ds

pub record IsStatement (limits : Limits) (s : StatementParts) : Type 0 where
  pub region : s.region ≤ 99
  pub kind : IsKind s.kind
  pub has_kind : HasKind limits.version s.kind
  pub to : Ascending 0 s.to
  pub ports : HasPorts limits.version s.to
  pub listed : IsListed (has_list s.kind) s.to
  pub few : AtMost limits.destinations (length s.to)
  pub otherwise : Ascending 0 s.otherwise
  pub ports_otherwise : HasPorts limits.version s.otherwise
  pub listed_otherwise : IsListed (has_otherwise s.kind) s.otherwise
  pub few_otherwise : AtMost limits.destinations (length s.otherwise)

-- loops that count on from this number: each is held by region 0 or by an earlier loop, within 99
abbrev pub AreLoops : ℕ → List ℕ → Type 0
AreLoops n [] = Unit {0}
AreLoops n (h ∷ hs) = (h < n) × (h ≤ 99) × AreLoops (suc n) hs

pub record IsBlockOf (limits : Limits) (b : BlockParts) : Type 0 where
  pub name : IsBlock b.name
  pub loops : AreLoops 1 b.loops
  pub few_loops : AtMost limits.loops (length b.loops)
  pub each : AllByRecursion (IsStatement limits) b.statements
  pub few : AtMost limits.statements (length b.statements)
  pub some : 1 ≤ length b.statements

pub record IsProgram (limits : Limits) (p : List BlockParts) : Type 0 where
  pub each : AllByRecursion (IsBlockOf limits) p
  pub few : AtMost limits.blocks (length p)
  pub some : 1 ≤ length p

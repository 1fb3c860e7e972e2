-- What the tables that are made in one pass over a block say of it.
use Rattle.std.specs.Prelude.{◌≡◌, ℕ, ◌+◌, ◌-◌, ◌*◌, ◌<◌, ◌≤◌, ◌⊎◌, ◌↔◌, IsTrue, nat_lt}
use Rattle.std.specs.Prelude.{Bool, true, false, ◌||◌, ◌&&◌, ◌==◌, if◌then◌else◌}
use Rattle.std.specs.Prelude.{List, length, slice_index_or, Option, Some, None}
use Rattle.u_check.specs.Kinds.{ports_of, comes_from_outside, back_named}
use Rattle.u_name.specs.Context.{IsBetween}
use Rattle.u_program.specs.declared.program.Kind.{Kind}
use Rattle.u_program.specs.declared.program.Kind.TheVariants as kinds
use Rattle.u_program.specs.Parts.{StatementParts}
use Rattle.u_check.specs.Rules.{statement_at, Arc}
use Rattle.u_determinate.specs.declared.sources.Way.{Way}
use Rattle.u_determinate.specs.declared.sources.Way.TheVariants.{Enter, Next, Other}
use Rattle.u_determinate.specs.declared.sources.Source.{Source}
use Rattle.u_determinate.specs.declared.sources.Sources.{Sources}
use Rattle.u_determinate.specs.declared.sources.Sources.TheVariants as sources
use Rattle.u_determinate.specs.declared.calls.Calls.{Calls}
use Rattle.u_determinate.specs.declared.calls.Calls.TheVariants as calls
use Rattle.u_determinate.specs.declared.guards.Guards.{Guards}
use Rattle.u_determinate.specs.declared.guards.Guards.TheVariants as guards
use Rattle.u_determinate.specs.Arcs.{Leads, OnlyArc, IsAppliedOnce}
use Rattle.u_determinate.specs.Strict.{EnterAndNext, IsGuarded, is_test}

-- the way into a loop's turn that an arc from a statement of that kind is
abbrev pub way_of : Kind → Way
way_of (kinds.Enter l) = Enter
way_of kinds.Next = Next
way_of k = Other

-- the list of a `switch` from which a `next` or a `last` has its value
abbrev pub side_of : Kind → Option Bool
side_of kinds.Next = Some false
side_of kinds.Last = Some true
side_of k = None

abbrev pub are_enter_and_next : Way → Way → Bool
are_enter_and_next Enter Next = true
are_enter_and_next Next Enter = true
are_enter_and_next a b = false

-- what the arcs come from where there is one more
abbrev pub with_source : Sources → Source → Sources
with_source sources.Nothing b = sources.One b
with_source (sources.One a) b =
    if are_enter_and_next a.way b.way then sources.EnterAndNext else sources.Many
with_source sources.EnterAndNext b = sources.Many
with_source sources.Many b = sources.Many

-- whether the arcs to a port are one, or one from an `enter` and one from a `next`
abbrev pub is_one_source : Sources → Bool
is_one_source sources.Nothing = false
is_one_source (sources.One a) = true
is_one_source sources.EnterAndNext = true
is_one_source sources.Many = false

-- whether that port of a statement of the kind has one source, by what the arcs to it come from; a
-- port that the statement lacks, and one whose value comes from outside, needs none
abbrev pub has_one_source : Kind → ℕ → Sources → Bool
has_one_source k port s = comes_from_outside k || (nat_lt (ports_of k) port || is_one_source s)

-- the earlier of two numbers, where there are any
abbrev pub first_of_both : Option ℕ → Option ℕ → Option ℕ
first_of_both None b = b
first_of_both (Some m) None = Some m
first_of_both (Some m) (Some n) = if nat_lt n m then Some n else Some m

-- where the only arc comes from
abbrev pub only_source : Sources → Option Source
only_source sources.Nothing = None
only_source (sources.One a) = Some a
only_source sources.EnterAndNext = None
only_source sources.Many = None

-- The lists of a block in the order of its text: that of statement n on true, then on false.
abbrev pub list_number : ℕ → Bool → ℕ
list_number n on_false = 2 * n + (if on_false then 1 else 0)

-- the arc stands in a list before that number, or in that one at one of its first places
abbrev pub IsBefore : ℕ → ℕ → Arc → Type 0
IsBefore list places a =
    (list_number a.statement a.on_false < list)
    ⊎ ((list_number a.statement a.on_false ≡ list) × (a.place < places))

-- the arc comes from there
pub record IsFrom (ss : List StatementParts) (a : Arc) (source : Source) : Type 0 where
  pub statement : a.statement ≡ source.statement
  pub side : a.on_false ≡ source.on_false
  pub it : StatementParts
  pub stands : statement_at ss a.statement ≡ Some it
  pub way : way_of it.kind ≡ source.way

-- of the arcs before a place one leads to that port of statement n, and it comes from there
pub record OneBefore (ss : List StatementParts) (n port list places : ℕ) (s : Source) : Type 0 where
  pub arc : Arc
  pub leads : Leads ss n port arc
  pub before : IsBefore list places arc
  pub from : IsFrom ss arc s
  pub only : (b : Arc) → IsBefore list places b → Leads ss n port b → b ≡ arc

-- the arc is that way into a loop's turn
pub record IsWay (ss : List StatementParts) (a : Arc) (w : Way) : Type 0 where
  pub it : StatementParts
  pub stands : statement_at ss a.statement ≡ Some it
  pub way : way_of it.kind ≡ w

-- of the arcs before a place two lead to that port, one from an `enter` and one from a `next`
pub record TwoBefore (ss : List StatementParts) (n port list places : ℕ) : Type 0 where
  pub enter : Arc
  pub next : Arc
  pub enter_leads : Leads ss n port enter
  pub next_leads : Leads ss n port next
  pub enter_before : IsBefore list places enter
  pub next_before : IsBefore list places next
  pub enters : IsWay ss enter Enter
  pub nexts : IsWay ss next Next
  pub only : (a : Arc) → IsBefore list places a → Leads ss n port a → (a ≡ enter) ⊎ (a ≡ next)

-- that port of statement n has one arc, or one from an `enter` and one from a `next`
abbrev pub PortHasOneSource : List StatementParts → ℕ → ℕ → Type 0
PortHasOneSource ss n port = ((a : Arc) × OnlyArc ss n port a) ⊎ EnterAndNext ss n port

-- that port of statement n has one source, if the statement has the port and takes it from arcs
abbrev pub PortIsFed : List StatementParts → ℕ → ℕ → Type 0
PortIsFed ss port n =
    (s : StatementParts)
    → statement_at ss n ≡ Some s
    → comes_from_outside s.kind ≡ false
    → port ≤ ports_of s.kind
    → PortHasOneSource ss n port

-- and so has each port below that one
abbrev pub PortsBelowAreFed : List StatementParts → ℕ → ℕ → Type 0
PortsBelowAreFed ss port n = (p : ℕ) → 1 ≤ p → p < port → PortIsFed ss p n

-- what the arcs before a place that lead to that port of statement n come from
abbrev pub AreFrom : List StatementParts → ℕ → ℕ → ℕ → ℕ → Sources → Type 0
AreFrom ss n port list places sources.Nothing =
    (a : Arc) → IsBefore list places a → Leads ss n port a → ⊥
AreFrom ss n port list places (sources.One a) = OneBefore ss n port list places a
AreFrom ss n port list places sources.EnterAndNext = TwoBefore ss n port list places
AreFrom ss n port list places sources.Many = PortHasOneSource ss n port → ⊥

-- the table has that of each statement
pub record ArcsBefore (ss : List StatementParts) (port list places : ℕ) (table : List Sources)
    : Type 0 where
  pub as_long : length table ≡ length ss
  pub each : (n : ℕ)
      → IsBetween 1 n (length ss)
      → AreFrom ss n port list places (slice_index_or table (n - 1) sources.Nothing)

-- the table has what the arcs of the block to that port of each statement come from
abbrev pub AreSources : List StatementParts → ℕ → List Sources → Type 0
AreSources ss port table = ArcsBefore ss port (2 * (length ss + 1)) 0 table

-- the calls that return somewhere where there is one more
abbrev pub with_call : Calls → Calls
with_call calls.Nothing = calls.One
with_call calls.One = calls.Many
with_call calls.Many = calls.Many

abbrev pub is_one_call : Calls → Bool
is_one_call calls.Nothing = false
is_one_call calls.One = true
is_one_call calls.Many = false

-- of the first statements one is an `apply` that names statement n
pub record OneCallBefore (ss : List StatementParts) (n count : ℕ) : Type 0 where
  pub apply : ℕ
  pub it : StatementParts
  pub before : apply ≤ count
  pub stands : statement_at ss apply ≡ Some it
  pub names : back_named it.kind ≡ Some n
  pub only : (m : ℕ) (s : StatementParts)
      → m ≤ count
      → statement_at ss m ≡ Some s
      → back_named s.kind ≡ Some n
      → m ≡ apply

-- how many of the first statements are an `apply` that names statement n
abbrev pub AreCalls : List StatementParts → ℕ → ℕ → Calls → Type 0
AreCalls ss n count calls.Nothing =
    (m : ℕ) (s : StatementParts)
    → m ≤ count
    → statement_at ss m ≡ Some s
    → back_named s.kind ≡ Some n
    → ⊥
AreCalls ss n count calls.One = OneCallBefore ss n count
AreCalls ss n count calls.Many = IsAppliedOnce ss n → ⊥

-- the table has that of each statement
pub record CallsBefore (ss : List StatementParts) (count : ℕ) (table : List Calls) : Type 0 where
  pub as_long : length table ≡ length ss
  pub each : (n : ℕ)
      → IsBetween 1 n (length ss)
      → AreCalls ss n count (slice_index_or table (n - 1) calls.Nothing)

-- statement t is the test of each `next` and each `last` of region l
abbrev pub GuardsAll : List StatementParts → ℕ → ℕ → Type 0
GuardsAll ss l t =
    (n : ℕ) (s : StatementParts) (on_false : Bool)
    → statement_at ss n ≡ Some s
    → s.region ≡ l
    → side_of s.kind ≡ Some on_false
    → IsGuarded ss l t on_false n

-- statement t is the test of those among the first statements, and no other can be that of all
pub record GuardsFirst (ss : List StatementParts) (l count t : ℕ) : Type 0 where
  pub guards : (n : ℕ) (s : StatementParts) (on_false : Bool)
      → n ≤ count
      → statement_at ss n ≡ Some s
      → s.region ≡ l
      → side_of s.kind ≡ Some on_false
      → IsGuarded ss l t on_false n
  pub only : (u : ℕ) → GuardsAll ss l u → u ≡ t

abbrev pub is_switch : Kind → Bool
is_switch kinds.Switch = true
is_switch k = false

-- the statement is a `switch` of the region
abbrev pub is_switch_of : Option StatementParts → ℕ → Bool
is_switch_of None region = false
is_switch_of (Some s) region = is_switch s.kind && s.region == region

-- the statement lies in the region, and its kind can be that of a test
abbrev pub is_test_of : Option StatementParts → ℕ → Bool
is_test_of None region = false
is_test_of (Some s) region = s.region == region && is_test s.kind

-- whether a loop has one test, by the tests of its `next`s and `last`s, and by whether it has a
-- statement whose kind can be that of a test
abbrev pub is_tested : List StatementParts → ℕ → Guards → Bool → Bool
is_tested ss l guards.Nothing possible = possible
is_tested ss l (guards.One t) possible = is_test_of (statement_at ss t) l
is_tested ss l guards.Many possible = false

-- the statement on which statement n depends, by a `switch` that sends to it from that list
abbrev pub GuardOf : List StatementParts → ℕ → Bool → Option ℕ → Type 0
GuardOf ss n on_false None =
    (s : StatementParts)
    → statement_at ss n ≡ Some s
    → (t : ℕ)
    → IsGuarded ss s.region t on_false n
    → ⊥
GuardOf ss n on_false (Some t) =
    (s : StatementParts) → statement_at ss n ≡ Some s → IsGuarded ss s.region t on_false n

-- what is the test of each `next` and each `last` of region l among the first statements
abbrev pub AreGuards : List StatementParts → ℕ → ℕ → Guards → Type 0
AreGuards ss l count guards.Nothing =
    (n : ℕ) (s : StatementParts) (on_false : Bool)
    → n ≤ count
    → statement_at ss n ≡ Some s
    → s.region ≡ l
    → side_of s.kind ≡ Some on_false
    → ⊥
AreGuards ss l count (guards.One t) = GuardsFirst ss l count t
AreGuards ss l count guards.Many = (u : ℕ) → GuardsAll ss l u → ⊥

-- the tests where there is one more, or one that has none
abbrev pub with_guard : Guards → Option ℕ → Guards
with_guard guards.Nothing None = guards.Many
with_guard guards.Nothing (Some t) = guards.One t
with_guard (guards.One t) None = guards.Many
with_guard (guards.One t) (Some u) = if t == u then guards.One t else guards.Many
with_guard guards.Many u = guards.Many

-- the table has that of each loop
pub record GuardsBefore (ss : List StatementParts) (loops count : ℕ) (table : List Guards)
    : Type 0 where
  pub as_long : length table ≡ loops
  pub each : (l : ℕ)
      → IsBetween 1 l loops
      → AreGuards ss l count (slice_index_or table (l - 1) guards.Nothing)

-- a statement of region l among the first ones whose kind can be that of a test
pub record PossibleTest (ss : List StatementParts) (l count : ℕ) : Type 0 where
  pub test : ℕ
  pub it : StatementParts
  pub before : test ≤ count
  pub stands : statement_at ss test ≡ Some it
  pub region : it.region ≡ l
  pub kind : is_test it.kind ≡ true

-- the table has of each loop whether there is such a statement
pub record PossibleBefore (ss : List StatementParts) (loops count : ℕ) (table : List Bool)
    : Type 0 where
  pub as_long : length table ≡ loops
  pub each : (l : ℕ)
      → IsBetween 1 l loops
      → IsTrue (slice_index_or table (l - 1) false) ↔ PossibleTest ss l count

-- The rules of the checker, and what it is to break one.
use Rattle.std.specs.Prelude.{◌≡◌, ℕ, ◌-◌, ◌<◌, ◌≤◌, Bool, true, false, not, ◌&&◌, ◌||◌, ◌==◌, ◌⊎◌, nat_le, if◌then◌else◌, List}
use Rattle.std.specs.Prelude.{◌++◌, length, take, Option, Some, None, slice_get, codes, find}
use Rattle.std.specs.List.{list_any, list_all, range_with_len}
use lib.Pointwise.{pointwise}
use Rattle.u_program.specs.declared.program.Constant.TheVariants as constants
use Rattle.u_program.specs.declared.program.Kind.{Kind}
use Rattle.u_program.specs.declared.program.Kind.TheVariants.{Const, Enter, Apply, Param}
use Rattle.u_program.specs.declared.program.Parameter.{Parameter}
use Rattle.u_program.specs.declared.program.Parameter.TheVariants as parameters
use Rattle.u_program.specs.declared.program.Destination.{Destination}
use Rattle.u_program.specs.Limits.{place_of}
use Rattle.u_program.specs.Parts.{StatementParts, BlockParts}
use Rattle.u_check.specs.Kinds.{ports_of, is_begin, is_param, is_back, is_last, is_leave, is_end, comes_from_outside, is_of_loop, crosses}
use Rattle.u_check.specs.declared.rule.Rule.{Rule}
use Rattle.u_check.specs.declared.rule.Rule.TheVariants.{BlockNamesDiffer, MainExists, BeginComesFirst, RegionExists}
use Rattle.u_check.specs.declared.rule.Rule.TheVariants.{DestinationExists, BeginAndBackTakeNothing, EnterReachesItsLoop}
use Rattle.u_check.specs.declared.rule.Rule.TheVariants.{ApplyNamesBack, BackIsNamed, ConstantNamesBlock, LoopStatementsInLoops}
use Rattle.u_check.specs.declared.rule.Rule.TheVariants.{LastSendsToLeave, LeaveSendsOut, EndInOuterRegion, OwnRegion}
use Rattle.u_check.specs.declared.rule.Rule.TheVariants.{PortsAreFed, ParamsComeInOrder, MainTakesOne}

abbrev pub main_name : List ℕ
main_name = codes "main"

abbrev pub same_name : List ℕ → List ℕ → Bool
same_name a b = pointwise ◌==◌ a b

-- the block of that name
abbrev pub block_named : List BlockParts → List ℕ → Option BlockParts
block_named p name = find (λ (b : BlockParts). same_name b.name name) p

-- the statement of that number, which counts from 1: none at 0
unfoldable pub statement_at : List StatementParts → ℕ → Option StatementParts
statement_at ss n = if n == 0 then None else slice_get ss (n - 1)

-- the region that holds the loop of that number, which counts from 1
unfoldable pub held_by : List ℕ → ℕ → Option ℕ
held_by loops n = if n == 0 then None else slice_get loops (n - 1)

-- where a statement sends, a `switch` on true first
abbrev pub sends : StatementParts → List Destination
sends s = s.to ++ s.otherwise

-- An arc of a block: one destination in one list of one statement, named by where it stands.
pub record Arc : Type 0 where
  -- the number of the statement that sends, from 1
  pub statement : ℕ
  -- whether it stands in the list on which a `switch` sends on false
  pub on_false : Bool
  -- its place in the list, from 0
  pub place : ℕ

abbrev pub arc : ℕ → Bool → ℕ → Arc
arc statement on_false place = record { statement = statement; on_false = on_false; place = place }

-- the list that an arc stands in
abbrev pub list_of : StatementParts → Bool → List Destination
list_of s on_false = if on_false then s.otherwise else s.to

abbrev pub destination_in : Option StatementParts → Arc → Option Destination
destination_in None a = None
destination_in (Some s) a = slice_get (list_of s a.on_false) a.place

-- where the arc leads, where the block has it
abbrev pub destination_of : List StatementParts → Arc → Option Destination
destination_of ss a = destination_in (statement_at ss a.statement) a

-- whether a block of the list has that name
abbrev pub names_block : List BlockParts → List ℕ → Bool
names_block bs name = list_any (λ (b : BlockParts). same_name b.name name) bs

-- the statement lies in region 0
abbrev pub is_outer : StatementParts → Bool
is_outer s = s.region == 0

-- statement 1 is `begin` in region 0, and no other is `begin`
unfoldable pub begins_well : ℕ → StatementParts → Bool
begins_well n s = if n == 1 then is_begin s.kind && is_outer s else not (is_begin s.kind)

-- a region is 0, or one of the loops, which count from 1
abbrev pub has_region : List ℕ → ℕ → Bool
has_region loops region = nat_le region (length loops)

abbrev pub has_port : Option StatementParts → ℕ → Bool
has_port None port = false
has_port (Some s) port = nat_le port (ports_of s.kind)

-- whether the destination names a statement of the block and a port of it, which counts from 1
unfoldable pub reaches : List StatementParts → Destination → Bool
reaches ss d = nat_le 1 d.port && has_port (statement_at ss d.statement) d.port

-- no destination is a `begin`, a `param` or a `back`
abbrev pub takes_tokens : Option StatementParts → Bool
takes_tokens None = true
takes_tokens (Some s) = not (comes_from_outside s.kind)

abbrev pub lies_in : ℕ → Option StatementParts → Bool
lies_in region None = true
lies_in region (Some s) = region == s.region

abbrev pub holds : ℕ → Option ℕ → Bool
holds region None = false
holds region (Some h) = region == h

-- the loop of an `enter` is held by the statement's region
unfoldable pub enters_inward : List ℕ → ℕ → Kind → Bool
enters_inward loops region (Enter l) = holds region (held_by loops l)
enters_inward loops region k = true

-- a destination of an `enter` lies in its loop
unfoldable pub lies_in_entered : Kind → Option StatementParts → Bool
lies_in_entered (Enter l) t = lies_in l t
lies_in_entered k t = true

abbrev pub is_back_in : ℕ → Option StatementParts → Bool
is_back_in region None = false
is_back_in region (Some s) = is_back s.kind && region == s.region

-- an `apply` names a `back` of its region
unfoldable pub names_back : List StatementParts → ℕ → Kind → Bool
names_back ss region (Apply n c) = is_back_in region (statement_at ss n)
names_back ss region k = true

abbrev pub applies_to : ℕ → Kind → Bool
applies_to n (Apply m c) = m == n
applies_to n k = false

-- whether some `apply` names statement n
unfoldable pub is_applied : List StatementParts → ℕ → Bool
is_applied ss n = list_any (λ (s : StatementParts). applies_to n s.kind) ss

-- a procedure that a statement gives is that of a block
unfoldable pub gives_block : List BlockParts → Kind → Bool
gives_block p (Const (constants.Proc name)) = names_block p name
gives_block p k = true

-- a destination of a `last` is a `leave`, and of no other statement is
abbrev pub leaves_after_last : Bool → Option StatementParts → Bool
leaves_after_last last None = true
leaves_after_last last (Some t) = if last then is_leave t.kind else not (is_leave t.kind)

abbrev pub lies_in_some : Option ℕ → Option StatementParts → Bool
lies_in_some None t = false
lies_in_some (Some region) t = lies_in region t

-- whether a destination of the statement is that port of statement n
unfoldable pub sends_to : StatementParts → ℕ → ℕ → Bool
sends_to s n port = list_any (λ (d : Destination). d.statement == n && d.port == port) (sends s)

-- whether some statement sends to that port of statement n
unfoldable pub is_fed : List StatementParts → ℕ → ℕ → Bool
is_fed ss n port = list_any (λ (s : StatementParts). sends_to s n port) ss

-- whether every port of statement n is some destination of the block; `begin`, `param` and `back` need none
unfoldable pub is_whole : List StatementParts → ℕ → Kind → Bool
is_whole ss n kind = comes_from_outside kind || list_all (λ port. is_fed ss n port) (range_with_len 1 (ports_of kind))

abbrev pub is_param_in : Option StatementParts → Bool
is_param_in None = false
is_param_in (Some s) = is_param s.kind

-- the statements of the parameters behind the first and before this one are `param`
unfoldable pub follows_params : List StatementParts → Parameter → Bool
follows_params ss parameters.Second = true
follows_params ss parameters.Third = is_param_in (statement_at ss 2)
follows_params ss parameters.Fourth = is_param_in (statement_at ss 2) && is_param_in (statement_at ss 3)

-- a `param` stands in region 0, at the number of its parameter and behind those of the ones before it
unfoldable pub comes_in_order : List StatementParts → ℕ → StatementParts → Kind → Bool
comes_in_order ss n s (Param k) = n == place_of k && is_outer s && follows_params ss k
comes_in_order ss n s k = true

-- what a rule demands of a program as a whole
abbrev pub program_keeps : Rule → List BlockParts → Bool
program_keeps MainExists p = names_block p main_name
program_keeps rule p = true

-- what a rule demands of block number n
abbrev pub block_keeps : Rule → List BlockParts → ℕ → BlockParts → Bool
block_keeps BlockNamesDiffer p n b = not (names_block (take (n - 1) p) b.name)
block_keeps rule p n b = true

-- what a rule demands of statement number n of block b, its destinations apart
abbrev pub itself_keeps : Rule → List BlockParts → BlockParts → ℕ → StatementParts → Bool
itself_keeps BeginComesFirst p b n s = begins_well n s
itself_keeps RegionExists p b n s = has_region b.loops s.region
itself_keeps EnterReachesItsLoop p b n s = enters_inward b.loops s.region s.kind
itself_keeps ApplyNamesBack p b n s = names_back b.statements s.region s.kind
itself_keeps BackIsNamed p b n s = not (is_back s.kind) || is_applied b.statements n
itself_keeps ConstantNamesBlock p b n s = gives_block p s.kind
itself_keeps LoopStatementsInLoops p b n s = not (is_of_loop s.kind) || not (is_outer s)
itself_keeps EndInOuterRegion p b n s = not (is_end s.kind) || is_outer s
itself_keeps PortsAreFed p b n s = is_whole b.statements n s.kind
itself_keeps ParamsComeInOrder p b n s = comes_in_order b.statements n s s.kind
itself_keeps MainTakesOne p b n s = not (is_param s.kind) || not (same_name b.name main_name)
itself_keeps rule p b n s = true

-- what a rule demands of an arc from statement s of block b that leads to the destination
abbrev pub destination_keeps : Rule → BlockParts → StatementParts → Destination → Bool
destination_keeps DestinationExists b s d = reaches b.statements d
destination_keeps BeginAndBackTakeNothing b s d = takes_tokens (statement_at b.statements d.statement)
destination_keeps EnterReachesItsLoop b s d = lies_in_entered s.kind (statement_at b.statements d.statement)
destination_keeps LastSendsToLeave b s d = leaves_after_last (is_last s.kind) (statement_at b.statements d.statement)
destination_keeps LeaveSendsOut b s d = not (is_leave s.kind) || lies_in_some (held_by b.loops s.region) (statement_at b.statements d.statement)
destination_keeps OwnRegion b s d = crosses s.kind || lies_in s.region (statement_at b.statements d.statement)
destination_keeps rule b s d = true

-- what a rule demands of statement number n of block b and of all its arcs
unfoldable pub statement_keeps : Rule → List BlockParts → BlockParts → ℕ → StatementParts → Bool
statement_keeps rule p b n s = itself_keeps rule p b n s && list_all (λ d. destination_keeps rule b s d) (sends s)

-- the rule's number
abbrev pub number_of : Rule → ℕ
number_of BlockNamesDiffer = 1
number_of MainExists = 2
number_of BeginComesFirst = 3
number_of RegionExists = 4
number_of DestinationExists = 5
number_of BeginAndBackTakeNothing = 6
number_of EnterReachesItsLoop = 7
number_of ApplyNamesBack = 8
number_of BackIsNamed = 9
number_of ConstantNamesBlock = 10
number_of LoopStatementsInLoops = 11
number_of LastSendsToLeave = 12
number_of LeaveSendsOut = 13
number_of EndInOuterRegion = 14
number_of OwnRegion = 15
number_of PortsAreFed = 16
number_of ParamsComeInOrder = 17
number_of MainTakesOne = 18

-- the program as a whole breaks the rule: block 0, statement 0
pub record ProgramBreaks (p : List BlockParts) (rule : Rule) (block statement : ℕ) : Type 0 where
  pub broken : program_keeps rule p ≡ false
  pub no_block : block ≡ 0
  pub no_statement : statement ≡ 0

-- the block of that number, from 1, breaks the rule: statement 0
pub record BlockBreaks (p : List BlockParts) (rule : Rule) (block statement : ℕ) : Type 0 where
  pub counts : 1 ≤ block
  pub it : BlockParts
  pub stands : slice_get p (block - 1) ≡ Some it
  pub broken : block_keeps rule p block it ≡ false
  pub no_statement : statement ≡ 0

-- an arc from statement number n of block b, which is s, breaks the rule
pub record ArcBreaks (rule : Rule) (b : BlockParts) (n : ℕ) (s : StatementParts) : Type 0 where
  pub arc : Arc
  pub from : arc.statement ≡ n
  pub to : Destination
  pub leads : destination_of b.statements arc ≡ Some to
  pub broken : destination_keeps rule b s to ≡ false

-- the statement of that number, from 1, of block b breaks the rule: itself, or one of its arcs
pub record StatementBreaks (p : List BlockParts) (rule : Rule) (b : BlockParts) (statement : ℕ) : Type 0 where
  pub it : StatementParts
  pub stands : statement_at b.statements statement ≡ Some it
  pub broken : (itself_keeps rule p b statement it ≡ false) ⊎ ArcBreaks rule b statement it

-- a statement of the block of that number, from 1, breaks the rule
pub record InBlockBreaks (p : List BlockParts) (rule : Rule) (block statement : ℕ) : Type 0 where
  pub counts : 1 ≤ block
  pub it : BlockParts
  pub stands : slice_get p (block - 1) ≡ Some it
  pub breach : StatementBreaks p rule it statement

-- the rule is broken there: at the program, at a block, or at a statement of a block
abbrev pub Breaches : List BlockParts → Rule → ℕ → ℕ → Type 0
Breaches p rule block statement = ProgramBreaks p rule block statement ⊎ (BlockBreaks p rule block statement ⊎ InBlockBreaks p rule block statement)

-- no rule is broken anywhere
pub record IsChecked (p : List BlockParts) : Type 0 where
  pub keeps_all : (rule : Rule) (block statement : ℕ) → Breaches p rule block statement → ⊥

-- the place (block, statement) comes before the other
abbrev pub IsEarlier : ℕ → ℕ → ℕ → ℕ → Type 0
IsEarlier block statement later_block later_statement = (block < later_block) ⊎ ((block ≡ later_block) × (statement < later_statement))

-- the rule is broken there, and at no earlier place
pub record IsFirstOfRule (p : List BlockParts) (rule : Rule) (block statement : ℕ) : Type 0 where
  pub breach : Breaches p rule block statement
  pub first : (b s : ℕ) → Breaches p rule b s → IsEarlier b s block statement → ⊥

-- no rule of a smaller number is broken, and this one at no earlier place
pub record IsFirstBreach (p : List BlockParts) (rule : Rule) (block statement : ℕ) : Type 0 where
  pub here : IsFirstOfRule p rule block statement
  pub first_rule : (r : Rule) (b s : ℕ) → Breaches p r b s → number_of r < number_of rule → ⊥

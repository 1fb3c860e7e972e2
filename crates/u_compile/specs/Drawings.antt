-- Procedures under construction: which values lead to which ports, and what comes from what.
use Rattle.std.specs.Prelude.{◌≡◌, ℕ, ◌+◌, ◌<◌, ◌≤◌, ◌⊎◌, Bool, false, not, ◌&&◌, ◌==◌, cond, List, [], ◌∷◌, ◌++◌, length, Option, Some, None, slice_get, slice_set, get_or}
use Rattle.u_program.specs.declared.program.Arguments.{Arguments}
use Rattle.u_program.specs.declared.program.Kind.{Kind}
use Rattle.u_program.specs.declared.program.Kind.TheVariants.{Begin, Param, Pass, Switch, Enter, Next, Last, Leave, Apply, Back}
use Rattle.u_program.specs.declared.program.Parameter.{Parameter}
use Rattle.u_program.specs.Limits.{place_of}
use Rattle.u_compile.specs.declared.graph.Link.{Link}
use Rattle.u_compile.specs.declared.graph.Output.{Output}
use Rattle.u_compile.specs.declared.drawing.Scope.{Scope}
use Rattle.u_compile.specs.declared.drawing.Way.{Way}
use Rattle.u_compile.specs.declared.drawing.Way.TheVariants.{Procedure, Side, Turn}
use Rattle.u_compile.specs.declared.drawing.Gate.{Gate}
use Rattle.u_compile.specs.declared.drawing.Carried.{Carried}
use Rattle.u_compile.specs.Drafts.{DraftParts}
use Rattle.u_compile.specs.Graphs.{graph, link, output, draft_at, is_enter}
use Rattle.u_compile.specs.Scoped.{IsOf, GuardedRegionParts}
use Rattle.u_compile.specs.Scopes.{IsPlaceOf}
use Rattle.u_compile.specs.Placed.{PlacedParts}

abbrev pub leads_to : ℕ → ℕ → Link → Bool
leads_to n port l = l.to.statement == n && l.to.port == port

-- the outputs that lead to a port of statement n, in the order of their links
abbrev pub feeders : ℕ → ℕ → List Link → List Output
feeders n port [] = []
feeders n port (l ∷ ls) = cond (leads_to n port l) (l.from ∷ feeders n port ls) (feeders n port ls)

-- A procedure under construction: its statements and links, its scopes, the outputs of each of its values, its gates, what its
-- loops carry, and the places of its statements.
pub record DrawingParts : Type 0 where
  pub statements : List DraftParts
  pub links : List Link
  pub scopes : List Scope
  pub values : List (List Output)
  pub gates : List Gate
  pub carried : List Carried
  pub places : List GuardedRegionParts

abbrev pub drawing : List DraftParts → List Link → List Scope → List (List Output) → List Gate → List Carried → List GuardedRegionParts → DrawingParts
drawing statements links scopes values gates carried places = record { statements = statements; links = links; scopes = scopes; values = values; gates = gates; carried = carried; places = places }

-- statement n is of that kind
abbrev pub IsOfKind : List DraftParts → ℕ → Kind → Type 0
IsOfKind ds n kind = (d : DraftParts) × (draft_at ds n ≡ Some d) × (d.kind ≡ kind)

-- exactly the outputs of value v lead to that port of statement n
abbrev pub IsFedBy : List Link → List (List Output) → ℕ → ℕ → ℕ → Type 0
IsFedBy ls vs n port v = slice_get vs v ≡ Some (feeders n port ls)

-- Those values lead to the ports from that one on, one to each, and nothing leads to the ports behind these.
abbrev pub AreFed : List Link → List (List Output) → ℕ → ℕ → List ℕ → Type 0
AreFed ls vs n port [] = (p : ℕ) → port ≤ p → feeders n p ls ≡ []
AreFed ls vs n port (v ∷ rest) = IsFedBy ls vs n port v × AreFed ls vs n (port + 1) rest

-- Nothing leads to that port of statement n, or exactly the outputs of a value do. Or it is port 2 of a `switch`, and
-- exactly one output leads to it.
pub data IsFed (ds : List DraftParts) (ls : List Link) (vs : List (List Output)) (n port : ℕ) : Type 0 where
  from_nothing : feeders n port ls ≡ [] → IsFed ds ls vs n port
  from_value : (v : ℕ) → IsFedBy ls vs n port v → IsFed ds ls vs n port
  from_control : (o : Output) → IsOfKind ds n Switch → port ≡ 2 → feeders n port ls ≡ o ∷ [] → IsFed ds ls vs n port

-- each port of each statement is so
abbrev pub EachIsFed : List DraftParts → List Link → List (List Output) → Type 0
EachIsFed ds ls vs = (n port : ℕ) → IsFed ds ls vs n port

-- Its statement is a `switch`. Exactly the outputs of its value lead to port 1 of it, and exactly its control to port 2.
pub record IsGate (ds : List DraftParts) (ls : List Link) (vs : List (List Output)) (g : Gate) : Type 0 where
  pub switch : IsOfKind ds g.switch Switch
  pub value : IsFedBy ls vs g.switch 1 g.value
  pub control : feeders g.switch 2 ls ≡ g.control ∷ []

-- Nothing leads to a statement that is not there; each port is led to by what one value gives, unless a value was linked
-- in part; and the gates are gates.
pub record IsDrawn (ds : List DraftParts) (ls : List Link) (vs : List (List Output)) (gs : List Gate) (broken : Bool) : Type 0 where
  pub there : (n port : ℕ) → length ds < n → feeders n port ls ≡ []
  pub fed : broken ≡ false → EachIsFed ds ls vs
  pub gates : (g : Gate) → IsOf gs g → IsGate ds ls vs g

-- the second list goes on where the first one ends
abbrev pub GoesOn : {A : Type 0} → List A → List A → Type 0
GoesOn {A} xs ys = (more : List A) × (ys ≡ xs ++ more)

-- What is carried in addition has no value in the next turn.
abbrev pub AddsOpen : List Carried → List Carried → Type 0
AddsOpen cs es = (number : ℕ) (c : Carried) → slice_get es number ≡ Some c → (slice_get cs number ≡ Some c) ⊎ (c.next ≡ None)

-- Statements in their places, links, scopes, values and what loops carry, which has no value in the next turn, are only added, and what led
-- to the ports of the statements that were there leads to them as before.
pub record Grows (d e : DrawingParts) : Type 0 where
  pub statements : GoesOn d.statements e.statements
  pub links : GoesOn d.links e.links
  pub scopes : GoesOn d.scopes e.scopes
  pub values : GoesOn d.values e.values
  pub carried : GoesOn d.carried e.carried
  pub opened : AddsOpen d.carried e.carried
  pub places : GoesOn d.places e.places
  pub fed : (n port : ℕ) → n ≤ length d.statements → feeders n port e.links ≡ feeders n port d.links

-- One statement is added, of that kind. Exactly those values lead to its ports, one to each.
pub record Adds (d e : DrawingParts) (kind : Kind) (inputs : List ℕ) : Type 0 where
  pub grows : Grows d e
  pub one : length e.statements ≡ length d.statements + 1
  pub stands : IsOfKind e.statements (length d.statements + 1) kind
  pub fed : AreFed e.links e.values (length d.statements + 1) 1 inputs

-- The statement that is added stands in the place of that scope.
pub record StandsIn (d e : DrawingParts) (scope : ℕ) : Type 0 where
  pub at : GuardedRegionParts
  pub is : IsPlaceOf d.scopes scope at
  pub adds : e.places ≡ d.places ++ (at ∷ [])

-- One statement is added so, and value v is what it gives.
pub record Gives (d e : DrawingParts) (kind : Kind) (inputs : List ℕ) (v : ℕ) : Type 0 where
  pub adds : Adds d e kind inputs
  pub value : slice_get e.values v ≡ Some (output (length d.statements + 1) false ∷ [])

-- with a value of these outputs
abbrev pub with_value : DrawingParts → List Output → DrawingParts
with_value d os = record d { values = d.values ++ (os ∷ []) }

-- An `apply` is added that names the statement behind it, which is the `back`. The procedure leads to port 1 of it, and
-- the arguments to those behind. Value v is what comes back.
pub record Calls (d e : DrawingParts) (procedure : ℕ) (arguments : List ℕ) (v : ℕ) : Type 0 where
  pub count : Arguments
  pub between : DrawingParts
  pub apply : Adds d between (Apply (length d.statements + 2) count) (procedure ∷ arguments)
  pub back : Gives between e Back [] v

-- a `last` takes the value, and value v is what a `leave` gives that takes what that gives
pub record Leaves (d e : DrawingParts) (value v : ℕ) : Type 0 where
  pub between : DrawingParts
  pub given : ℕ
  pub last : Gives d between Last (value ∷ []) given
  pub leave : Gives between e Leave (given ∷ []) v

-- that is the one output of the value, if it has exactly one
abbrev pub IsOnly : List (List Output) → ℕ → Option Output → Type 0
IsOnly vs v (Some o) = slice_get vs v ≡ Some (o ∷ [])
IsOnly vs v None = (o : Output) → slice_get vs v ≡ Some (o ∷ []) → ⊥

-- it is the value's one output, and is not that of an `enter`
abbrev pub IsOwnOutput : DrawingParts → ℕ → Output → Type 0
IsOwnOutput d v o = (slice_get d.values v ≡ Some (o ∷ [])) × (is_enter (draft_at d.statements o.statement) ≡ false)

-- that is so, if there is one
abbrev pub IsOwn : DrawingParts → ℕ → Option Output → Type 0
IsOwn d v (Some o) = IsOwnOutput d v o
IsOwn d v None = (o : Output) → IsOwnOutput d v o → ⊥

-- Output o gives what the value gives: it is the value's one output, which is not that of an `enter`. Where there is none, it
-- is that of a `pass` which takes the value.
pub data Chooses (d e : DrawingParts) (value : ℕ) (o : Output) : Type 0 where
  own : e ≡ d → IsOwnOutput d value o → Chooses d e value o
  pass : ((p : Output) → IsOwnOutput d value p → ⊥) → Adds d e Pass (value ∷ []) → o ≡ output (length d.statements + 1) false → Chooses d e value o

-- the statement is a `next` of that `enter`
abbrev pub IsNextOf : List DraftParts → ℕ → ℕ → Type 0
IsNextOf ds n enter = (d : DraftParts) × (draft_at ds n ≡ Some d) × (d.kind ≡ Next) × (d.shares ≡ enter)

-- the statement that is added is a `next` of the `enter` of what is carried under that number
abbrev pub IsNextOfCarried : DrawingParts → DrawingParts → ℕ → Type 0
IsNextOfCarried d e number = (c : Carried) × (slice_get d.carried number ≡ Some c) × IsNextOf e.statements (length d.statements + 1) c.enter

-- what is carried under that number has that value in the next turn, from then on
pub record NotesNext (d e : DrawingParts) (number value : ℕ) : Type 0 where
  pub carried : Carried
  pub was : slice_get d.carried number ≡ Some carried
  pub now : e ≡ record d { carried = slice_set d.carried number (record carried { next = Some value }) }

-- A `next` of the `enter` of what is carried under that number is added, to which exactly the value leads. That has the
-- value in the next turn.
pub record AddsNext (d e : DrawingParts) (number value : ℕ) : Type 0 where
  pub between : DrawingParts
  pub adds : Adds d between Next (value ∷ [])
  pub of : IsNextOfCarried d between number
  pub notes : NotesNext between e number value

abbrev pub a_carried : ℕ → ℕ → ℕ → Option ℕ → Carried
a_carried turn name enter next = record { turn = turn; name = name; enter = enter; next = next }

-- the loop with these turns carries under the name what has that number, and its value in the next turn is not known
abbrev pub IsOpen : List Carried → ℕ → ℕ → ℕ → Type 0
IsOpen cs turn name number = (enter : ℕ) × (slice_get cs number ≡ Some (a_carried turn name enter None))

-- what the loop with these turns carries under the name has that value in the next turn, and had none
pub record SetsNext (turn name value : ℕ) (d e : DrawingParts) : Type 0 where
  pub number : ℕ
  pub open_before : IsOpen d.carried turn name number
  pub notes : NotesNext d e number value

-- Value w is what an `enter` of the loop with these turns gives, to which exactly value v leads. It is carried under the name.
pub record Carries (turn name v : ℕ) (d e : DrawingParts) (w : ℕ) : Type 0 where
  pub scope : Scope
  pub is : slice_get d.scopes turn ≡ Some scope
  pub loop : ℕ
  pub way : scope.way ≡ Turn loop
  pub gives : Gives d e (Enter loop) (v ∷ []) w
  pub carried : e.carried ≡ d.carried ++ (a_carried turn name (length d.statements + 1) None ∷ [])

-- a procedure without statements, the first parameter of which is that name
abbrev pub no_statements : ℕ → DrawingParts
no_statements clock = drawing [] [] (record { region = 0; around = 0; way = Procedure; clock = clock } ∷ []) [] [] [] []

-- a statement of that kind takes the parameter behind so many others
pub data IsParameter (n : ℕ) (k : Kind) : Type 0 where
  first : n ≡ 0 → k ≡ Begin → IsParameter n k
  further : (p : Parameter) → place_of p ≡ n + 1 → k ≡ Param p → IsParameter n k

-- value v has the outputs of both
pub record Merges (d e : DrawingParts) (left right v : ℕ) : Type 0 where
  pub grows : Grows d e
  pub ones : List Output
  pub others : List Output
  pub has_left : slice_get d.values left ≡ Some ones
  pub has_right : slice_get d.values right ≡ Some others
  pub both : slice_get e.values v ≡ Some (ones ++ others)

abbrev pub a_gate : Output → ℕ → ℕ → Gate
a_gate control value switch = record { control = control; value = value; switch = switch }

-- no gate of the value under the control is noted
abbrev pub HasNoGate : List Gate → Output → ℕ → Type 0
HasNoGate gates control v = (switch : ℕ) → IsOf gates (a_gate control v switch) → ⊥

-- One gate of the value under the control is noted then: where one was, that is it, and no statement is added.
pub record SharesGate (d e : DrawingParts) (control : Output) (v : ℕ) : Type 0 where
  pub switch : ℕ
  pub noted : IsOf e.gates (a_gate control v switch)
  pub none_added : (n : ℕ) → IsOf d.gates (a_gate control v n) → e.statements ≡ d.statements

-- value w is what the gate of value v under the control sends where that gives that truth value
pub record IsGated (d : DrawingParts) (control : Output) (on : Bool) (v w : ℕ) : Type 0 where
  pub switch : ℕ
  pub gate : IsGate d.statements d.links d.values (a_gate control v switch)
  pub sends : slice_get d.values w ≡ Some (output switch (not on) ∷ [])

-- value w is what an `enter` of that loop gives to which exactly value v leads
pub record IsEntered (d : DrawingParts) (loop v w : ℕ) : Type 0 where
  pub enter : ℕ
  pub stands : IsOfKind d.statements enter (Enter loop)
  pub fed : IsFedBy d.links d.values enter 1 v
  pub sends : slice_get d.values w ≡ Some (output enter false ∷ [])

-- Value w is what value v is behind that way into a scope: what a gate of v sends into the side, or what an `enter` of the
-- loop gives.
pub data Enters (d : DrawingParts) (way : Way) (v w : ℕ) : Type 0 where
  side : (control : Output) (on : Bool) → way ≡ Side control on → IsGated d control on v w → Enters d way v w
  turn : (loop : ℕ) → way ≡ Turn loop → IsEntered d loop v w → Enters d way v w

-- Value w in that scope is value v of the outer scope: it goes into each scope between the two, one after another, by the
-- way of that scope.
pub data Comes (d : DrawingParts) (outer v : ℕ) : ℕ → ℕ → Type 0 where
  it : Comes d outer v outer v
  inside : (s : ℕ) (x : Scope) (u w : ℕ) → slice_get d.scopes s ≡ Some x → Enters d x.way u w → Comes d outer v x.around u → Comes d outer v s w

-- links from these outputs to that port of statement n
abbrev pub links_to : ℕ → ℕ → List Output → List Link
links_to n port [] = []
links_to n port (o ∷ os) = link o n port ∷ links_to n port os

-- links from those values to the ports of statement n from that one on
abbrev pub input_links : List (List Output) → ℕ → ℕ → List ℕ → List Link
input_links vs n port [] = []
input_links vs n port (v ∷ rest) = links_to n port (get_or vs v []) ++ input_links vs n (port + 1) rest

-- that is the number of a value
abbrev pub IsValue : List (List Output) → ℕ → Type 0
IsValue vs v = (os : List Output) × (slice_get vs v ≡ Some os)

-- each is
abbrev pub AreValues : List (List Output) → List ℕ → Type 0
AreValues vs [] = Unit {0}
AreValues vs (v ∷ rest) = IsValue vs v × AreValues vs rest

abbrev pub with_links : PlacedParts → List Link → PlacedParts
with_links p ms = record p { graph = graph p.graph.loops p.graph.statements (p.graph.links ++ ms) }

-- these links lead to statement n alone
abbrev pub OnlyTo : ℕ → List Link → Type 0
OnlyTo n ms = (m port : ℕ) → (m ≡ n → ⊥) → feeders m port ms ≡ []

-- links to the last statement are added
pub record LeadsOn (p q : PlacedParts) : Type 0 where
  pub more : List Link
  pub is : q ≡ with_links p more
  pub only : OnlyTo (length p.graph.statements) more

-- with one scope more
abbrev pub with_scope : DrawingParts → Scope → DrawingParts
with_scope d s = record d { scopes = d.scopes ++ (s ∷ []) }

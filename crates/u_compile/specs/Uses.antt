-- Uses of names: which value leads to the port where an operand is used, and where that value comes from.
use Rattle.std.specs.Prelude.{◌≡◌, ℕ, ◌+◌, Bool, true, false, List, [], ◌∷◌, ◌++◌, length, drop, pos, Option, Some, None, slice_get}
use Rattle.u_program.specs.Parts.{BlockParts}
use Rattle.u_program.specs.declared.program.Constant.{Constant}
use Rattle.u_program.specs.declared.program.Constant.TheVariants.{Int}
use Rattle.u_program.specs.declared.program.Kind.{Kind}
use Rattle.u_program.specs.declared.program.Kind.TheVariants.{Apply, Binary, Unary, Alloc, Fetch, Store, Select, Pass, Last, Leave, End}
use Rattle.u_program.specs.declared.program.Arguments.{Arguments as CountParts}
use Rattle.u_value.specs.declared.operators.BinaryOperator.TheVariants as binary
use Rattle.u_value.specs.declared.operators.UnaryOperator.TheVariants as unary
use Rattle.u_source.specs.declared.form.Form.{Form}
use Rattle.u_source.specs.declared.form.Form.TheVariants as forms
use Rattle.u_scope.specs.declared.checked.Meaning.TheVariants.{Name}
use Rattle.u_compile.specs.declared.graph.Output.{Output}
use Rattle.u_compile.specs.declared.drawing.Carried.{Carried}
use Rattle.u_compile.specs.declared.drawing.Scope.{Scope}
use Rattle.u_compile.specs.declared.drawing.Way.{Way}
use Rattle.u_compile.specs.declared.drawing.Way.TheVariants.{Side, Turn}
use Rattle.u_compile.specs.declared.naming.Binding.{Binding}
use Rattle.u_compile.specs.declared.lowering.Frame.TheVariants as frames
use Rattle.u_compile.specs.declared.lowering.Operand.{Operand}
use Rattle.u_compile.specs.declared.lowering.Operand.TheVariants.{Atom, Value, Arguments}
use Rattle.u_compile.specs.declared.lowering.Sides.{Sides}
use Rattle.u_compile.specs.declared.lowering.Start.{Start}
use Rattle.u_compile.specs.declared.lowering.Turns.{Turns}
use Rattle.u_compile.specs.declared.tree.Tree.{Tree}
use Rattle.u_compile.specs.Graphs.{output}
use Rattle.u_compile.specs.Scoped.{IsOf}
use Rattle.u_compile.specs.Drawings.{DrawingParts, GoesOn as Continues, IsOfKind, IsFedBy, IsNextOf, a_carried, IsParameter, IsEntered, Comes}
use Rattle.u_compile.specs.Namings.{IsNamed, IsConstant}
use Rattle.u_compile.specs.Trees.{HasForm, IsParent, IsEither, IsAround, IsCellWritten, IsGiven, IsWanted}
use Rattle.u_compile.specs.Operands.{LoweringParts, IsWritten, IsNoConstant, IsOperand}
use Rattle.u_compile.specs.Sides.{IsLastFrame, IsSelect}
use Rattle.u_compile.specs.Bodies.{IsBlockOf}
use Rattle.u_compile.specs.Walks.{IsDone, GoesThrough, IsMadeOfNodes}

-- the operand waits last
abbrev pub WaitsLast : LoweringParts → Operand → Type 0
WaitsLast l o = (before : List Operand) × (l.operands ≡ before ++ (o ∷ []))

-- value w is what a statement of that kind gives, to port 1 of which exactly value v leads
pub record GivesOne (d : DrawingParts) (kind : Kind) (v w : ℕ) : Type 0 where
  pub statement : ℕ
  pub stands : IsOfKind d.statements statement kind
  pub fed : IsFedBy d.links d.values statement 1 v
  pub sends : slice_get d.values w ≡ Some (output statement false ∷ [])

-- value w is what a `leave` gives that takes what a `last` gives, to which exactly value v leads
abbrev pub IsLeft : DrawingParts → ℕ → ℕ → Type 0
IsLeft d v w = (given : ℕ) × GivesOne d Last v given × GivesOne d Leave given w

-- value v is what the statement gives that takes the next parameter, where d is the procedure before
pub record GivesParameter (d e : DrawingParts) (v : ℕ) : Type 0 where
  pub kind : Kind
  pub is : IsParameter (length d.statements) kind
  pub stands : IsOfKind e.statements (length d.statements + 1) kind
  pub sends : slice_get e.values v ≡ Some (output (length d.statements + 1) false ∷ [])

-- scope s is right inside that one, and is entered that way
abbrev pub IsInside : List Scope → ℕ → Way → ℕ → Type 0
IsInside scopes around way s = (x : Scope) × (slice_get scopes s ≡ Some x) × (x.around ≡ around) × (x.way ≡ way)

-- A name is bound at the node: it has that value in that scope from then on. Before the node that is there what `at` says, and
-- later what `e` says.
pub data Binds (node : ℕ) (at e : LoweringParts) (b : Binding) : Type 0 where
  -- by its definition, of which the node is one: to what the operand is in the scope that is gone through
  definition : (o : Operand) → HasForm at.scene.tree node forms.Define → b.name ≡ node → b.scope ≡ at.scene.scope → WaitsLast at o → IsOperand at.scene e.drawing o b.value → Binds node at e b
  -- as a parameter: to what that gives, in the procedure's scope
  parameter : HasForm at.scene.tree node forms.AddParameter → b.name ≡ node → b.scope ≡ 0 → GivesParameter at.drawing e.drawing b.value → Binds node at e b
  -- as a variable of a loop, in its turns: to what an `enter` gives to which exactly the value leads with which it began
  variable : (s : Start) (loop : ℕ) → HasForm at.scene.tree node forms.Variables → IsOf at.starts s → b.name ≡ s.name → IsInside e.drawing.scopes at.scene.scope (Turn loop) b.scope → IsEntered e.drawing loop s.value b.value → Binds node at e b
  -- as the limit of a `for`, which has no name of its own, and is known under the node where the variables have begun
  limit : (waiting : ℕ) → HasForm at.scene.tree node forms.Variables → b.name ≡ node → b.scope ≡ at.scene.scope → IsLastFrame at (frames.Begun waiting (Some b.value)) → Binds node at e b
  -- as a variable that a loop gives, around it: to what comes out over a `last` and a `leave`, which take what the name is, by
  -- what was bound before, in the side where the test is false
  last : (turns : Turns) (control : Output) (block whole end value : ℕ) (before : List Binding) → HasForm at.scene.tree node forms.Block → IsParent at.scene.tree whole node → IsLastFrame at (frames.Block turns control block) → IsGiven at.scene.tree node whole b.name → b.scope ≡ turns.around → IsInside e.drawing.scopes turns.turn (Side control false) end → Continues (before ++ (b ∷ [])) e.scene.names.bindings → IsNamed e.drawing before end b.name value → IsLeft e.drawing value b.value → Binds node at e b

-- A variable of a loop begins at the node, whose name it has: with what the operand is that waits last, or, if it is the counter of a
-- `for`, with what the one before is. Before the node that is there what `at` says, and later what `e` says.
pub data Begins (node : ℕ) (at e : LoweringParts) (s : Start) : Type 0 where
  variable : (o : Operand) → HasForm at.scene.tree node forms.AddVariable → s.name ≡ node → WaitsLast at o → IsOperand at.scene e.drawing o s.value → Begins node at e s
  counter : (before : List Operand) (o limit : Operand) → HasForm at.scene.tree node forms.NoVariables → s.name ≡ node → at.operands ≡ before ++ (o ∷ limit ∷ []) → IsOperand at.scene e.drawing o s.value → Begins node at e s

-- The node is passed on the way from the first one to the last: what is there before it and behind it.
pub record Passes (first : ℕ) (begun : LoweringParts) (node : ℕ) (at next : LoweringParts) (last : ℕ) (ended : LoweringParts) : Type 0 where
  pub reached : GoesThrough first begun node at
  pub done : IsDone node at next
  pub on : GoesThrough (node + 1) next last ended

-- A node of a procedure: the first node of that, what was there then, what is there before the node, and what is there in the
-- end.
pub record Moment : Type 0 where
  pub first : ℕ
  pub begun : LoweringParts
  pub node : ℕ
  pub at : LoweringParts
  pub whole : LoweringParts

-- at a node of the procedure, before this one, the name was bound so
pub record IsBound (x : Moment) (b : Binding) : Type 0 where
  pub node : ℕ
  pub at : LoweringParts
  pub next : LoweringParts
  pub passes : Passes x.first x.begun node at next x.node x.at
  pub binds : Binds node at x.whole b

-- The node uses a name, in the scope that is gone through: value v comes from the value to which what the name means was bound,
-- over exactly the scopes between.
pub record IsUse (x : Moment) (node v : ℕ) : Type 0 where
  pub name : ℕ
  pub means : slice_get x.at.scene.tree.meanings.now node ≡ Some (Name name)
  pub binding : Binding
  pub named : binding.name ≡ name
  pub bound : IsBound x binding
  pub comes : Comes x.whole.drawing binding.scope binding.value x.at.scene.scope v

-- Value v is what the operand is: the value that waited, a constant that its node is, or the value of the name that it uses.
pub data IsFrom (x : Moment) (o : Operand) (v : ℕ) : Type 0 where
  waiting : o ≡ Value v → IsFrom x o v
  constant : (node : ℕ) (k : Constant) → o ≡ Atom node → IsWritten x.at.scene.tree x.at.scene.names.aliases node k → IsConstant x.whole.drawing x.whole.scene.names.bindings x.at.scene.scope k v → IsFrom x o v
  named : (node : ℕ) → o ≡ Atom node → IsNoConstant x.at.scene.tree x.at.scene.names.aliases node → IsUse x node v → IsFrom x o v

-- Exactly the outputs of one value lead to that port of the whole procedure, and nothing else: the value that the operand is.
pub record IsArc (x : Moment) (statement port : ℕ) (o : Operand) : Type 0 where
  pub value : ℕ
  pub fed : IsFedBy x.whole.drawing.links x.whole.drawing.values statement port value
  pub from : IsFrom x o value

-- so do the operands, one to each of the ports
abbrev pub AreArcs : Moment → ℕ → List ℕ → List Operand → Type 0
AreArcs x statement [] [] = Unit {0}
AreArcs x statement (port ∷ ports) (o ∷ os) = IsArc x statement port o × AreArcs x statement ports os
AreArcs x statement ports os = ⊥

-- The operands that wait last lead to those ports of a statement of that kind, one to each.
pub record Takes (kind : Kind) (ports : List ℕ) (x : Moment) : Type 0 where
  pub before : List Operand
  pub operands : List Operand
  pub waited : x.at.operands ≡ before ++ operands
  pub statement : ℕ
  pub stands : IsOfKind x.whole.drawing.statements statement kind
  pub arcs : AreArcs x statement ports operands

-- The two operands that wait last lead to a `select`, to port 1 of which exactly the control leads. That gives the value.
pub record Selected (control : ℕ) (x : Moment) : Type 0 where
  pub takes : Takes Select (2 ∷ 3 ∷ []) x
  pub fed : IsFedBy x.whole.drawing.links x.whole.drawing.values takes.statement 1 control
  pub value : ℕ
  pub sends : slice_get x.whole.drawing.values value ≡ Some (output takes.statement false ∷ [])

-- the ports from that one on, one for each
abbrev pub ports_from : {A : Type 0} → ℕ → List A → List ℕ
ports_from port [] = []
ports_from port (y ∷ ys) = port ∷ ports_from (port + 1) ys

-- What is called leads to port 1 of an `apply`, and the arguments, which wait behind it, to those from port 2 on.
pub record Called (x : Moment) : Type 0 where
  pub before : List Operand
  pub callee : Operand
  pub given : List Operand
  pub waited : x.at.operands ≡ before ++ (callee ∷ Arguments ∷ given)
  pub statement : ℕ
  pub back : ℕ
  pub count : CountParts
  pub stands : IsOfKind x.whole.drawing.statements statement (Apply back count)
  pub arc : IsArc x statement 1 callee
  pub arcs : AreArcs x statement (ports_from 2 given) given

-- the output says what the value is: it is its one output, or that of a `pass` to which exactly the value leads
pub data Tells (d : DrawingParts) (v : ℕ) (o : Output) : Type 0 where
  own : slice_get d.values v ≡ Some (o ∷ []) → Tells d v o
  pass : (statement : ℕ) → IsOfKind d.statements statement Pass → IsFedBy d.links d.values statement 1 v → o ≡ output statement false → Tells d v o

-- The operand that waits last chooses a side: an output tells its value, and a side of that control is entered in that scope, where
-- it is true.
pub record Controls (around : ℕ) (x : Moment) : Type 0 where
  pub operand : Operand
  pub waits : WaitsLast x.at operand
  pub value : ℕ
  pub from : IsFrom x operand value
  pub control : Output
  pub tells : Tells x.whole.drawing value control
  pub side : ℕ
  pub inside : IsInside x.whole.drawing.scopes around (Side control true) side

-- What chooses at the beginning of a block of a node of that form: in the scope that is gone through if it is an `if` with scopes, and
-- in the scope of the turns if it is a loop.
abbrev pub ControlsOf : Form → ℕ → Moment → Type 0
ControlsOf forms.If whole x = (IsSelect x.at.scene.tree x.node whole → ⊥) → Controls x.at.scene.scope x
ControlsOf forms.Loop whole x = (turns : Turns) → IsLastFrame x.at (frames.Test turns) → Controls turns.turn x
ControlsOf forms.For whole x = (turns : Turns) → IsLastFrame x.at (frames.Test turns) → Controls turns.turn x
ControlsOf _ whole x = Unit {0}

-- what the items of a block begin with, by what the block is of
pub record OpensWith (x : Moment) : Type 0 where
  pub block : ℕ
  pub around : IsAround x.at.scene.tree forms.Block forms.Block block x.node
  pub whole : ℕ
  pub parent : IsParent x.at.scene.tree whole block
  pub form : Form
  pub of : HasForm x.at.scene.tree whole form
  pub controls : ControlsOf form whole x

-- The `if` that ends with that node began at a node of the procedure, before this one: there the items of its first block begin, and
-- the operand that waits last is the value.
pub record HasBegunIf (x : Moment) (whole value : ℕ) : Type 0 where
  pub node : ℕ
  pub at : LoweringParts
  pub next : LoweringParts
  pub passes : Passes x.first x.begun node at next x.node x.at
  pub items : HasForm at.scene.tree node forms.NoItems
  pub block : ℕ
  pub around : IsAround at.scene.tree forms.Block forms.Block block node
  pub parent : IsParent at.scene.tree whole block
  pub of : HasForm at.scene.tree whole forms.If
  pub operand : Operand
  pub waits : WaitsLast at operand
  pub from : IsFrom (record x { node = node; at = at }) operand value

-- the first side ends with its block, and the other one with its `else`
abbrev pub side_end : Bool → Form
side_end true = forms.Block
side_end false = forms.Else

-- A side of the `if` that ends with node `whole` has ended with value v, at a node of the procedure, before this one: the scope that is
-- gone through there is that side of the control, right inside that one, and the operand that waits last is the value.
pub record HasEndedSide (x : Moment) (whole around : ℕ) (control : Output) (on : Bool) (v : ℕ) : Type 0 where
  pub node : ℕ
  pub at : LoweringParts
  pub next : LoweringParts
  pub passes : Passes x.first x.begun node at next x.node x.at
  pub is : HasForm at.scene.tree node (side_end on)
  pub parent : IsParent at.scene.tree whole node
  pub inside : IsInside x.whole.drawing.scopes around (Side control on) at.scene.scope
  pub operand : Operand
  pub waits : WaitsLast at operand
  pub from : IsFrom (record x { node = node; at = at }) operand v

-- What is known of an `if` that chooses one of two values, and has begun and not ended: where it began, with the value that is its
-- control. It is one that needs no scopes.
pub record HasChoice (x : Moment) (whole control : ℕ) : Type 0 where
  pub begun : HasBegunIf x whole control
  pub select : IsSelect begun.at.scene.tree begun.node whole

-- What is known of an `if` with sides that has begun and not ended. It needs scopes; it began in the scope around its sides, and its
-- control tells the value that the operand was there. The side that was entered last is that of its control; and a value that is noted
-- of a side is the one with which that ended.
pub record HasSides (x : Moment) (s : Sides) : Type 0 where
  pub value : ℕ
  pub begun : HasBegunIf x s.whole value
  pub needs : IsSelect begun.at.scene.tree begun.node s.whole → ⊥
  pub scope : begun.at.scene.scope ≡ s.around
  pub tells : Tells x.whole.drawing value s.control
  pub inside : IsInside x.whole.drawing.scopes s.around (Side s.control s.on) s.side
  pub first : (v : ℕ) → s.first ≡ Some v → HasEndedSide x s.whole s.around s.control true v
  pub other : (v : ℕ) → s.other ≡ Some v → HasEndedSide x s.whole s.around s.control false v

-- An `if` that chooses one of two values ends: the two operands that wait last lead to its `select`, and to port 1 of that exactly
-- the value leads that the operand was where this `if` began.
pub record Chosen (control : ℕ) (x : Moment) : Type 0 where
  pub selected : Selected control x
  pub has : HasChoice x x.node control

-- The other side of an `if` is entered: it is gone through behind the node.
pub record EntersOther (x : Moment) (s : Sides) (next : LoweringParts) : Type 0 where
  pub sides : HasSides x s
  pub inside : IsInside x.whole.drawing.scopes s.around (Side s.control false) next.scene.scope

-- An `else` begins: its side is entered, unless its `if` chooses one of two values.
pub data BeginsElse (x : Moment) (next : LoweringParts) : Type 0 where
  choice : (control whole : ℕ) → IsLastFrame x.at (frames.Choice control whole) → HasChoice x whole control → next ≡ x.at → BeginsElse x next
  sides : (s : Sides) → IsLastFrame x.at (frames.Sides s) → EntersOther x s next → BeginsElse x next

-- An `if` with sides ends whose value is wanted: a value waits behind it, the outputs of which are exactly those of the two values with
-- which its first side and its other side ended.
pub record IsJoined (x : Moment) (s : Sides) (next : LoweringParts) : Type 0 where
  pub sides : HasSides x s
  pub of : s.whole ≡ x.node
  pub left : ℕ
  pub right : ℕ
  pub first : HasEndedSide x s.whole s.around s.control true left
  pub other : HasEndedSide x s.whole s.around s.control false right
  pub ones : List Output
  pub others : List Output
  pub has_left : slice_get x.whole.drawing.values left ≡ Some ones
  pub has_right : slice_get x.whole.drawing.values right ≡ Some others
  pub value : ℕ
  pub both : slice_get x.whole.drawing.values value ≡ Some (ones ++ others)
  pub waits : next.operands ≡ x.at.operands ++ (Value value ∷ [])

-- The `if` that ends with the node chooses one of two values, and that waits behind it in the place of the two; or it has sides, and
-- what comes from these waits behind it if it is wanted.
pub data EndsIf (x : Moment) (next : LoweringParts) : Type 0 where
  choice : (control : ℕ) → IsLastFrame x.at (frames.Choice control x.node) → (c : Chosen control x) → next.operands ≡ c.selected.takes.before ++ (Value c.selected.value ∷ []) → EndsIf x next
  sides : (s : Sides) → IsLastFrame x.at (frames.Sides s) → s.whole ≡ x.node → HasSides x s → (IsWanted x.at.scene.tree x.node true → IsJoined x s next) → EndsIf x next

-- at a node of the procedure, before this one, the variable began so
pub record HasBegun (x : Moment) (s : Start) : Type 0 where
  pub node : ℕ
  pub at : LoweringParts
  pub next : LoweringParts
  pub passes : Passes x.first x.begun node at next x.node x.at
  pub begins : Begins node at x.whole s
  pub operand : Operand
  pub from : IsFrom (record x { node = node; at = at }) operand s.value

-- The variable of a loop goes into the turns, which are in the scope that is gone through: exactly the value leads to its `enter` with
-- which it began, and that is what its operand was.
pub record GoesIn (x : Moment) (s : Start) : Type 0 where
  pub begun : HasBegun x s
  pub turn : ℕ
  pub loop : ℕ
  pub inside : IsInside x.whole.drawing.scopes x.at.scene.scope (Turn loop) turn
  pub inner : ℕ
  pub entered : IsEntered x.whole.drawing loop s.value inner

-- Value v is in that scope what the name is: it comes from the value to which that was bound, over exactly the scopes between.
pub record IsOfName (x : Moment) (name scope v : ℕ) : Type 0 where
  pub binding : Binding
  pub named : binding.name ≡ name
  pub bound : IsBound x binding
  pub comes : Comes x.whole.drawing binding.scope binding.value scope v

-- The operand that waits last is the value with which a variable of the innermost loop goes on. The name before it means the
-- variable, and what the loop carries under that has the value in the next turn.
pub record GoesOnWith (x : Moment) : Type 0 where
  pub before : List Operand
  pub name : ℕ
  pub operand : Operand
  pub waited : x.at.operands ≡ before ++ (Atom name ∷ operand ∷ [])
  pub value : ℕ
  pub from : IsFrom x operand value
  pub variable : ℕ
  pub means : slice_get x.at.scene.tree.meanings.now name ≡ Some (Name variable)
  pub turns : Turns
  pub control : Output
  pub block : ℕ
  pub frame : IsLastFrame x.at (frames.Block turns control block)
  pub number : ℕ
  pub enter : ℕ
  pub next : slice_get x.whole.drawing.carried number ≡ Some (a_carried turns.turn variable enter (Some value))

-- The counter of a `for` has that name. Value v is what an `add` gives of what it is in the scope that is gone through and of the
-- constant 1.
pub record IsCountedOn (x : Moment) (name v : ℕ) : Type 0 where
  pub statement : ℕ
  pub stands : IsOfKind x.whole.drawing.statements statement (Binary binary.Add)
  pub sends : slice_get x.whole.drawing.values v ≡ Some (output statement false ∷ [])
  pub value : ℕ
  pub fed : IsFedBy x.whole.drawing.links x.whole.drawing.values statement 1 value
  pub counts : IsOfName x name x.at.scene.scope value
  pub step : ℕ
  pub stepped : IsFedBy x.whole.drawing.links x.whole.drawing.values statement 2 step
  pub one : IsConstant x.whole.drawing x.whole.scene.names.bindings x.at.scene.scope (Int (pos 1)) step

-- Value v was noted for what is carried under that number, at a node of the procedure, before this one: there the variable goes on with
-- the value, in a turn of the same loop.
pub record HasNoted (x : Moment) (number : ℕ) (c : Carried) (v : ℕ) : Type 0 where
  pub node : ℕ
  pub at : LoweringParts
  pub next : LoweringParts
  pub passes : Passes x.first x.begun node at next x.node x.at
  pub is : HasForm at.scene.tree node forms.Next
  pub goes : GoesOnWith (record x { node = node; at = at })
  pub under : goes.number ≡ number
  pub turns : goes.turns.turn ≡ c.turn
  pub name : goes.variable ≡ c.name
  pub value : goes.value ≡ v

-- A variable goes on with value v: with the one that was noted for it, with what the counter of a `for` counts on to, or with what its
-- name is in the block.
pub data IsNextValue (x : Moment) (block whole number : ℕ) (c : Carried) (v : ℕ) : Type 0 where
  noted : c.next ≡ Some v → HasNoted x number c v → IsNextValue x block whole number c v
  counted : c.next ≡ None → HasForm x.at.scene.tree whole forms.For → IsCountedOn x c.name v → IsNextValue x block whole number c v
  kept : c.next ≡ None → IsOfName x c.name block v → IsNextValue x block whole number c v

-- What is carried under that number goes on: exactly the value leads to a `next` of its `enter` with which it goes on.
pub record GoesRoundWith (x : Moment) (block whole number : ℕ) (c : Carried) : Type 0 where
  pub value : ℕ
  pub is : IsNextValue x block whole number c value
  pub next : slice_get x.whole.drawing.carried number ≡ Some (record c { next = Some value })
  pub statement : ℕ
  pub stands : IsNextOf x.whole.drawing.statements statement c.enter
  pub fed : IsFedBy x.whole.drawing.links x.whole.drawing.values statement 1 value

-- so does all that the loop carries whose block ends
abbrev pub AllGoRound : ℕ → Moment → Type 0
AllGoRound whole x = (turns : Turns) (control : Output) (block : ℕ) → IsLastFrame x.at (frames.Block turns control block) → (number : ℕ) (c : Carried) → slice_get x.at.drawing.carried number ≡ Some c → c.turn ≡ turns.turn → GoesRoundWith x block whole number c

-- if the block is that of a loop
abbrev pub RoundsOf : Form → ℕ → Moment → Type 0
RoundsOf forms.Loop whole x = AllGoRound whole x
RoundsOf forms.For whole x = AllGoRound whole x
RoundsOf _ whole x = Unit {0}

-- what a block ends with, by what it is of
pub record ClosesWith (x : Moment) : Type 0 where
  pub whole : ℕ
  pub parent : IsParent x.at.scene.tree whole x.node
  pub form : Form
  pub of : HasForm x.at.scene.tree whole form
  pub rounds : RoundsOf form whole x

-- What leads where at a node of that form, in the whole procedure.
abbrev pub Uses : Form → Moment → Type 0
Uses forms.Or x = Takes (Binary binary.Or) (1 ∷ 2 ∷ []) x
Uses forms.And x = Takes (Binary binary.And) (1 ∷ 2 ∷ []) x
Uses forms.Not x = Takes (Unary unary.Not) (1 ∷ []) x
Uses forms.Less x = Takes (Binary binary.Lt) (1 ∷ 2 ∷ []) x
Uses forms.AtMost x = Takes (Binary binary.Le) (1 ∷ 2 ∷ []) x
Uses forms.Greater x = Takes (Binary binary.Lt) (2 ∷ 1 ∷ []) x
Uses forms.AtLeast x = Takes (Binary binary.Le) (2 ∷ 1 ∷ []) x
Uses forms.Equal x = Takes (Binary binary.Eq) (1 ∷ 2 ∷ []) x
Uses forms.Unequal x = Takes (Binary binary.Eq) (1 ∷ 2 ∷ []) x
Uses forms.Add x = Takes (Binary binary.Add) (1 ∷ 2 ∷ []) x
Uses forms.Subtract x = Takes (Binary binary.Sub) (1 ∷ 2 ∷ []) x
Uses forms.Multiply x = Takes (Binary binary.Mul) (1 ∷ 2 ∷ []) x
Uses forms.Divide x = Takes (Binary binary.Div) (1 ∷ 2 ∷ []) x
Uses forms.Remainder x = Takes (Binary binary.Rem) (1 ∷ 2 ∷ []) x
Uses forms.Negate x = Takes (Binary binary.Sub) (2 ∷ []) x
Uses forms.Array x = Takes Alloc (1 ∷ []) x
Uses forms.Length x = Takes (Unary unary.Length) (1 ∷ []) x
Uses forms.Index x = (IsCellWritten x.at.scene.tree x.node → ⊥) → Takes Fetch (1 ∷ 2 ∷ []) x
Uses forms.Write x = Takes Store (1 ∷ 2 ∷ 3 ∷ []) x
Uses forms.Call x = Called x
Uses forms.If x = (control whole : ℕ) → IsLastFrame x.at (frames.Choice control whole) → Chosen control x
Uses forms.NoItems x = OpensWith x
Uses forms.Variables x = (waiting : ℕ) (limit : Option ℕ) → IsLastFrame x.at (frames.Begun waiting limit) → (s : Start) → IsOf (drop waiting x.at.starts) s → GoesIn x s
Uses forms.Next x = GoesOnWith x
Uses forms.Block x = ClosesWith x
Uses forms.AddProcedure x = Takes End (1 ∷ []) x
Uses _ x = Unit {0}

-- At the node a variable of a loop goes on with a value, and behind it the block of that loop ends.
pub record EndsBehind (t : Tree) (b : BlockParts) (made : IsMadeOfNodes t b) (node : ℕ) (at : LoweringParts) : Type 0 where
  pub is : HasForm t node forms.Next
  pub turns : Turns
  pub control : Output
  pub block : ℕ
  pub frame : IsLastFrame at (frames.Block turns control block)
  pub next : LoweringParts
  pub end : ℕ
  pub there : LoweringParts
  pub passes : Passes made.first made.begun node at next end there
  pub closes : HasForm t end forms.Block
  pub same : IsLastFrame there (frames.Block turns control block)
  pub outer : ℕ
  pub parent : IsParent t outer end
  pub form : Form
  pub of : HasForm t outer form
  pub loop : IsEither form forms.Loop forms.For
  pub behind : LoweringParts
  pub ends : Passes made.first made.begun end there behind made.last made.ended

-- The value with which a variable goes on at the node goes round: exactly that leads to a `next` of the `enter` of the variable.
pub record Arrives (x : Moment) : Type 0 where
  pub goes : GoesOnWith x
  pub statement : ℕ
  pub stands : IsNextOf x.whole.drawing.statements statement goes.enter
  pub fed : IsFedBy x.whole.drawing.links x.whole.drawing.values statement 1 goes.value

-- What is so at a node of an `if`, by its form, where `next` is what is there behind it: where its `else` begins, and where it ends.
abbrev pub JoinsAt : Form → Moment → LoweringParts → Type 0
JoinsAt forms.Otherwise x next = BeginsElse x next
JoinsAt forms.If x next = EndsIf x next
JoinsAt _ x next = Unit {0}

-- Arcs are uses. Of the block, the procedure with its statements, links, scopes and values as they are in the end; and where a node
-- of it takes operands to ports, each is led to by exactly what one value gives: the one that was bound to what a name means that
-- is used there, brought over exactly the scopes between. What comes from two sides of an `if` has the outputs of the values
-- with which these ended, and of no others. The value with which a variable of a loop goes on leads into the next turn, where the block of
-- the loop ends.
pub record ArcsAreUses (t : Tree) (b : BlockParts) : Type 0 where
  pub made : IsMadeOfNodes t b
  pub whole : LoweringParts
  pub name : List ℕ
  pub of : IsBlockOf name whole.drawing b
  pub uses : (node : ℕ) (at next : LoweringParts) (form : Form) → Passes made.first made.begun node at next made.last made.ended → HasForm t node form → Uses form (record { first = made.first; begun = made.begun; node = node; at = at; whole = whole })
  pub joins : (node : ℕ) (at next : LoweringParts) (form : Form) → Passes made.first made.begun node at next made.last made.ended → HasForm t node form → JoinsAt form (record { first = made.first; begun = made.begun; node = node; at = at; whole = whole }) next
  pub round : (node : ℕ) (at : LoweringParts) → EndsBehind t b made node at → Arrives (record { first = made.first; begun = made.begun; node = node; at = at; whole = whole })
  pub end : Uses forms.AddProcedure (record { first = made.first; begun = made.begun; node = made.last; at = made.ended; whole = whole })

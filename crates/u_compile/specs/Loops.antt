-- Loops: the variables with which they begin, the next values of these, and what they give.
use Rattle.std.specs.Prelude.{◌≡◌, ℕ, ◌+◌, ◌<◌, ◌≤◌, pos, false, List, [], ◌∷◌, ◌++◌, length, take, drop, Option, Some, None, slice_get}
use Rattle.u_program.specs.declared.program.Constant.TheVariants.{Int}
use Rattle.u_program.specs.declared.program.Kind.TheVariants.{Binary}
use Rattle.u_value.specs.declared.operators.BinaryOperator.TheVariants.{Add}
use Rattle.u_source.specs.declared.form.Form.TheVariants as forms
use Rattle.u_scope.specs.declared.checked.Meaning.TheVariants.{Name}
use Rattle.u_compile.specs.declared.graph.Output.{Output}
use Rattle.u_compile.specs.declared.drawing.Carried.{Carried}
use Rattle.u_compile.specs.declared.drawing.Scope.{Scope}
use Rattle.u_compile.specs.declared.drawing.Way.TheVariants.{Turn}
use Rattle.u_compile.specs.declared.lowering.Frame.TheVariants as frames
use Rattle.u_compile.specs.declared.lowering.Operand.{Operand}
use Rattle.u_compile.specs.declared.lowering.Operand.TheVariants.{Atom}
use Rattle.u_compile.specs.declared.lowering.Start.{Start}
use Rattle.u_compile.specs.declared.lowering.Turns.{Turns}
use Rattle.u_compile.specs.declared.tree.Tree.{Tree}
use Rattle.u_compile.specs.Scoped.{IsOf}
use Rattle.u_compile.specs.Drawings.{DrawingParts, Gives, Leaves, Carries, SetsNext, with_scope}
use Rattle.u_compile.specs.Namings.{IsNamed, HasConstant, a_binding, with_binding}
use Rattle.u_compile.specs.Trees.{HasForm, IsParent, IsWanted, IsAround, IsGiven, StandsInTest}
use Rattle.u_compile.specs.Operands.{LoweringParts, GoesOn, IsPopped, Pops}
use Rattle.u_compile.specs.Definitions.{PopsName, with_names}
use Rattle.u_compile.specs.Sides.{AddsSide, IsLastFrame, IsFramePopped, in_scope, with_frames}
use Rattle.u_compile.specs.Turns.{TestsCounter, ClosesTurns}

-- the name is bound to the value in that scope from then on
abbrev pub with_bound : LoweringParts → ℕ → ℕ → ℕ → LoweringParts
with_bound l scope name value = with_names l (with_binding l.scene.names (a_binding scope name value))

-- a name waits last, and is taken; it means the name that is known from that node
pub record IsVariableTaken (l m : LoweringParts) (variable : ℕ) : Type 0 where
  pub node : ℕ
  pub taken : IsPopped l m (Atom node)
  pub means : slice_get l.scene.tree.meanings.now node ≡ Some (Name variable)

-- A `next` takes the value of the operand that waits last, and the name before it: that is what the innermost loop, whose block
-- is gone through, carries under what the name means in the next turn.
pub record TakesNext (l m : LoweringParts) : Type 0 where
  pub taken : LoweringParts
  pub value : ℕ
  pub pops : Pops l taken (value ∷ [])
  pub named : LoweringParts
  pub variable : ℕ
  pub name : IsVariableTaken taken named variable
  pub turns : Turns
  pub control : Output
  pub block : ℕ
  pub frame : IsLastFrame named (frames.Block turns control block)
  pub sets : SetsNext turns.turn variable value named.drawing m.drawing
  pub rest : m ≡ record named { drawing = m.drawing }

-- a variable of a loop begins with that value, under the name that is known from the node
pub record Starts (node value : ℕ) (l m : LoweringParts) : Type 0 where
  pub start : Start
  pub name : start.name ≡ node
  pub is : start.value ≡ value
  pub rest : m ≡ record l { starts = l.starts ++ (start ∷ []) }

-- a variable of a loop begins with the value of the operand that waits last, and takes its name before that
pub record StartsVariable (node : ℕ) (l m : LoweringParts) : Type 0 where
  pub taken : LoweringParts
  pub value : ℕ
  pub pops : Pops l taken (value ∷ [])
  pub named : LoweringParts
  pub name : PopsName taken named
  pub starts : Starts node value named m

-- the variables of a loop begin, behind so many others, and it has that limit if it counts
abbrev pub with_begun : LoweringParts → ℕ → Option ℕ → LoweringParts
with_begun l waiting limit = with_frames l (l.frames ++ (frames.Begun waiting limit ∷ []))

-- The counter of a `for` begins with the value of the first of the two operands that wait last, and takes its name before them.
-- The value of the other one is the limit.
pub record StartsCounter (node : ℕ) (l m : LoweringParts) : Type 0 where
  pub taken : LoweringParts
  pub value : ℕ
  pub limit : ℕ
  pub pops : Pops l taken (value ∷ limit ∷ [])
  pub named : LoweringParts
  pub name : PopsName taken named
  pub started : LoweringParts
  pub starts : Starts node value named started
  pub rest : m ≡ with_begun started (length l.starts) (Some limit)

-- the variables of a loop begin; the first of a `for` is its counter
pub data OpensVariables (node : ℕ) (l m : LoweringParts) : Type 0 where
  counting : (whole : ℕ) → IsAround l.scene.tree forms.Loop forms.For whole node → HasForm l.scene.tree whole forms.For → StartsCounter node l m → OpensVariables node l m
  other : (whole : ℕ) → IsAround l.scene.tree forms.Loop forms.For whole node → (HasForm l.scene.tree whole forms.For → ⊥) → m ≡ with_begun l (length l.starts) None → OpensVariables node l m

-- The limit of a `for` is bound in the scope that is gone through, under the node where the variables have begun.
abbrev pub BindsLimit : ℕ → Option ℕ → LoweringParts → LoweringParts → Type 0
BindsLimit node (Some limit) l m = m ≡ with_bound l l.scene.scope node limit
BindsLimit node None l m = m ≡ l

-- one of the variables has that name
abbrev pub HasVariable : List Start → ℕ → Type 0
HasVariable ss name = (s : Start) × IsOf ss s × (s.name ≡ name)

-- the node is a use of the variable of that name in the test of the loop
pub record TestsVariable (t : Tree) (ss : List Start) (loop node name : ℕ) : Type 0 where
  pub means : slice_get t.meanings.now node ≡ Some (Name name)
  pub variable : HasVariable ss name
  pub stands : StandsInTest t loop node

-- none of the nodes from the first on, before the last, is one
abbrev pub TestsNone : Tree → List Start → ℕ → ℕ → ℕ → Type 0
TestsNone t ss loop first last = (node name : ℕ) → first ≤ node → node < last → TestsVariable t ss loop node name → ⊥

-- The clock of the turns of a loop, whose variables have begun at the first node: the first of them that its test uses outside of
-- sides and inner loops, or else the first of them.
pub data IsClock (t : Tree) (ss : List Start) (first loop name : ℕ) : Type 0 where
  tested : (node : ℕ) → first ≤ node → node < loop → TestsVariable t ss loop node name → TestsNone t ss loop first node → IsClock t ss first loop name
  untested : (s : Start) (others : List Start) → TestsNone t ss loop first loop → ss ≡ s ∷ others → s.name ≡ name → IsClock t ss first loop name

-- The scope of the turns of a loop is added, in that scope and with that clock.
pub record AddsTurns (around clock : ℕ) (d e : DrawingParts) (turn : ℕ) : Type 0 where
  pub loop : ℕ
  pub number : turn ≡ length d.scopes
  pub adds : e ≡ with_scope d (record { region = loop; around = around; way = Turn loop; clock = clock })

-- so that it can be entered
pub record OpensTurns (l m : LoweringParts) (around clock turn : ℕ) : Type 0 where
  pub turns : AddsTurns around clock l.drawing m.drawing turn
  pub rest : m ≡ record l { drawing = m.drawing }

-- a loop carries a variable: it begins with its value, and its name is bound in the turns to what the `enter` gives
pub record CarriesStart (turn : ℕ) (s : Start) (l m : LoweringParts) : Type 0 where
  pub inner : ℕ
  pub carries : Carries turn s.name s.value l.drawing m.drawing inner
  pub rest : m ≡ record (with_bound l turn s.name inner) { drawing = m.drawing }

-- it carries each of these, one after another
pub data CarriesEach (turn : ℕ) (l : LoweringParts) : List Start → LoweringParts → Type 0 where
  none : CarriesEach turn l [] l
  one_more : (ss : List Start) (s : Start) (k m : LoweringParts) → CarriesEach turn l ss k → CarriesStart turn s k m → CarriesEach turn l (ss ++ (s ∷ [])) m

-- it carries the variables that have begun behind so many others, which begin no more
pub record CarriesVariables (turn waiting : ℕ) (l m : LoweringParts) : Type 0 where
  pub carried : LoweringParts
  pub each : CarriesEach turn l (drop waiting l.starts) carried
  pub rest : m ≡ record carried { starts = take waiting l.starts }

-- a `for` tests its counter, which is the clock of its turns
abbrev pub TestsLimit : ℕ → ℕ → ℕ → Option ℕ → LoweringParts → LoweringParts → Type 0
TestsLimit turn clock node (Some limit) l m = TestsCounter turn clock node l m
TestsLimit turn clock node None l m = m ≡ l

abbrev pub some_turns : ℕ → ℕ → Turns
some_turns around turn = record { around = around; turn = turn }

-- The variables of a loop have begun: the scope of its turns is added in the one that is gone through, and is gone through from
-- then on; the loop carries each variable into it, and a `for` tests its counter there.
pub record OpensLoop (node : ℕ) (l m : LoweringParts) : Type 0 where
  pub waiting : ℕ
  pub limit : Option ℕ
  pub ended : LoweringParts
  pub frame : IsFramePopped l ended (frames.Begun waiting limit)
  pub whole : ℕ
  pub parent : IsParent l.scene.tree whole node
  pub clock : ℕ
  pub is_clock : IsClock l.scene.tree (drop waiting l.starts) node whole clock
  pub bound : LoweringParts
  pub binds : BindsLimit node limit ended bound
  pub turn : ℕ
  pub turned : DrawingParts
  pub turns : AddsTurns l.scene.scope clock bound.drawing turned turn
  pub carried : LoweringParts
  pub carries : CarriesVariables turn waiting (record bound { drawing = turned }) carried
  pub tested : LoweringParts
  pub tests : TestsLimit turn clock node limit (in_scope carried turn) tested
  pub rest : m ≡ with_frames tested (tested.frames ++ (frames.Test (some_turns l.scene.scope turn) ∷ []))

-- The counter of a `for`, which is the clock of its turns, has in the next turn what an `add` of it and the constant 1 gives in
-- the block.
pub record CountsOn (turn : ℕ) (l m : LoweringParts) : Type 0 where
  pub turns : Scope
  pub is : slice_get l.drawing.scopes turn ≡ Some turns
  pub one : LoweringParts
  pub value : ℕ
  pub goes_on : GoesOn l one
  pub counts : IsNamed one.drawing l.scene.names.bindings l.scene.scope turns.clock value
  pub both : LoweringParts
  pub step : ℕ
  pub goes_further : GoesOn one both
  pub is_one : HasConstant both.drawing one.scene.names one.scene.scope (Int (pos 1)) step
  pub added : DrawingParts
  pub sum : ℕ
  pub gives : Gives both.drawing added (Binary Add) (value ∷ step ∷ []) sum
  pub sets : SetsNext turn turns.clock sum added m.drawing
  pub rest : m ≡ record both { drawing = m.drawing }

-- the counter goes on, if the loop is a `for`
pub data Counts (turn whole : ℕ) (l m : LoweringParts) : Type 0 where
  on : HasForm l.scene.tree whole forms.For → CountsOn turn l m → Counts turn whole l m
  not : (HasForm l.scene.tree whole forms.For → ⊥) → m ≡ l → Counts turn whole l m

-- What is carried under that number has its last value, if it is a variable that this loop gives: what its name is in the scope
-- where the loop ends goes over a `last` and a `leave`, and what that gives is bound to the name around the loop.
pub data ClosesVariable (turns : Turns) (end block whole number : ℕ) (l m : LoweringParts) : Type 0 where
  other : (c : Carried) → slice_get l.drawing.carried number ≡ Some c → (c.turn ≡ turns.turn → ⊥) → m ≡ l → ClosesVariable turns end block whole number l m
  kept : (c : Carried) → slice_get l.drawing.carried number ≡ Some c → c.turn ≡ turns.turn → (IsGiven l.scene.tree block whole c.name → ⊥) → m ≡ l → ClosesVariable turns end block whole number l m
  given : (c : Carried) (between : LoweringParts) (value last : ℕ) → slice_get l.drawing.carried number ≡ Some c → c.turn ≡ turns.turn → IsGiven l.scene.tree block whole c.name → GoesOn l between → IsNamed between.drawing l.scene.names.bindings end c.name value → Leaves between.drawing m.drawing value last → m ≡ record (with_bound between turns.around c.name last) { drawing = m.drawing } → ClosesVariable turns end block whole number l m

-- so do the first so many that are carried, one after another
pub data ClosesEach (turns : Turns) (end block whole : ℕ) (l : LoweringParts) : ℕ → LoweringParts → Type 0 where
  none : ClosesEach turns end block whole l 0 l
  one_more : (number : ℕ) (k m : LoweringParts) → ClosesEach turns end block whole l number k → ClosesVariable turns end block whole number k m → ClosesEach turns end block whole l (number + 1) m

-- The variables have their last values in the side of the test's control where it is false.
pub record ClosesVariables (turns : Turns) (control : Output) (block whole : ℕ) (l m : LoweringParts) : Type 0 where
  pub end : ℕ
  pub ended : DrawingParts
  pub side : AddsSide l.drawing ended turns.turn control false end
  pub each : ClosesEach turns end block whole (record l { drawing = ended }) (length ended.carried) m

-- The block of a loop ends: the counter of a `for` goes on; all that the loop carries goes into the next turn; what it gives
-- comes out of it; and the scope around it is gone through.
pub record ClosesLoop (node whole : ℕ) (l m : LoweringParts) : Type 0 where
  pub turns : Turns
  pub control : Output
  pub block : ℕ
  pub ended : LoweringParts
  pub frame : IsFramePopped l ended (frames.Block turns control block)
  pub counted : LoweringParts
  pub counts : Counts turns.turn whole ended counted
  pub closed : LoweringParts
  pub turn : ClosesTurns turns.turn block counted (length counted.drawing.carried) closed
  pub left : LoweringParts
  pub variables : ClosesVariables turns control node whole closed left
  pub rest : m ≡ in_scope left turns.around

-- a loop gives what nobody wants
pub record GivesInVain (t : Tree) (node : ℕ) : Type 0 where
  pub before : ℕ
  pub right_before : node ≡ before + 1
  pub unwanted : IsWanted t node false
  pub gives : HasForm t before forms.Give

-- A loop ends. What it gives waits on, if somebody wants it.
pub data EndsLoop (node : ℕ) (l m : LoweringParts) : Type 0 where
  let_go : (o : Operand) → GivesInVain l.scene.tree node → IsPopped l m o → EndsLoop node l m
  stays : (GivesInVain l.scene.tree node → ⊥) → m ≡ l → EndsLoop node l m

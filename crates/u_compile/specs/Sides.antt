-- `if`: the scopes of its sides, and the value that comes from one of them.
use Rattle.std.specs.Prelude.{◌≡◌, ℕ, Bool, true, false, List, [], ◌∷◌, ◌++◌, length, Some, None, slice_get}
use Rattle.u_program.specs.declared.program.Kind.TheVariants.{Select}
use Rattle.u_compile.specs.declared.graph.Output.{Output}
use Rattle.u_compile.specs.declared.drawing.Scope.{Scope}
use Rattle.u_compile.specs.declared.drawing.Way.TheVariants.{Side}
use Rattle.u_compile.specs.declared.lowering.Frame.{Frame}
use Rattle.u_compile.specs.declared.lowering.Frame.TheVariants as frames
use Rattle.u_compile.specs.declared.lowering.Operand.TheVariants.{Value}
use Rattle.u_compile.specs.declared.lowering.Sides.{Sides}
use Rattle.u_compile.specs.declared.tree.Tree.{Tree}
use Rattle.u_compile.specs.Trees.{IsParent, IsChoice, IsWanted}
use Rattle.u_compile.specs.Drawings.{DrawingParts, Grows, Chooses, Merges, with_scope}
use Rattle.u_compile.specs.Operands.{LoweringParts, Pops, Pushes, with_operand}

-- Scope s is added: a side of the control in that scope. Its region and its clock are those around it.
pub record AddsSide (d e : DrawingParts) (around : ℕ) (control : Output) (on : Bool) (s : ℕ) : Type 0 where
  pub outer : Scope
  pub is : slice_get d.scopes around ≡ Some outer
  pub number : s ≡ length d.scopes
  pub adds : e ≡ with_scope d (record { region = outer.region; around = around; way = Side control on; clock = outer.clock })

-- a side is entered
pub record OpensSide (l m : LoweringParts) (around : ℕ) (control : Output) (on : Bool) (s : ℕ) : Type 0 where
  pub side : AddsSide l.drawing m.drawing around control on s
  pub rest : m ≡ record l { drawing = m.drawing }

abbrev pub in_scope : LoweringParts → ℕ → LoweringParts
in_scope l s = record l { scene = record l.scene { scope = s } }

abbrev pub with_frames : LoweringParts → List Frame → LoweringParts
with_frames l fs = record l { frames = fs }

-- an `if` that ends with that node, the side of which is gone through where the control is true
abbrev pub some_sides : ℕ → Output → ℕ → ℕ → Sides
some_sides whole control around side = record { whole = whole; control = control; around = around; on = true; side = side; first = None; other = None }

-- so the other side is, where it is false
abbrev pub on_other : Sides → ℕ → Sides
on_other s side = record s { on = false; side = side }

-- and so is noted as the value of the side with that truth value
abbrev pub noted : Bool → ℕ → Sides → Sides
noted true value s = record s { first = Some value }
noted false value s = record s { other = Some value }

-- that began last, and has not ended
abbrev pub IsLastFrame : LoweringParts → Frame → Type 0
IsLastFrame l f = (before : List Frame) × (l.frames ≡ before ++ (f ∷ []))

-- and it ends
abbrev pub IsFramePopped : LoweringParts → LoweringParts → Frame → Type 0
IsFramePopped l m f = (l.frames ≡ m.frames ++ (f ∷ [])) × (m ≡ with_frames l m.frames)

-- The side where the value is true is entered, in the scope that is gone through, of the `if` that ends with that node.
pub record OpensSides (value whole : ℕ) (l m : LoweringParts) : Type 0 where
  pub chosen : DrawingParts
  pub control : Output
  pub chooses : Chooses l.drawing chosen value control
  pub side : ℕ
  pub adds : AddsSide chosen m.drawing l.scene.scope control true side
  pub rest : m ≡ record (in_scope (with_frames l (l.frames ++ (frames.Sides (some_sides whole control l.scene.scope side) ∷ []))) side) { drawing = m.drawing }

-- the `if` needs no scopes: its value is wanted, and both of its sides are just a name or a constant
abbrev pub IsSelect : Tree → ℕ → ℕ → Type 0
IsSelect t first whole = IsChoice t first whole × IsWanted t whole true

-- The first side of an `if` begins at the node. The value of the operand that waits last is what is tested: the side where it is
-- true is entered, or, if the `if` needs no scopes, it is to choose one of two values.
pub data OpensIf (node whole : ℕ) (l m : LoweringParts) : Type 0 where
  choice : IsSelect l.scene.tree node whole → (taken : LoweringParts) (value : ℕ) → Pops l taken (value ∷ []) → m ≡ with_frames taken (taken.frames ++ (frames.Choice value whole ∷ [])) → OpensIf node whole l m
  sides : (IsSelect l.scene.tree node whole → ⊥) → (taken : LoweringParts) (value : ℕ) → Pops l taken (value ∷ []) → OpensSides value whole taken m → OpensIf node whole l m

-- The other side of the `if` that began last is entered, in the scope around the first one.
pub record OpensOther (l m : LoweringParts) : Type 0 where
  pub sides : Sides
  pub ended : LoweringParts
  pub popped : IsFramePopped l ended (frames.Sides sides)
  pub side : ℕ
  pub adds : AddsSide ended.drawing m.drawing sides.around sides.control false side
  pub rest : m ≡ record (in_scope (with_frames ended (ended.frames ++ (frames.Sides (on_other sides side) ∷ []))) side) { drawing = m.drawing }

-- An `else` begins: the other side of the control is entered, or nothing is done if the `if` chooses one of two values.
pub data OpensElse (l m : LoweringParts) : Type 0 where
  choice : (control whole : ℕ) → IsLastFrame l (frames.Choice control whole) → m ≡ l → OpensElse l m
  sides : OpensOther l m → OpensElse l m

-- the `if` that ends with that node chooses one of two values, and began last
abbrev pub IsInChoice : ℕ → LoweringParts → Type 0
IsInChoice whole l = (control : ℕ) × IsLastFrame l (frames.Choice control whole)

-- The sides of the `if` that ends with that node began last, and are taken. The scope that is gone through is that of the side
-- with that truth value.
pub record IsSidePopped (whole : ℕ) (on : Bool) (l m : LoweringParts) (s : Sides) : Type 0 where
  pub popped : IsFramePopped l m (frames.Sides s)
  pub of : s.whole ≡ whole
  pub last : s.on ≡ on
  pub within : s.side ≡ l.scene.scope

-- the sides are there again, and the scope around them is gone through
abbrev pub with_left : LoweringParts → Sides → LoweringParts
with_left l s = in_scope (with_frames l (l.frames ++ (frames.Sides s ∷ []))) s.around

-- The side with that truth value is left. If its value is wanted, that is what the operand that waits last is in that side, and it is
-- noted.
pub data LeavesSide (s : Sides) (on : Bool) (l m : LoweringParts) : Type 0 where
  unwanted : IsWanted l.scene.tree s.whole false → m ≡ with_left l s → LeavesSide s on l m
  wanted : IsWanted l.scene.tree s.whole true → (taken : LoweringParts) (value : ℕ) → Pops l taken (value ∷ []) → m ≡ with_left taken (noted on value s) → LeavesSide s on l m

-- A side ends of the `if` that ends with that node: the first one, where its control is true, or the other.
pub data ClosesSide (whole : ℕ) (on : Bool) (l m : LoweringParts) : Type 0 where
  choice : IsInChoice whole l → m ≡ l → ClosesSide whole on l m
  sides : (s : Sides) (ended : LoweringParts) → IsSidePopped whole on l ended s → LeavesSide s on ended m → ClosesSide whole on l m

-- the other side ends with the `else` that is the node
pub record ClosesElse (node : ℕ) (l m : LoweringParts) : Type 0 where
  pub whole : ℕ
  pub parent : IsParent l.scene.tree whole node
  pub closes : ClosesSide whole false l m

-- a `select` takes the control and the values of the two operands that wait last, the first of them at port 2
pub record Selects (control : ℕ) (l m : LoweringParts) : Type 0 where
  pub taken : LoweringParts
  pub left : ℕ
  pub right : ℕ
  pub pops : Pops l taken (left ∷ right ∷ [])
  pub pushes : Pushes taken m Select (control ∷ left ∷ right ∷ [])

-- the two values become one, which waits
pub record Joins (left right : ℕ) (l m : LoweringParts) : Type 0 where
  pub value : ℕ
  pub merges : Merges l.drawing m.drawing left right value
  pub rest : m ≡ record (with_operand l (Value value)) { drawing = m.drawing }

-- the values that are noted of the two sides do
pub record JoinsSides (s : Sides) (l m : LoweringParts) : Type 0 where
  pub left : ℕ
  pub right : ℕ
  pub first : s.first ≡ Some left
  pub other : s.other ≡ Some right
  pub joins : Joins left right l m

-- its control has a gate
pub record KeepsGate (l m : LoweringParts) : Type 0 where
  pub grows : Grows l.drawing m.drawing
  pub rest : m ≡ record l { drawing = m.drawing }

-- Sides end: what comes from one of them is their value, if that is wanted.
pub data ClosesSides (s : Sides) (l m : LoweringParts) : Type 0 where
  unwanted : IsWanted l.scene.tree s.whole false → KeepsGate l m → ClosesSides s l m
  wanted : IsWanted l.scene.tree s.whole true → (joined : LoweringParts) → JoinsSides s l joined → KeepsGate joined m → ClosesSides s l m

-- an `if` ends with that node, which is the one that began last
pub data ClosesIf (node : ℕ) (l m : LoweringParts) : Type 0 where
  choice : (control : ℕ) (ended : LoweringParts) → IsFramePopped l ended (frames.Choice control node) → Selects control ended m → ClosesIf node l m
  sides : (s : Sides) (ended : LoweringParts) → IsFramePopped l ended (frames.Sides s) → s.whole ≡ node → ClosesSides s ended m → ClosesIf node l m

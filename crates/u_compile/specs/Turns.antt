-- Loops: their turns, and what goes from turn to turn.
use Rattle.std.specs.Prelude.{◌≡◌, ℕ, ◌+◌, true, [], ◌∷◌, ◌++◌, Some, None, slice_get}
use Rattle.u_program.specs.declared.program.Kind.TheVariants.{Binary}
use Rattle.u_value.specs.declared.operators.BinaryOperator.TheVariants.{Lt}
use Rattle.u_compile.specs.declared.graph.Output.{Output}
use Rattle.u_compile.specs.declared.drawing.Carried.{Carried}
use Rattle.u_compile.specs.declared.lowering.Frame.TheVariants as frames
use Rattle.u_compile.specs.declared.lowering.Turns.{Turns}
use Rattle.u_compile.specs.Drawings.{DrawingParts, AddsNext, Chooses}
use Rattle.u_compile.specs.Namings.{IsNamed}
use Rattle.u_compile.specs.Operands.{LoweringParts, GoesOn, Pops, Pushes}
use Rattle.u_compile.specs.Sides.{AddsSide, IsFramePopped, in_scope, with_frames}

-- The block of a loop is entered: the side, in the scope of its turns, where the value is true.
pub record EntersBlock (turns : Turns) (value : ℕ) (l m : LoweringParts) : Type 0 where
  pub chosen : DrawingParts
  pub control : Output
  pub chooses : Chooses l.drawing chosen value control
  pub side : ℕ
  pub adds : AddsSide chosen m.drawing turns.turn control true side
  pub rest : m ≡ record (in_scope (with_frames l (l.frames ++ (frames.Block turns control side ∷ []))) side) { drawing = m.drawing }

-- The test of a loop ends: it is the value of the operand that waits last.
pub record OpensTurn (l m : LoweringParts) : Type 0 where
  pub turns : Turns
  pub ended : LoweringParts
  pub frame : IsFramePopped l ended (frames.Test turns)
  pub taken : LoweringParts
  pub value : ℕ
  pub pops : Pops ended taken (value ∷ [])
  pub enters : EntersBlock turns value taken m

-- A counter is tested: it is to be less than the limit, each as it is in the turns.
pub record TestsCounter (turn counter limit : ℕ) (l m : LoweringParts) : Type 0 where
  pub one : LoweringParts
  pub both : LoweringParts
  pub left : ℕ
  pub right : ℕ
  pub goes_on : GoesOn l one
  pub counts : IsNamed one.drawing l.scene.names.bindings turn counter left
  pub goes_further : GoesOn one both
  pub limits : IsNamed both.drawing one.scene.names.bindings turn limit right
  pub pushes : Pushes both m (Binary Lt) (left ∷ right ∷ [])

-- a `next` of the `enter` of what is carried under that number takes the value
pub record GoesRound (number value : ℕ) (l m : LoweringParts) : Type 0 where
  pub adds : AddsNext l.drawing m.drawing number value
  pub rest : m ≡ record l { drawing = m.drawing }

-- A turn ends for what is carried under that number, if it is of this loop: it goes on with the value that is noted for it, or
-- else with what its name is in the block.
pub data ClosesTurn (turn block number : ℕ) (l m : LoweringParts) : Type 0 where
  other : (c : Carried) → slice_get l.drawing.carried number ≡ Some c → (c.turn ≡ turn → ⊥) → m ≡ l → ClosesTurn turn block number l m
  given : (c : Carried) (value : ℕ) → slice_get l.drawing.carried number ≡ Some c → c.turn ≡ turn → c.next ≡ Some value → GoesRound number value l m → ClosesTurn turn block number l m
  kept : (c : Carried) (value : ℕ) (between : LoweringParts) → slice_get l.drawing.carried number ≡ Some c → c.turn ≡ turn → c.next ≡ None → GoesOn l between → IsNamed between.drawing l.scene.names.bindings block c.name value → GoesRound number value between m → ClosesTurn turn block number l m

-- A turn ends for the first so many that are carried, one after another.
pub data ClosesTurns (turn block : ℕ) (l : LoweringParts) : ℕ → LoweringParts → Type 0 where
  none : ClosesTurns turn block l 0 l
  one_more : (number : ℕ) (k m : LoweringParts) → ClosesTurns turn block l number k → ClosesTurn turn block number k m → ClosesTurns turn block l (number + 1) m

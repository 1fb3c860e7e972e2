-- Sources that are gone through: node by node, from the beginning to the blocks of their procedures.
use Rattle.std.specs.Prelude.{◌≡◌, ℕ, ◌+◌, ◌<◌, ◌≤◌, Bool, true, false, List, [], length}
use Rattle.u_program.specs.Parts.{BlockParts}
use Rattle.u_source.specs.declared.form.Form.{Form}
use Rattle.u_source.specs.declared.form.Form.TheVariants as forms
use Rattle.u_compile.specs.declared.naming.ConstantBinding.{ConstantBinding}
use Rattle.u_compile.specs.declared.tree.Tree.{Tree}
use Rattle.u_compile.specs.Scoped.{IsOf}
use Rattle.u_compile.specs.Drawings.{no_statements}
use Rattle.u_compile.specs.Namings.{IsConstant, nothing_known}
use Rattle.u_compile.specs.Trees.{HasForm}
use Rattle.u_compile.specs.Operands.{LoweringParts, Operates}
use Rattle.u_compile.specs.Bodies.{EndsProcedure}
use Rattle.u_compile.specs.Steps.{IsItem, IsWhole}

-- a node of that form is an atom, a cell, a call or an item
abbrev pub is_item : Form → Bool
is_item forms.Name = true
is_item forms.Number = true
is_item forms.Negative = true
is_item forms.True = true
is_item forms.False = true
is_item forms.NoArguments = true
is_item forms.Index = true
is_item forms.Call = true
is_item forms.Write = true
is_item forms.Statement = true
is_item forms.Define = true
is_item forms.Next = true
is_item _ = false

-- what is done at the node, by its form
pub data IsDone (node : ℕ) (l m : LoweringParts) : Type 0 where
  item : (form : Form) → HasForm l.scene.tree node form → is_item form ≡ true → IsItem form node l m → IsDone node l m
  whole : (form : Form) (between : LoweringParts) → HasForm l.scene.tree node form → is_item form ≡ false → Operates form l between → IsWhole form node between m → IsDone node l m

-- that is done at each node from the first on, one after another, before the last
pub data GoesThrough (first : ℕ) (l : LoweringParts) : ℕ → LoweringParts → Type 0 where
  none : GoesThrough first l first l
  one_more : (node : ℕ) (k m : LoweringParts) → GoesThrough first l node k → IsDone node k m → GoesThrough first l (node + 1) m

-- the beginning of a source: nothing is known, and nothing waits
abbrev pub beginning : Tree → LoweringParts
beginning t = record { scene = record { tree = t; scope = 0; names = nothing_known }; drawing = no_statements 0; operands = []; frames = []; starts = []; blocks = [] }

-- each constant that is noted was made so
abbrev pub AllMade : LoweringParts → Type 0
AllMade l = (c : ConstantBinding) → IsOf l.scene.names.constants c → IsConstant l.drawing l.scene.names.bindings c.scope c.constant c.value

-- a procedure begins: it has no statements, nothing is known of names, and nothing has begun in it
pub record IsFresh (t : Tree) (l : LoweringParts) : Type 0 where
  pub tree : l.scene.tree ≡ t
  pub names : l.scene.names ≡ nothing_known
  pub frames : l.frames ≡ []
  pub starts : l.starts ≡ []
  pub clock : ℕ
  pub drawing : l.drawing ≡ no_statements clock

-- no procedure begins or ends with a node from the first on, before the last
abbrev pub IsWithinOne : Tree → ℕ → ℕ → Type 0
IsWithinOne t first last = (node : ℕ) → node < last → first ≤ node → (HasForm t node forms.NoParameters → ⊥) × (HasForm t node forms.AddProcedure → ⊥)

-- The block is that of a procedure which begins before the first of these nodes, where all nodes before are gone through, is
-- made at them, one after another, and ends with the last. Each constant that was noted was made so.
pub record IsMadeOfNodes (t : Tree) (b : BlockParts) : Type 0 where
  pub first : ℕ
  pub last : ℕ
  pub begun : LoweringParts
  pub reached : GoesThrough 0 (beginning t) first begun
  pub fresh : IsFresh t begun
  pub within : IsWithinOne t first last
  pub ended : LoweringParts
  pub through : GoesThrough first begun last ended
  pub made : AllMade ended
  pub end : HasForm t last forms.AddProcedure
  pub closed : LoweringParts
  pub closes : EndsProcedure ended closed
  pub is : closes.finishes.block ≡ b

-- the blocks are those that are there once so many nodes are gone through from there
pub record AreReached (l : LoweringParts) (nodes : ℕ) (bs : List BlockParts) : Type 0 where
  pub end : LoweringParts
  pub through : GoesThrough 0 l nodes end
  pub are : bs ≡ end.blocks

-- the blocks are those that are there once all nodes of the tree are gone through
abbrev pub AreLowered : Tree → List BlockParts → Type 0
AreLowered t bs = AreReached (beginning t) (length t.nodes.now) bs

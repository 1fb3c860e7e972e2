-- Definitions: what a name is from its definition on.
use Rattle.std.specs.Prelude.{◌≡◌, ℕ, Bool, true, false, [], length}
use Rattle.u_program.specs.declared.program.Constant.{Constant}
use Rattle.u_program.specs.declared.program.Kind.{Kind}
use Rattle.u_compile.specs.declared.lowering.Operand.{Operand}
use Rattle.u_compile.specs.declared.lowering.Operand.TheVariants.{Atom}
use Rattle.u_compile.specs.Drawings.{Gives, IsParameter}
use Rattle.u_compile.specs.Namings.{KnownParts, a_binding, an_alias, with_alias, with_binding}
use Rattle.u_compile.specs.Operands.{LoweringParts, GoesOn, HasNoConstant, IsOperand, IsPopped, IsWritten}

abbrev pub with_names : LoweringParts → KnownParts → LoweringParts
with_names l k = record l { scene = record l.scene { names = k } }

-- a name waits last, and is taken
abbrev pub PopsName : LoweringParts → LoweringParts → Type 0
PopsName l m = (node : ℕ) × IsPopped l m (Atom node)

-- the name that is known from the node is that constant from now on
abbrev pub IsAliased : LoweringParts → LoweringParts → ℕ → Constant → Type 0
IsAliased l m node k = m ≡ with_names l (with_alias l.scene.names (an_alias node k))

-- If the operand is a constant, the name that is known from the node is that from now on; else nothing changes.
pub data DefinesConstant (l m : LoweringParts) (node : ℕ) (o : Operand) (b : Bool) : Type 0 where
  yes : (atom : ℕ) (k : Constant) → b ≡ true → o ≡ Atom atom → IsWritten l.scene.tree l.scene.names.aliases atom k → IsAliased l m node k → DefinesConstant l m node o b
  no : b ≡ false → m ≡ l → HasNoConstant l.scene o → DefinesConstant l m node o b

-- A definition takes the operand that waits last, and its name before it. The name that is known from the node is that
-- constant from now on, or is bound in the scope that is gone through to what the operand is there.
pub data Defines (l m : LoweringParts) (node : ℕ) : Type 0 where
  constant : (taken named : LoweringParts) (atom : ℕ) (k : Constant) → IsPopped l taken (Atom atom) → PopsName taken named → IsWritten named.scene.tree named.scene.names.aliases atom k → IsAliased named m node k → Defines l m node
  value : (taken named resolved : LoweringParts) (o : Operand) (v : ℕ) → IsPopped l taken o → PopsName taken named → HasNoConstant named.scene o → GoesOn named resolved → IsOperand named.scene resolved.drawing o v → m ≡ with_names resolved (with_binding resolved.scene.names (a_binding resolved.scene.scope node v)) → Defines l m node

-- The name that waits last is that of the next parameter, and is bound to it in the procedure's scope.
pub record TakesParameter (l m : LoweringParts) (node : ℕ) : Type 0 where
  pub named : LoweringParts
  pub name : PopsName l named
  pub kind : Kind
  pub is : IsParameter (length named.drawing.statements) kind
  pub value : ℕ
  pub gives : Gives named.drawing m.drawing kind [] value
  pub rest : m ≡ record (with_names named (with_binding named.scene.names (a_binding 0 node value))) { drawing = m.drawing }

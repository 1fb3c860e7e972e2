-- Operands: which values they are where they are used, and the statements that take them.
use Rattle.std.specs.Prelude.{◌≡◌, ℕ, pos, neg_ℤ, true, false, List, [], ◌∷◌, ◌++◌, reverse, Some, slice_get}
use Rattle.u_program.specs.declared.program.Constant.{Constant}
use Rattle.u_program.specs.declared.program.Constant.TheVariants.{Int, Bool, Proc}
use Rattle.u_program.specs.declared.program.Kind.{Kind}
use Rattle.u_program.specs.Parts.{BlockParts}
use Rattle.u_program.specs.declared.program.Kind.TheVariants.{Binary, Unary, Fetch, Store, Alloc}
use Rattle.u_value.specs.declared.operators.BinaryOperator.TheVariants as binary
use Rattle.u_value.specs.declared.operators.UnaryOperator.TheVariants as unary
use Rattle.u_source.specs.declared.form.Form.{Form}
use Rattle.u_source.specs.declared.form.Form.TheVariants as forms
use Rattle.u_source.specs.declared.token.Word.TheVariants as words
use Rattle.u_scope.specs.declared.checked.Meaning.TheVariants.{Name, Procedure}
use Rattle.u_compile.specs.declared.tree.Tree.{Tree}
use Rattle.u_compile.specs.declared.naming.Alias.{Alias}
use Rattle.u_compile.specs.declared.lowering.Operand.{Operand}
use Rattle.u_compile.specs.declared.lowering.Operand.TheVariants.{Atom, Value, Arguments}
use Rattle.u_compile.specs.declared.lowering.Frame.{Frame}
use Rattle.u_compile.specs.declared.lowering.Start.{Start}
use Rattle.u_compile.specs.declared.lowering.Lowering.{Lowering}
use Rattle.u_compile.specs.Scoped.{IsOf}
use Rattle.u_compile.specs.Trees.{HasForm, IsAtWord, IsCellWritten}
use Rattle.u_compile.specs.Drawings.{DrawingParts, Grows, Gives, Calls}
use Rattle.u_compile.specs.Namings.{KnownParts, known, an_alias, HasConstant, HasNoAlias, Learns, IsUsed}

-- Where operands are used: the tree, the scope that is gone through, and what is known of names there.
pub record SceneParts : Type 0 where
  pub tree : Tree
  pub scope : ℕ
  pub names : KnownParts

-- A source that is gone through: where that stands, the procedure, what waits or has begun, the last of it last, and the
-- blocks of the procedures before.
pub record LoweringParts : Type 0 where
  pub scene : SceneParts
  pub drawing : DrawingParts
  pub operands : List Operand
  pub frames : List Frame
  pub starts : List Start
  pub blocks : List BlockParts

abbrev pub scene : Lowering → SceneParts
scene l = record { tree = l.tree.now; scope = l.scope; names = known l.names }

abbrev pub lowering : Lowering → LoweringParts
lowering l = record { scene = scene l; drawing = l.drawing; operands = l.operands.items; frames = l.frames.items; starts = l.starts.items; blocks = l.blocks }

-- The node is that constant: it is written so, or is the name of that procedure, or a name for the constant.
pub data IsWritten (t : Tree) (aliases : List Alias) (node : ℕ) (k : Constant) : Type 0 where
  on_true : HasForm t node forms.True → k ≡ Bool true → IsWritten t aliases node k
  on_false : HasForm t node forms.False → k ≡ Bool false → IsWritten t aliases node k
  number : (n : ℕ) → HasForm t node forms.Number → IsAtWord t node (words.Number n) → k ≡ Int (pos n) → IsWritten t aliases node k
  negative : (n : ℕ) → HasForm t node forms.Negative → IsAtWord t node (words.Number n) → k ≡ Int (neg_ℤ (pos n)) → IsWritten t aliases node k
  procedure : (p : ℕ) (name : List ℕ) → slice_get t.meanings.now node ≡ Some (Procedure p) → IsAtWord t node (words.Name name) → k ≡ Proc name → IsWritten t aliases node k
  alias : (name : ℕ) → slice_get t.meanings.now node ≡ Some (Name name) → IsOf aliases (an_alias name k) → IsWritten t aliases node k

-- the node uses a name that is no name for a constant
pub record IsNoConstant (t : Tree) (aliases : List Alias) (node : ℕ) : Type 0 where
  pub name : ℕ
  pub means : slice_get t.meanings.now node ≡ Some (Name name)
  pub none : HasNoAlias aliases name

-- Value v is what the node is there: the value of the name that it uses, if that is no constant, or the constant that it is.
pub data IsAtom (s : SceneParts) (d : DrawingParts) (node v : ℕ) : Type 0 where
  used : IsNoConstant s.tree s.names.aliases node → IsUsed s.tree.meanings.now d s.names.bindings s.scope node v → IsAtom s d node v
  constant : (k : Constant) → IsWritten s.tree s.names.aliases node k → HasConstant d s.names s.scope k v → IsAtom s d node v

-- the operand is no constant
abbrev pub HasNoConstant : SceneParts → Operand → Type 0
HasNoConstant s (Atom node) = IsNoConstant s.tree s.names.aliases node
HasNoConstant s o = Unit {0}

-- value v is what the operand is there
pub data IsOperand (s : SceneParts) (d : DrawingParts) (o : Operand) (v : ℕ) : Type 0 where
  waiting : o ≡ Value v → IsOperand s d o v
  atom : (node : ℕ) → o ≡ Atom node → IsAtom s d node v → IsOperand s d o v

-- those values are what the operands are, one each
abbrev pub AreOperands : SceneParts → DrawingParts → List Operand → List ℕ → Type 0
AreOperands s d [] [] = Unit {0}
AreOperands s d (o ∷ os) (v ∷ vs) = IsOperand s d o v × AreOperands s d os vs
AreOperands s d os vs = ⊥

-- Statements and values are only added to the procedure, and more is known of names.
pub record GoesOn (l m : LoweringParts) : Type 0 where
  pub grows : Grows l.drawing m.drawing
  pub learns : Learns m.drawing l.scene.names m.scene.names
  pub rest : m ≡ record l { scene = record l.scene { names = m.scene.names }; drawing = m.drawing }

-- that waits last, and is taken
abbrev pub IsPopped : LoweringParts → LoweringParts → Operand → Type 0
IsPopped l m o = (l.operands ≡ m.operands ++ (o ∷ [])) × (m ≡ record l { operands = m.operands })

-- The operands behind the last beginning of arguments are taken with it, the last one first.
abbrev pub ArePopped : LoweringParts → LoweringParts → List Operand → Type 0
ArePopped l m os = (l.operands ≡ m.operands ++ (Arguments ∷ reverse os)) × (m ≡ record l { operands = m.operands })

-- The operands that wait last are taken, and are those values there.
pub record Pops (l m : LoweringParts) (vs : List ℕ) : Type 0 where
  pub operands : List Operand
  pub were : l.operands ≡ m.operands ++ operands
  pub are : AreOperands l.scene m.drawing operands vs
  pub goes_on : GoesOn (record l { operands = m.operands }) m

abbrev pub with_operand : LoweringParts → Operand → LoweringParts
with_operand l o = record l { operands = l.operands ++ (o ∷ []) }

-- A statement of that kind is added, which takes those values, one at each port, and what it gives waits for its use.
pub record Pushes (l m : LoweringParts) (kind : Kind) (inputs : List ℕ) : Type 0 where
  pub value : ℕ
  pub gives : Gives l.drawing m.drawing kind inputs value
  pub rest : m ≡ record (with_operand l (Value value)) { drawing = m.drawing }

-- A statement of that kind takes the value of the operand that waits last, and waits in its place.
pub record TakesOne (kind : Kind) (l m : LoweringParts) : Type 0 where
  pub between : LoweringParts
  pub value : ℕ
  pub pops : Pops l between (value ∷ [])
  pub pushes : Pushes between m kind (value ∷ [])

-- A statement of that kind takes the values of the two operands that wait last, the first of them at port 1.
pub record TakesTwo (kind : Kind) (l m : LoweringParts) : Type 0 where
  pub between : LoweringParts
  pub left : ℕ
  pub right : ℕ
  pub pops : Pops l between (left ∷ right ∷ [])
  pub pushes : Pushes between m kind (left ∷ right ∷ [])

-- so, but the first of them at port 2
pub record TakesSwapped (kind : Kind) (l m : LoweringParts) : Type 0 where
  pub between : LoweringParts
  pub left : ℕ
  pub right : ℕ
  pub pops : Pops l between (left ∷ right ∷ [])
  pub pushes : Pushes between m kind (right ∷ left ∷ [])

-- A number is taken from 0: the value of the operand that waits last stands at port 2.
pub record Negates (l m : LoweringParts) : Type 0 where
  pub between : LoweringParts
  pub after : LoweringParts
  pub value : ℕ
  pub zero : ℕ
  pub pops : Pops l between (value ∷ [])
  pub goes_on : GoesOn between after
  pub is_zero : HasConstant after.drawing between.scene.names between.scene.scope (Int (pos 0)) zero
  pub pushes : Pushes after m (Binary binary.Sub) (zero ∷ value ∷ [])

-- two operands are found unequal
pub record Differs (l m : LoweringParts) : Type 0 where
  pub between : LoweringParts
  pub equal : TakesTwo (Binary binary.Eq) l between
  pub no : TakesOne (Unary unary.Not) between m

-- what a node of that form does to the operands that wait
abbrev pub Operates : Form → LoweringParts → LoweringParts → Type 0
Operates forms.Or l m = TakesTwo (Binary binary.Or) l m
Operates forms.And l m = TakesTwo (Binary binary.And) l m
Operates forms.Less l m = TakesTwo (Binary binary.Lt) l m
Operates forms.AtMost l m = TakesTwo (Binary binary.Le) l m
Operates forms.Greater l m = TakesSwapped (Binary binary.Lt) l m
Operates forms.AtLeast l m = TakesSwapped (Binary binary.Le) l m
Operates forms.Equal l m = TakesTwo (Binary binary.Eq) l m
Operates forms.Unequal l m = Differs l m
Operates forms.Add l m = TakesTwo (Binary binary.Add) l m
Operates forms.Subtract l m = TakesTwo (Binary binary.Sub) l m
Operates forms.Multiply l m = TakesTwo (Binary binary.Mul) l m
Operates forms.Divide l m = TakesTwo (Binary binary.Div) l m
Operates forms.Remainder l m = TakesTwo (Binary binary.Rem) l m
Operates forms.Not l m = TakesOne (Unary unary.Not) l m
Operates forms.Length l m = TakesOne (Unary unary.Length) l m
Operates forms.Array l m = TakesOne Alloc l m
Operates forms.Negate l m = Negates l m
Operates _ l m = m ≡ l

-- The cell that the node is, is read. If it is written, its array and its index wait on.
pub data Reads (node : ℕ) (l m : LoweringParts) : Type 0 where
  waits : IsCellWritten l.scene.tree node → m ≡ l → Reads node l m
  read : (IsCellWritten l.scene.tree node → ⊥) → TakesTwo Fetch l m → Reads node l m

-- a `store` takes the array, the index and the value that wait last
pub record Writes (l m : LoweringParts) : Type 0 where
  pub between : LoweringParts
  pub array : ℕ
  pub index : ℕ
  pub value : ℕ
  pub given : ℕ
  pub pops : Pops l between (array ∷ index ∷ value ∷ [])
  pub gives : Gives between.drawing m.drawing Store (array ∷ index ∷ value ∷ []) given
  pub rest : m ≡ record between { drawing = m.drawing }

-- A call takes what is called and the values of the arguments, which wait last, and what comes back waits in their place.
pub record TakesCall (l m : LoweringParts) : Type 0 where
  pub others : List Operand
  pub callee : Operand
  pub given : List Operand
  pub waited : l.operands ≡ others ++ (callee ∷ Arguments ∷ given)
  pub between : LoweringParts
  pub goes_on : GoesOn (record l { operands = others }) between
  pub procedure : ℕ
  pub arguments : List ℕ
  pub is : IsOperand l.scene between.drawing callee procedure
  pub are : AreOperands l.scene between.drawing given arguments
  pub value : ℕ
  pub calls : Calls between.drawing m.drawing procedure arguments value
  pub rest : m ≡ record (with_operand between (Value value)) { drawing = m.drawing }

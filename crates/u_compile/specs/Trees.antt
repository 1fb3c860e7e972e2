-- Syntax trees: the forms and the words of their nodes, and what stands around them.
use Rattle.std.specs.Prelude.{◌≡◌, ℕ, ◌+◌, ◌-◌, ◌<◌, ◌≤◌, Bool, true, false, ◌⊎◌, Some, length, slice_get}
use Rattle.u_source.specs.declared.form.Form.{Form}
use Rattle.u_source.specs.declared.form.Form.TheVariants as forms
use Rattle.u_source.specs.declared.form.Form.TheVariants.{Write, Loop, For, AddVariable, NoVariables}
use Rattle.u_source.specs.declared.form.Node.{Node}
use Rattle.u_source.specs.declared.token.Word.{Word}
use Rattle.u_source.specs.Tokens.{TokenParts}
use Rattle.u_scope.specs.declared.checked.Meaning.TheVariants.{Name}
use Rattle.u_compile.specs.declared.tree.Tree.{Tree}

-- the node has that form
abbrev pub HasForm : Tree → ℕ → Form → Type 0
HasForm t node form = (n : Node) × (slice_get t.nodes.now node ≡ Some n) × (n.form ≡ form)

-- the node stands at a token that is that word
abbrev pub IsAtWord : Tree → ℕ → Word → Type 0
IsAtWord t node w = (n : Node) × (y : TokenParts) × (slice_get t.nodes.now node ≡ Some n) × (slice_get t.tokens.now n.token ≡ Some y) × (y.word ≡ w)

-- the one node is the parent of the other; the root is its own
abbrev pub IsParent : Tree → ℕ → ℕ → Type 0
IsParent t parent node = slice_get t.parents.items node ≡ Some parent

-- the node is a cell that is written: the first child of a write
abbrev pub IsCellWritten : Tree → ℕ → Type 0
IsCellWritten t node = (parent : ℕ) × IsParent t parent node × HasForm t parent Write × (node + 1 ≡ parent → ⊥)

-- whether the value of the node is wanted, if it is an `if`, a loop or a block
abbrev pub IsWanted : Tree → ℕ → Bool → Type 0
IsWanted t node wanted = (node < length t.nodes.now) × (slice_get t.wanted.items (length t.nodes.now - 1 - node) ≡ Some wanted)

-- the form is the one or the other
abbrev pub IsEither : Form → Form → Form → Type 0
IsEither form one other = (form ≡ one) ⊎ (form ≡ other)

-- the first node around that one which has the one form or the other
pub data IsAround (t : Tree) (one other : Form) (outer : ℕ) : ℕ → Type 0 where
  parent : (node : ℕ) (form : Form) → IsParent t outer node → HasForm t outer form → IsEither form one other → IsAround t one other outer node
  beyond : (node between : ℕ) (form : Form) → IsParent t between node → HasForm t between form → (IsEither form one other → ⊥) → IsAround t one other outer between → IsAround t one other outer node

-- the name that is known from the node is a variable of that loop
pub record IsVariable (t : Tree) (loop node : ℕ) : Type 0 where
  pub form : Form
  pub has : HasForm t node form
  pub is : IsEither form AddVariable NoVariables
  pub around : IsAround t Loop For loop node

-- a node from the first on, before the last, uses the name
pub record IsUsedFrom (t : Tree) (first last name : ℕ) : Type 0 where
  pub node : ℕ
  pub behind : first ≤ node
  pub before : node < last
  pub means : slice_get t.meanings.now node ≡ Some (Name name)

-- A loop gives what one of its variables is in the end: a node behind its block uses the name, and the name is that of the
-- variable.
pub record IsGiven (t : Tree) (block loop name : ℕ) : Type 0 where
  pub variable : IsVariable t loop name
  pub used : IsUsedFrom t block loop name

-- a node of that form is a name or a constant
abbrev pub is_atom : Form → Bool
is_atom forms.Name = true
is_atom forms.Number = true
is_atom forms.Negative = true
is_atom forms.True = true
is_atom forms.False = true
is_atom _ = false

abbrev pub IsAtomAt : Tree → ℕ → Type 0
IsAtomAt t node = (form : Form) × HasForm t node form × (is_atom form ≡ true)

-- the block whose items begin at the node is just a name or a constant
pub record IsJustAtom (t : Tree) (first : ℕ) : Type 0 where
  pub items : HasForm t first forms.NoItems
  pub atom : IsAtomAt t (first + 1)
  pub value : HasForm t (first + 2) forms.AddValue
  pub block : HasForm t (first + 3) forms.Block

-- Both sides of the `if` are just a name or a constant: it ends with that node, and its first side begins at the other.
pub record IsChoice (t : Tree) (first whole : ℕ) : Type 0 where
  pub one : IsJustAtom t first
  pub otherwise : HasForm t (first + 4) forms.Otherwise
  pub other : IsJustAtom t (first + 5)
  pub ends : HasForm t (first + 9) forms.Else
  pub is : whole ≡ first + 10

-- what stands below a node of that form is no part of the test of the loop around it: it is in a side, in an inner loop, or in
-- what a loop gives
abbrev pub is_apart : Form → Bool
is_apart forms.Block = true
is_apart forms.Else = true
is_apart forms.Loop = true
is_apart forms.For = true
is_apart forms.Give = true
is_apart _ = false

-- the node stands in the test of the loop, outside of sides and inner loops
pub data StandsInTest (t : Tree) (loop : ℕ) : ℕ → Type 0 where
  below : (node : ℕ) → IsParent t loop node → StandsInTest t loop node
  further : (node between : ℕ) (form : Form) → IsParent t between node → HasForm t between form → is_apart form ≡ false → StandsInTest t loop between → StandsInTest t loop node

-- The nodes of a tree: which node is the parent of which, and whose values are wanted.
use Rattle.std.specs.Prelude.{◌≡◌, ℕ, zero, ◌+◌, ◌-◌, ◌<◌, ◌≤◌, Bool, true, false, List, [], ◌∷◌, ◌++◌, length, Some, slice_get}
use Rattle.u_source.specs.declared.form.Form.{Form}
use Rattle.u_source.specs.declared.form.Form.TheVariants as forms
use Rattle.u_source.specs.declared.form.Node.{Node}
use Rattle.u_source.specs.Trees.{children}
use Rattle.u_compile.specs.Scoped.{IsOf}

-- The roots once so many of the nodes are there, the last one last: those that are nobody's child yet. A node has as its children
-- the last roots before it, as many as a node of its form has, and is the parent of these.
pub data AreRoots (ns : List Node) (ps : List ℕ) : ℕ → List ℕ → Type 0 where
  none : AreRoots ns ps zero []
  one_more : (n : ℕ) (x : Node) (roots taken : List ℕ) → AreRoots ns ps n (roots ++ taken) → slice_get ns n ≡ Some x → length taken ≡ length (children x.form) → ((c : ℕ) → IsOf taken c → slice_get ps c ≡ Some n) → AreRoots ns ps (n + 1) (roots ++ (n ∷ []))

-- The last roots, so many of them, become the children of node n: that is their parent from then on, and others keep theirs.
pub record Adopts (n count : ℕ) (ps roots qs left : List ℕ) : Type 0 where
  pub taken : List ℕ
  pub were : roots ≡ left ++ taken
  pub many : length taken ≡ count
  pub same : length qs ≡ length ps
  pub sets : (c : ℕ) → IsOf taken c → slice_get qs c ≡ Some n
  pub others : (c p : ℕ) → (IsOf taken c → ⊥) → slice_get ps c ≡ Some p → slice_get qs c ≡ Some p

-- each node has its parent, and what is nobody's child has itself
pub record AreParents (ns : List Node) (ps : List ℕ) : Type 0 where
  pub many : length ps ≡ length ns
  pub roots : List ℕ
  pub are : AreRoots ns ps (length ns) roots
  pub own : (r : ℕ) → IsOf roots r → slice_get ps r ≡ Some r

-- Whether the value of a node is wanted, if it is an `if`, a loop or a block, by its form and that of its parent, where the value of
-- the parent is wanted or not.
abbrev pub wanted_below : Form → Form → Bool → Bool
wanted_below one forms.AddItem wanted = false
wanted_below forms.Block forms.Loop wanted = false
wanted_below forms.Block forms.For wanted = false
wanted_below one forms.AddValue wanted = wanted
wanted_below one forms.Else wanted = wanted
wanted_below one forms.Block wanted = wanted
wanted_below forms.Block forms.If wanted = wanted
wanted_below forms.Else forms.If wanted = wanted
wanted_below one above wanted = true

-- It is so of the node, where the list says it of each node from the last one on. The value of what has no parent behind it is wanted.
pub record IsWantedBy (ns : List Node) (ps : List ℕ) (ws : List Bool) (n : ℕ) (b : Bool) : Type 0 where
  pub node : Node
  pub is : slice_get ns n ≡ Some node
  pub parent : ℕ
  pub below : slice_get ps n ≡ Some parent
  pub above : Node
  pub there : slice_get ns parent ≡ Some above
  pub inner : (w : Bool) → n < parent → slice_get ws (length ns - 1 - parent) ≡ Some w → b ≡ wanted_below node.form above.form w
  pub root : parent ≤ n → b ≡ wanted_below node.form above.form true

-- it is so of each
pub record AreWanted (ns : List Node) (ps : List ℕ) (ws : List Bool) : Type 0 where
  pub many : length ws ≡ length ns
  pub each : (n : ℕ) (b : Bool) → n < length ns → slice_get ws (length ns - 1 - n) ≡ Some b → IsWantedBy ns ps ws n b

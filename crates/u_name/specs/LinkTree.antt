-- The tree that a context is, by what it is made of, and what stands beside that.
use Rattle.std.specs.Prelude.{◌≡◌, ℕ, List}
use Rattle.u_name.specs.declared.context.Link.{Link}
use Rattle.u_name.specs.declared.context.Link.TheVariants as links
use Rattle.u_name.specs.declared.context.Inner.{Inner}
use Rattle.u_name.specs.declared.context.Linkage.{Linkage}
use Rattle.u_name.specs.declared.context.Linkage.TheVariants.{Loop, Call}
use Rattle.u_name.specs.declared.context.Node.{Node}
use Rattle.u_name.specs.declared.context.Node.TheVariants as nodes
use Rattle.u_name.specs.Context.{Tree, Top, InLoop, InCall, depth}
use Rattle.u_name.specs.Path.{path}
use Rattle.u_name.specs.Digest.{digest}
use Rattle.u_name.specs.Greatest.{greatest_turn}

-- what a loop or a call makes in an outer context
abbrev pub tree_by : Linkage → Tree → List ℕ → ℕ → Tree
tree_by (Loop number) outer block initiation = InLoop outer block number initiation
tree_by (Call statement) outer block initiation = InCall outer block statement initiation

abbrev pub inner_tree : Inner → Tree
inner_tree i = tree_by i.linkage i.outer i.block i.initiation

abbrev pub tree_of : Link → Tree
tree_of links.Root = Top
tree_of (links.Inner i) = inner_tree i.value

abbrev pub node_tree : Node → Tree
node_tree nodes.Root = Top
node_tree (nodes.Loop outer block number initiation) = InLoop outer.now block.now number initiation
node_tree (nodes.Call outer block statement initiation) = InCall outer.now block.now statement initiation

-- beside the parts of a context stand its own depth, path, digest and greatest initiation
pub record IsBeside (inner : Inner) : Type 0 where
  pub depth : inner.depth ≡ depth (inner_tree inner)
  pub path : inner.path.items ≡ path (inner_tree inner)
  pub digest : inner.digest ≡ digest (inner_tree inner)
  pub greatest : inner.greatest ≡ greatest_turn (inner_tree inner)

abbrev pub IsFollowed : Link → Type 0
IsFollowed links.Root = Unit {0}
IsFollowed (links.Inner i) = IsBeside i.value

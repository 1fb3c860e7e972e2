-- A law that stands here because the model of Context cites it: a link lies no deeper than its tree is deep.
use Rattle.std.specs.Prelude.{◌≡◌, ℕ, ◌+◌, ◌≤◌, max, List, refl}
use Rattle.std.proofs.Common.{arith}
use Rattle.u_name.specs.declared.context.Link.{Link}
use Rattle.u_name.specs.declared.context.Link.TheVariants as links
use Rattle.u_name.specs.declared.context.Linkage.{Linkage}
use Rattle.u_name.specs.declared.context.Linkage.TheVariants.{Loop, Call}
use Rattle.u_name.specs.declared.context.Context.TheDeep.{deep-Link}
use Rattle.u_name.specs.Context.{Tree, depth}
use Rattle.u_name.specs.LinkTree.{tree_by, tree_of}

one_deeper : (s : Linkage) (outer : Tree) (block : List ℕ) (initiation : ℕ) → depth (tree_by s outer block initiation) ≡ depth outer + 1
one_deeper (Loop number) outer block initiation = refl
one_deeper (Call statement) outer block initiation = refl

pub deep-le-depth : (l : Link) → max (deep-Link l) 0 ≤ depth (tree_of l)
deep-le-depth links.Root = omega arith
deep-le-depth (links.Inner i) = let h = one_deeper i.value.linkage i.value.outer i.value.block i.value.initiation in omega arith

-- What the blocks of a source are made of.
use Rattle.std.specs.Prelude.{◌≡◌, List}
use Rattle.u_program.specs.Parts.{BlockParts}
use Rattle.u_source.specs.Sources.{SourceParts}
use Rattle.u_scope.specs.declared.checked.Meaning.{Meaning}
use Rattle.u_compile.specs.declared.tree.Tree.{Tree}
use Rattle.u_compile.specs.Scoped.{IsOf}
use Rattle.u_compile.specs.Forests.{AreParents, AreWanted}
use Rattle.u_compile.specs.Walks.{AreLowered, IsMadeOfNodes}
use Rattle.u_compile.specs.Uses.{ArcsAreUses}

-- The tree is that of the source, and its names mean this. What it notes of what stands around its nodes, and of wanted values, is so.
pub record IsTreeOf (s : SourceParts) (ms : List Meaning) (t : Tree) : Type 0 where
  pub tokens : t.tokens.now ≡ s.tokens
  pub nodes : t.nodes.now ≡ s.nodes
  pub meanings : t.meanings.now ≡ ms
  pub parents : AreParents s.nodes t.parents.items
  pub wanted : AreWanted s.nodes t.parents.items t.wanted.items

-- The blocks are made of the source: of its tree, whose names mean this. Each is made of the nodes of a procedure, and its arcs are
-- uses.
pub record AreMadeOf (s : SourceParts) (ms : List Meaning) (bs : List BlockParts) : Type 0 where
  pub tree : Tree
  pub of : IsTreeOf s ms tree
  pub lowered : AreLowered tree bs
  pub each : (b : BlockParts) → IsOf bs b → IsMadeOfNodes tree b
  pub arcs : (b : BlockParts) → IsOf bs b → ArcsAreUses tree b

-- The picture of a program.
use Rattle.std.specs.Prelude.{ℕ, List, [], ◌∷◌, ◌++◌, codes}
use Rattle.std.specs.List.{flat_map}
use Rattle.u_program.specs.declared.program.Version.{Version}
use Rattle.u_program.specs.Parts.{StatementParts, BlockParts}
use Rattle.u_program.specs.Text.{statement_line}
use Rattle.u_compile.specs.declared.origins.BlockOrigins.{BlockOrigins}
use Rattle.u_compile.specs.Places.{place_of}
use Rattle.u_pictures.specs.Dot.{Attribute, attribute, Shown, Node, numbered}
use Rattle.u_pictures.specs.ProgramNames.{statement_name}
use Rattle.u_pictures.specs.Styles.{fill, label}
use Rattle.u_pictures.specs.Clusters.{around, the_block, the_loop}
use Rattle.u_pictures.specs.Arcs.{the_arcs}

-- a statement's line, and its place
abbrev pub statement_tip : List BlockOrigins → Version → List ℕ → ℕ → StatementParts → List ℕ
statement_tip origins version block n s = statement_line version n s ++ place_of origins block n

-- its name as an id, and its line and its place as a tooltip
abbrev pub statement_attributes : List BlockOrigins → Version → List ℕ → ℕ → StatementParts → List Attribute
statement_attributes origins version block n s =
    attribute (codes "id") (statement_name block n)
    ∷ attribute (codes "tooltip") (statement_tip origins version block n s)
    ∷ attribute (codes "label") (label version n s.kind)
    ∷ attribute (codes "fillcolor") (fill s.kind) ∷ []

-- a statement's node, within the clusters of its region
abbrev pub the_node : List BlockOrigins → Version → BlockParts → ℕ → StatementParts → Shown
the_node origins version b n s =
    Node (around b.name b.loops s.region) (statement_name b.name n)
    (statement_attributes origins version b.name n s)

-- a block: its cluster and those of its loops, its statements in the order of the text, and their arcs
unfoldable pub block_picture : List BlockOrigins → Version → BlockParts → List Shown
block_picture origins version b =
    the_block b
    ∷ (numbered (the_loop b) 1 b.loops
    ++ (numbered (the_node origins version b) 1 b.statements ++ the_arcs b 1 b.statements))

abbrev pub picture : List BlockOrigins → Version → List BlockParts → List Shown
picture origins version blocks = flat_map (block_picture origins version) blocks

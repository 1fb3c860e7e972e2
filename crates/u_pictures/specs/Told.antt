-- What the tooltips of a picture say.
use Rattle.std.specs.Prelude.{ℕ, suc, ◌==◌, if◌then◌else◌, List, [], ◌∷◌, ◌++◌, codes}
use Rattle.std.specs.List.{flat_map}
use lib.Pointwise.{pointwise}
use Rattle.u_program.specs.declared.program.Version.{Version}
use Rattle.u_program.specs.Parts.{StatementParts, BlockParts}
use Rattle.u_program.specs.Text.{block_line, loop_lines}
use Rattle.u_compile.specs.declared.origins.BlockOrigins.{BlockOrigins}
use Rattle.u_pictures.specs.Dot.{Attribute, Shown, Cluster, Node, Arc}
use Rattle.u_pictures.specs.ProgramPicture.{statement_tip}

-- the tooltips among some attributes
abbrev pub tooltips : List Attribute → List (List ℕ)
tooltips [] = []
tooltips (a ∷ list) =
    (if pointwise ◌==◌ a.key (codes "tooltip") then a.value ∷ [] else []) ++ tooltips list

-- those of the clusters and nodes of a picture, in its order
abbrev pub told : List Shown → List (List ℕ)
told [] = []
told (Cluster names list ∷ ss) = tooltips list ++ told ss
told (Node names name list ∷ ss) = tooltips list ++ told ss
told (Arc from to list ∷ ss) = told ss

-- the lines of a block's statements, the first of which has this number, each with its place
abbrev pub statement_tips : List BlockOrigins → Version → List ℕ → ℕ → List StatementParts → List (List ℕ)
statement_tips origins version block n [] = []
statement_tips origins version block n (s ∷ ss) =
    statement_tip origins version block n s ∷ statement_tips origins version block (suc n) ss

-- the lines of a program after the first, those of statements with their places
abbrev pub tips : List BlockOrigins → Version → List BlockParts → List (List ℕ)
tips origins version blocks =
    flat_map
    (λ b. block_line b.name ∷ (loop_lines 1 b.loops ++ statement_tips origins version b.name 1 b.statements))
    blocks

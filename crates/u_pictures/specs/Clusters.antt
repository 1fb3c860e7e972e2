-- The clusters of a block: its own, and one for each of its loops, within one another as the loops are.
use Rattle.std.specs.Prelude.{ℕ, zero, suc, ◌-◌, ◌==◌, if◌then◌else◌, List, [], ◌∷◌, ◌++◌, map, Option, Some, None, codes}
use Rattle.std.specs.List.{slice_get}
use Rattle.std.specs.Fmt.{decimal}
use Rattle.u_program.specs.Parts.{BlockParts}
use Rattle.u_program.specs.Text.{block_line, loop_line}
use Rattle.u_pictures.specs.Dot.{Attribute, attribute, Shown, Cluster}
use Rattle.u_pictures.specs.ProgramNames.{block_cluster, loop_cluster}
use Rattle.u_pictures.specs.Styles.{block_style, loop_style}

abbrev pub number_or_zero : Option ℕ → ℕ
number_or_zero None = 0
number_or_zero (Some n) = n

-- the region that holds the loop of that number, 0 if there is no such loop
unfoldable pub holder : List ℕ → ℕ → ℕ
holder loops n = if n == 0 then 0 else number_or_zero (slice_get loops (n - 1))

-- the loops around a region, outermost first and its own last, at most so many
abbrev pub nest : ℕ → List ℕ → ℕ → List ℕ
nest zero loops region = []
nest (suc depth) loops zero = []
nest (suc depth) loops (suc r) = nest depth loops (holder loops (suc r)) ++ (suc r ∷ [])

-- the clusters around a region; a block has 99 loops at most
unfoldable pub around : List ℕ → List ℕ → ℕ → List (List ℕ)
around block loops region = block_cluster block ∷ map (loop_cluster block) (nest 99 loops region)

-- its line as its label, and as a tooltip
abbrev pub block_attributes : List ℕ → List Attribute
block_attributes block =
    attribute (codes "label") (block_line block)
    ∷ attribute (codes "tooltip") (block_line block) ∷ block_style

abbrev pub loop_label : ℕ → List ℕ
loop_label number = codes "loop " ++ decimal number

-- `loop NUMBER` as its label, and its line as a tooltip
abbrev pub loop_attributes : ℕ → ℕ → List Attribute
loop_attributes number held_by =
    attribute (codes "label") (loop_label number)
    ∷ attribute (codes "tooltip") (loop_line number held_by) ∷ loop_style

-- the cluster of the block
abbrev pub the_block : BlockParts → Shown
the_block b = Cluster (around b.name b.loops 0) (block_attributes b.name)

-- the cluster of its loop of that number, which this region holds
abbrev pub the_loop : BlockParts → ℕ → ℕ → Shown
the_loop b number held_by =
    Cluster (around b.name b.loops number) (loop_attributes number held_by)

-- The names of nodes and clusters.
use Rattle.std.specs.Prelude.{ℕ, List, ◌∷◌, ◌++◌, map, codes}
use Rattle.std.specs.Fmt.{decimal}
use Rattle.u_base.specs.Spaced.{spaced}
use Rattle.u_program.specs.declared.program.Destination.{Destination}
use Rattle.u_program.specs.Text.{destination_word}

-- `BLOCK.NUMBER`
abbrev pub statement_name : List ℕ → ℕ → List ℕ
statement_name block number = block ++ (46 ∷ decimal number)

-- the point of a list: `BLOCK DESTINATION..`
abbrev pub point_name : List ℕ → List Destination → List ℕ
point_name block to = block ++ spaced (map destination_word to)

-- `cluster_BLOCK`
abbrev pub block_cluster : List ℕ → List ℕ
block_cluster block = codes "cluster_" ++ block

-- `cluster_BLOCK.LNUMBER`
abbrev pub loop_cluster : List ℕ → ℕ → List ℕ
loop_cluster block number = block_cluster block ++ (codes ".L" ++ decimal number)

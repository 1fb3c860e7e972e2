-- The texts of checkpoints.
use Rattle.std.specs.Prelude.{ℕ, List, [], ◌∷◌, ◌++◌, length, map, codes}
use Rattle.std.specs.Fmt.{decimal}
use Rattle.u_base.specs.Spaced.{ended}
use Rattle.u_program.specs.declared.program.Version.{Version}
use Rattle.u_program.specs.declared.program.Version.TheVariants as versions
use Rattle.u_rule.specs.declared.firing.Firing.{Firing}
use Rattle.u_rule.specs.FiringText.{firing_text}

-- the head of a checkpoint says the version of the job's program
abbrev pub first_line : Version → List ℕ
first_line versions.One = codes "u-history 1"
first_line versions.Two = codes "u-history 2"

-- `end COUNT`
abbrev pub count_line : ℕ → List ℕ
count_line count = codes "end " ++ decimal count

-- the first line, and one line for each firing
abbrev pub begun_lines : Version → List Firing → List (List ℕ)
begun_lines version fs = first_line version ∷ map firing_text fs

-- these, and the line that counts the firings
abbrev pub checkpoint_lines : Version → List Firing → List (List ℕ)
checkpoint_lines version fs = begun_lines version fs ++ (count_line (length fs) ∷ [])

-- the lines, each with a newline behind it
unfoldable pub checkpoint_text : Version → List Firing → List ℕ
checkpoint_text version fs = ended (checkpoint_lines version fs)

-- Which fault a line has that may not stand behind the lines that were read.
use Rattle.std.specs.Prelude.{List, ℕ, ◌++◌, ◌∷◌, []}
use Rattle.u_program.specs.declared.part.LineFault.{LineFault}
use Rattle.u_program.specs.declared.part.LineFault.TheVariants.{Bad, TooMany, NoMemory}
use Rattle.u_program.specs.FirstBad.{Begins}
use Rattle.u_program.specs.Limits.{limits_of, no_limits}

-- why the line may not go on behind these lines
abbrev pub IsLineFault : LineFault → List (List ℕ) → List ℕ → Type 0
IsLineFault Bad before line = Begins no_limits (before ++ (line ∷ [])) → ⊥
IsLineFault TooMany before line = Begins no_limits (before ++ (line ∷ [])) × (Begins limits_of (before ++ (line ∷ [])) → ⊥)
IsLineFault NoMemory before line = Unit {0}

-- Which line of a text is the first that is not allowed, and why.
use Rattle.std.specs.Prelude.{◌≡◌, ℕ, suc, List, [], ◌∷◌, ◌++◌, length}
use Rattle.u_base.specs.Pieces.{lines}
use Rattle.u_program.specs.declared.program.Version.{Version}
use Rattle.u_program.specs.Parts.{BlockParts, ProgramParts}
use Rattle.u_program.specs.Limits.{Limits, IsProgram, limits_of, no_limits}
use Rattle.u_program.specs.Text.{program_lines, program_text}

-- some program within the limits of its version begins with these lines
pub record Begins (limits : Version → Limits) (ls : List (List ℕ)) : Type 0 where
  pub version : Version
  pub program : List BlockParts
  pub more : List (List ℕ)
  pub valid : IsProgram (limits version) program
  pub there : program_lines version program ≡ ls ++ more

-- Line n, which ends with a newline, is the first that is not allowed: the lines before it begin a program,
-- with it they do not, and the verdict holds of them.
pub record IsFirstBad (bytes : List ℕ) (n : ℕ) (Verdict : List (List ℕ) → Type 0) : Type 0 where
  pub before : List (List ℕ)
  pub line : List ℕ
  pub others : List (List ℕ)
  pub there : lines bytes ≡ before ++ (line ∷ others)
  pub number : n ≡ suc (length before)
  pub allowed : Begins limits_of before
  pub refused : Begins limits_of (before ++ (line ∷ [])) → ⊥
  pub verdict : Verdict (before ++ (line ∷ []))

-- with it they begin none, were there no limits on numbers of parts
abbrev pub IsBadLine : List ℕ → ℕ → Type 0
IsBadLine bytes n = IsFirstBad bytes n (λ ls. Begins no_limits ls → ⊥)

-- with it they begin one, were there no limits on numbers of parts
abbrev pub IsTooMany : List ℕ → ℕ → Type 0
IsTooMany bytes n = IsFirstBad bytes n (λ ls. Begins no_limits ls)

-- Each line that ends with a newline is allowed, and the text is no program's.
pub record IsTruncated (bytes : List ℕ) : Type 0 where
  pub allowed : Begins limits_of (lines bytes)
  pub none : (p : ProgramParts) → IsProgram (limits_of p.version) p.blocks → bytes ≡ program_text p.version p.blocks → ⊥

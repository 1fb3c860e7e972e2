-- Texts of lines, for any sort of document: which line is the first that is too long or not allowed.
-- A text is given by its pieces: its lines that end with a newline, and what stands behind them.
use Rattle.std.specs.Prelude.{◌≡◌, ℕ, suc, ◌≤◌, ◌<◌, ◌⊎◌, List, [], ◌∷◌, ◌++◌, length}
use Rattle.std.specs.List.{AllByRecursion}
use Rattle.u_base.specs.Pieces.{PiecesAndRest, pieces, IsCutInto}

-- a line has at most 32768 bytes
abbrev pub IsShort : List ℕ → Type 0
IsShort line = length line ≤ 32768

abbrev pub IsLong : List ℕ → Type 0
IsLong line = 32768 < length line

-- the lines of the bytes, behind these ones
abbrev pub lines_behind : List (List ℕ) → List ℕ → PiecesAndRest
lines_behind ls rest = (ls ++ (pieces 10 rest).0, (pieces 10 rest).1)

-- the first line of the bytes ends with a newline and is short, and this stands behind it
abbrev pub IsLineAhead : List ℕ → List ℕ → List ℕ → Type 0
IsLineAhead bytes line rest = IsCutInto 10 bytes line rest × IsShort line

-- no newline stands in the bytes, and they are few
abbrev pub IsRestAhead : List ℕ → Type 0
IsRestAhead bytes = (pieces 10 bytes ≡ ([], bytes)) × IsShort bytes

-- the first line of the bytes is long, whether it ends with a newline or not
abbrev pub IsLongAhead : List ℕ → Type 0
IsLongAhead bytes = ((line : List ℕ) × (rest : List ℕ) × IsCutInto 10 bytes line rest × IsLong line) ⊎ ((pieces 10 bytes ≡ ([], bytes)) × IsLong bytes)

-- this line, which ends with a newline, stands behind these lines
pub record StandsBehind (text : PiecesAndRest) (before : List (List ℕ)) (line : List ℕ) : Type 0 where
  pub others : List (List ℕ)
  pub there : text.0 ≡ before ++ (line ∷ others)

-- these are all lines that end with a newline, and these bytes stand behind them
pub record EndsWith (text : PiecesAndRest) (before : List (List ℕ)) (line : List ℕ) : Type 0 where
  pub there : text.0 ≡ before
  pub last : text.1 ≡ line

module _ (Document : List (List ℕ) → Type 0) where
  -- some document begins with these lines
  pub record Begins (ls : List (List ℕ)) : Type 0 where
    pub more : List (List ℕ)
    pub document : Document (ls ++ more)

  -- they are short, and some document begins with them
  pub record AreAllowed (ls : List (List ℕ)) : Type 0 where
    pub short : AllByRecursion IsShort ls
    pub begins : Begins ls

  -- a line with a newline with which the lines begin no document; or bytes behind a whole document
  abbrev pub IsRefused : PiecesAndRest → List (List ℕ) → List ℕ → Type 0
  IsRefused text before line =
      (StandsBehind text before line × (Begins (before ++ (line ∷ [])) → ⊥))
      ⊎ (EndsWith text before line × (0 < length line) × Document before)

  -- line n is the first that is not allowed, and no line up to it is too long
  pub record IsBadLine (text : PiecesAndRest) (n : ℕ) : Type 0 where
    pub before : List (List ℕ)
    pub line : List ℕ
    pub number : n ≡ suc (length before)
    pub allowed : AreAllowed before
    pub short : IsShort line
    pub refused : IsRefused text before line

  -- line n, which may lack its newline, is the first that is too long, and the lines before it are allowed
  pub record IsTooLong (text : PiecesAndRest) (n : ℕ) : Type 0 where
    pub before : List (List ℕ)
    pub line : List ℕ
    pub number : n ≡ suc (length before)
    pub allowed : AreAllowed before
    pub long : IsLong line
    pub stands : StandsBehind text before line ⊎ EndsWith text before line

  -- each line that ends with a newline is allowed, no line is too long, and the document is not complete
  pub record IsTruncated (text : PiecesAndRest) : Type 0 where
    pub allowed : AreAllowed text.0
    pub short : IsShort text.1
    pub incomplete : Document text.0 → ⊥

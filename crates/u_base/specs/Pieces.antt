-- A text cut at a byte into pieces; its lines and its words.
use Rattle.std.specs.Prelude.{◌≡◌, ℕ, cond, ◌==◌, List, [], ◌∷◌, ◌++◌}

-- the pieces, and what stands behind the last of them
abbrev pub PiecesAndRest : Type 0
PiecesAndRest = List (List ℕ) × List ℕ

-- with one more byte in front of the first piece
abbrev pub onto : ℕ → PiecesAndRest → PiecesAndRest
onto b p = elim p.0 [ [] ↦ ([], b ∷ p.1) | l ∷ ls ↦ ((b ∷ l) ∷ ls, p.1) ]

-- the pieces that end with the byte c, and what stands behind the last c
unfoldable pub pieces : ℕ → List ℕ → PiecesAndRest
pieces c [] = ([], [])
pieces c (b ∷ bs) = cond (b == c) ([] ∷ (pieces c bs).0, (pieces c bs).1) (onto b (pieces c bs))

-- the first piece of the bytes, and what stands behind the byte that ends it
abbrev pub IsCutInto : ℕ → List ℕ → List ℕ → List ℕ → Type 0
IsCutInto c bs first rest = pieces c bs ≡ (first ∷ (pieces c rest).0, (pieces c rest).1)

-- the lines that end with a newline, and what stands behind them
abbrev pub lines : List ℕ → List (List ℕ)
lines bs = (pieces 10 bs).0

-- the words between single spaces
unfoldable pub words : List ℕ → List (List ℕ)
words bs = (pieces 32 bs).0 ++ ((pieces 32 bs).1 ∷ [])

-- What a reader of the front of some bytes is, and one reader after another.
use Rattle.std.specs.Prelude.{ℕ, List, Result, Ok, Err}

-- A reader gives a value and the bytes after its text; or the bytes from the first on that no text allows.
abbrev pub Reader : Type 0 → Type 0
Reader X = List ℕ → Result (X × List ℕ) (List ℕ)

-- one step of a reader, and what it goes on with; a refusal stays one
infixl 10 ◌>>=◌
abbrev pub ◌>>=◌ : {A B : Type 0} → Result A (List ℕ) → (A → Result B (List ℕ)) → Result B (List ℕ)
(Ok x) >>= f = f x
(Err e) >>= f = Err e

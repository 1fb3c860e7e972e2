-- What is left of some bytes from the byte on with which no text of a language goes on.
use Rattle.std.specs.Prelude.{◌≡◌, ◌⊎◌, ℕ, ◌≤◌, ◌<◌, List, ◌++◌, length, take}
use Rattle.std.specs.Fmt.{decimal}

-- some text of the language begins with these bytes
abbrev pub BeginsSome : (List ℕ → Type 0) → List ℕ → Type 0
BeginsSome L p = (u : List ℕ) × L (p ++ u)

-- What is left behind the longest front of the bytes that begins some text of the language: all of
-- them, where the language has no text.
pub record IsLeft (L : List ℕ → Type 0) (bs rest : List ℕ) : Type 0 where
  pub front : List ℕ
  pub whole : bs ≡ front ++ rest
  pub begins : (rest ≡ bs) ⊎ BeginsSome L front
  pub longest : (p r : List ℕ) → bs ≡ p ++ r → BeginsSome L p → length rest ≤ length r

-- texts of the one or of the other language
abbrev pub Either : (List ℕ → Type 0) → (List ℕ → Type 0) → List ℕ → Type 0
Either L M t = L t ⊎ M t

-- this word, and behind it a text of the language
abbrev pub Behind : List ℕ → (List ℕ → Type 0) → List ℕ → Type 0
Behind w M t = (s : List ℕ) × (t ≡ w ++ s) × M s

-- a value's text, and behind it a text of the language
abbrev pub Read : {X : Type 0} → (X → List ℕ) → (X → Type 0) → (List ℕ → Type 0) → List ℕ → Type 0
Read {X} text V M t = (x : X) × V x × Behind (text x) M t

-- a number, and behind it a text of the language
abbrev pub Numbered : (List ℕ → Type 0) → ℕ → List ℕ → Type 0
Numbered M n = Behind (decimal n) M

-- texts of the language of a number that is below `high` and not below `low`
abbrev pub Among : ℕ → ℕ → (ℕ → List ℕ → Type 0) → List ℕ → Type 0
Among low high L t = (n : ℕ) × (low ≤ n) × (n < high) × L n t

-- The first k bytes are the longest front of the bytes that begins some text of the language: none of
-- them, where the language has no text.
pub record IsLongestFront (L : List ℕ → Type 0) (bs : List ℕ) (k : ℕ) : Type 0 where
  pub within : k ≤ length bs
  pub begins : (k ≡ 0) ⊎ BeginsSome L (take k bs)
  pub longest : (j : ℕ) → j ≤ length bs → BeginsSome L (take j bs) → j ≤ k

-- The longest text at the front of some bytes, and the longest front of them that begins a text.
use Rattle.std.specs.Prelude.{◌≡◌, ℕ, ◌≤◌, List, ◌++◌, length, take}

-- the first so many bytes begin some text
abbrev pub BeginsSome : {X : Type 0} → (X → List ℕ) → (X → Type 0) → List ℕ → Type 0
BeginsSome {X} text V p = (x : X) × (u : List ℕ) × V x × (text x ≡ p ++ u)

-- x is the value of the longest text at the front, which has so many bytes
pub record IsLongest {X : Type 0} (text : X → List ℕ) (V : X → Type 0) (bs : List ℕ) (x : X) (len : ℕ) : Type 0 where
  pub valid : V x
  pub there : take len bs ≡ text x
  pub within : len ≤ length bs
  pub longest : (y : X) (r : List ℕ) → V y → bs ≡ text y ++ r → length (text y) ≤ len

-- no text stands at the front, and k is the length of the longest front that begins a text
pub record IsRefusedAt {X : Type 0} (text : X → List ℕ) (V : X → Type 0) (bs : List ℕ) (k : ℕ) : Type 0 where
  pub none : (y : X) (r : List ℕ) → V y → bs ≡ text y ++ r → ⊥
  pub within : k ≤ length bs
  pub begins : BeginsSome text V (take k bs)
  pub longest : (j : ℕ) → j ≤ length bs → BeginsSome text V (take j bs) → j ≤ k

-- Bytes that are a whole text, and texts that begin at an offset.
use Rattle.std.specs.Prelude.{◌≡◌, ℕ, ◌-◌, ◌≤◌, List, length, take, drop}
use Rattle.u_base.specs.Longest.{BeginsSome, IsLongest, IsRefusedAt}

-- the bytes are the text of x
abbrev pub IsTextOf : {X : Type 0} → (X → List ℕ) → (X → Type 0) → List ℕ → X → Type 0
IsTextOf text V bs x = V x × (bs ≡ text x)

-- the bytes are no text, and k is the length of the longest front that begins one
pub record IsNoText {X : Type 0} (text : X → List ℕ) (V : X → Type 0) (bs : List ℕ) (k : ℕ) : Type 0 where
  pub none : (y : X) → V y → bs ≡ text y → ⊥
  pub within : k ≤ length bs
  pub begins : BeginsSome text V (take k bs)
  pub longest : (j : ℕ) → j ≤ length bs → BeginsSome text V (take j bs) → j ≤ k

-- x is the value of the longest text that begins at the offset, which ends there
abbrev pub IsTextAt : {X : Type 0} → (X → List ℕ) → (X → Type 0) → List ℕ → ℕ → X → ℕ → Type 0
IsTextAt text V bs offset x end = (offset ≤ end) × IsLongest text V (drop offset bs) x (end - offset)

-- no text begins at the offset, and k is where the longest front of one ends that does
abbrev pub IsNoTextAt : {X : Type 0} → (X → List ℕ) → (X → Type 0) → List ℕ → ℕ → ℕ → Type 0
IsNoTextAt text V bs offset k = (offset ≤ k) × IsRefusedAt text V (drop offset bs) (k - offset)

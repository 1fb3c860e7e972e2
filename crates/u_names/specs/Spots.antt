-- Spots: what a cell is, where structures have numbers.
use Rattle.std.specs.Prelude.{ℕ, ◌≤◌, refl}
use Rattle.std.specs.Coded.{Coded, code_by, coded×, coded_ℕ}

pub record SpotParts : Type 0 where
  pub structure : ℕ
  pub index : ℕ

abbrev pub spot : ℕ → ℕ → SpotParts
spot structure index = record { structure = structure; index = index }

-- the index is in its range
pub record IsSpot (s : SpotParts) : Type 0 where
  pub within : s.index ≤ 999999

abbrev pub spot_code : Coded SpotParts
spot_code = code_by (ℕ × ℕ) (coded× coded_ℕ coded_ℕ) (λ s. (s.structure, s.index)) (λ t. spot t.0 t.1) (λ _. refl)

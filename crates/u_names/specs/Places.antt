-- Places: what a name is in a table, where frames have numbers.
use Rattle.std.specs.Prelude.{ℕ, ◌<◌, ◌^◌, ◌+◌, ◌*◌, ◌/◌, refl}
use Rattle.std.specs.Hash.{HashWrites}
use Rattle.std.specs.Hash as fed
use Rattle.std.specs.Coded.{Coded, code_by, coded×, coded_ℕ}
use Rattle.u_name.specs.Context.{IsBetween}
use Rattle.u_name.specs.Name.{Activity}

pub record NamePlaceParts : Type 0 where
  pub frame : ℕ
  pub statement : ℕ
  pub initiation : ℕ

abbrev pub place : ℕ → ℕ → ℕ → NamePlaceParts
place frame statement initiation = record { frame = frame; statement = statement; initiation = initiation }

-- each part is in its range
pub record IsPlace (p : NamePlaceParts) : Type 0 where
  pub frame : p.frame < 2 ^ 32
  pub statement : IsBetween 1 p.statement 999
  pub initiation : IsBetween 1 p.initiation 18446744073709551615

-- the place of an activity whose frame has that number
abbrev pub place_of : ℕ → Activity → NamePlaceParts
place_of frame a = place frame a.statement a.initiation

abbrev pub place_code : Coded NamePlaceParts
place_code =
    code_by (ℕ × (ℕ × ℕ)) (coded× coded_ℕ (coded× coded_ℕ coded_ℕ)) (λ p. (p.frame, (p.statement, p.initiation))) (λ t. place t.0 t.1.0 t.1.1) (λ _. refl)

-- what a hasher is given of a place: one number, in its upper word the frame and the statement, in its lower one
-- the initiation by fours
abbrev pub place_writes : NamePlaceParts → HashWrites
place_writes p = fed.u128 ((p.frame * 65536 + p.statement) * 2 ^ 64 + p.initiation / 4)

-- References to structures: the name of the activity that made one, and its length.
use Rattle.std.specs.Prelude.{ℕ, ◌≤◌, refl}
use Rattle.std.specs.Coded.{Coded, code_by, coded×, coded_ℕ}
use Rattle.u_name.specs.Name.{Activity, activity_code}

pub record Pointer : Type 0 where
  pub name : Activity
  pub length : ℕ

abbrev pub pointer : Activity → ℕ → Pointer
pointer name length = record { name = name; length = length }

pub record IsPointer (p : Pointer) : Type 0 where
  pub short : p.length ≤ 1000000

abbrev pub pointer_code : Coded Pointer
pointer_code = code_by (Activity × ℕ) (coded× activity_code coded_ℕ) (λ p. (p.name, p.length)) (λ t. pointer t.0 t.1) (λ _. refl)

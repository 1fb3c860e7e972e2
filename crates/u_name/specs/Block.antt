-- Names of blocks: 1 to 16 bytes of a-z, 0-9 and _, the first a letter.
use Rattle.std.specs.Prelude.{◌≡◌, ℕ, ◌-◌, ◌≤◌, Bool, IsTrue, ◌&&◌, ◌||◌, ◌==◌, nat_le, List, [], ◌∷◌, ◌++◌, length, take, drop}
use Rattle.std.proofs.Math.ListN.{replicate}
use Rattle.std.specs.List.{AllByRecursion}
use Rattle.u_name.specs.declared.block_name.BlockName.TheInside.{Inside}

abbrev pub is_letter : ℕ → Bool
is_letter c = nat_le 97 c && nat_le c 122

abbrev pub is_block_byte : ℕ → Bool
is_block_byte c = is_letter c || (nat_le 48 c && nat_le c 57) || c == 95

abbrev pub StartsWithLetter : List ℕ → Type 0
StartsWithLetter [] = ⊥
StartsWithLetter (c ∷ cs) = IsTrue (is_letter c)

pub record IsBlock (bytes : List ℕ) : Type 0 where
  pub short : length bytes ≤ 16
  pub first : StartsWithLetter bytes
  pub each : AllByRecursion (λ c. IsTrue (is_block_byte c)) bytes

abbrev pub name_of : Inside → List ℕ
name_of b = take b.len b.bytes

-- the bytes after the name are zeros, so that equal names lie alike
pub record LiesWell (b : Inside) : Type 0 where
  pub whole : length b.bytes ≡ 16
  pub name : IsBlock (take b.len b.bytes)
  pub fits : b.len ≤ 16
  pub rest : drop b.len b.bytes ≡ replicate (16 - b.len) 0

abbrev pub laid_out : List ℕ → Inside
laid_out name = record { bytes = name ++ replicate (16 - length name) 0; len = length name }

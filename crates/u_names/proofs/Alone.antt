-- What stands alone in an array of one.
use Rattle.std.proofs.Common.{◌≡◌, List, [], ◌∷◌, length, get_or, slice_set, refl, arith}
use Rattle.u_name.specs.Cell.{CellOf}
use Rattle.u_names.specs.CellPairs.{pairs_of_one}

pub pairs_alone : {V : Type 0} (all : List (List (CellOf × V))) (pairs : List (CellOf × V)) → length all ≡ 1 → get_or all 0 pairs ≡ pairs_of_one all
pairs_alone [] pairs one = absurd (omega (arith, one))
pairs_alone (x ∷ xs) pairs one = refl

-- and what is put in its place
pub put_alone : {V : Type 0} (all : List (List (CellOf × V))) (pairs : List (CellOf × V)) → length all ≡ 1 → pairs_of_one (slice_set all 0 pairs) ≡ pairs
put_alone [] pairs one = absurd (omega (arith, one))
put_alone (x ∷ xs) pairs one = refl

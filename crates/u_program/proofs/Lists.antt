-- Equations of lists.
use Rattle.std.specs.Prelude.{◌≡◌, ℕ, List, [], ◌∷◌, length, refl}
use Rattle.std.proofs.Common.{arith}

pub heads : {A : Type 0} {a b : A} {x y : List A} → ◌≡◌ {A = List A} (a ∷ x) (b ∷ y) → a ≡ b
heads h = cc

pub tails : {A : Type 0} {a b : A} {x y : List A} → ◌≡◌ {A = List A} (a ∷ x) (b ∷ y) → x ≡ y
tails h = cc

pub empty_is : {A : Type 0} {a : A} {x : List A} → ◌≡◌ {A = List A} [] (a ∷ x) → ⊥
empty_is h = cc

pub nothing_is : (xs : List ℕ) → length xs ≡ 0 → xs ≡ []
nothing_is [] h = refl
nothing_is (x ∷ xs) h = absurd (omega arith)

-- The order of two lists, found word by word.
use Rattle.std.specs.Prelude.{◌≡◌, ◌<◌, ◌≤◌, ◌+◌, min, ℕ, zero, suc, List, [], ◌∷◌, length, drop, refl}
use Rattle.std.proofs.Common.{sym, ◌∙◌, ap, arith, get_or, add-one}
use Rattle.std.proofs.lemmas.Bool.Decides.{nat_tests}
use Rattle.std.specs.Ordering.{ordering_then, nat_cmp}
use Rattle.std.specs.Cmp.{nat_cmp_is}
use Rattle.std.specs.declared.cmp.Ordering.{Ordering}
use Rattle.std.specs.declared.cmp.Ordering.TheVariants.{Less, Equal, Greater}
use Rattle.std.specs.Cmp.Lexicographic.{slice_cmp}
use Rattle.std.specs.FinMap.{nat_cmp-IsAntisymmetric}

-- the order of what stands from a place on
abbrev pub from_place : List ℕ → List ℕ → ℕ → Ordering
from_place xs ys i = slice_cmp nat_cmp (drop i xs) (drop i ys)

tie : (n : ℕ) → nat_cmp n n ≡ Equal
tie n = sym (nat_cmp_is n n Equal refl)

-- a word decides, and behind it what follows
pub one_word : (xs ys : List ℕ) (i : ℕ) → i < length xs → i < length ys → from_place xs ys i ≡ ordering_then (nat_cmp (get_or xs i 0) (get_or ys i 0)) (from_place xs ys (suc i))
one_word [] ys i l m = absurd (omega arith)
one_word (x ∷ xs) [] i l m = absurd (omega arith)
one_word (x ∷ xs) (y ∷ ys) zero l m = refl
one_word (x ∷ xs) (y ∷ ys) (suc i) l m = one_word xs ys i (omega arith) (omega arith)

-- words that are the same leave it to what follows
pub same_word : (xs ys : List ℕ) (i : ℕ) → i < length xs → i < length ys → get_or xs i 0 ≡ get_or ys i 0 → from_place xs ys i ≡ from_place xs ys (i + 1)
same_word xs ys i l m e = rw add-one (
    one_word xs ys i l m
    ∙ ap (λ n. ordering_then (nat_cmp (get_or xs i 0) n) (from_place xs ys (suc i))) (sym e)
    ∙ ap (λ r. ordering_then r (from_place xs ys (suc i))) (tie (get_or xs i 0)))

-- words that differ decide
pub other_word : (xs ys : List ℕ) (i : ℕ) → i < length xs → i < length ys → (get_or xs i 0 ≡ get_or ys i 0 → ⊥) → nat_cmp (get_or xs i 0) (get_or ys i 0) ≡ from_place xs ys i
other_word xs ys i l m d = decided (nat_cmp (get_or xs i 0) (get_or ys i 0)) refl ∙ sym (one_word xs ys i l m)
  where
    decided : (r : Ordering) → nat_cmp (get_or xs i 0) (get_or ys i 0) ≡ r → r ≡ ordering_then r (from_place xs ys (suc i))
    decided Less e = refl
    decided Equal e = absurd (d (nat_cmp-IsAntisymmetric (get_or xs i 0) (get_or ys i 0) e))
    decided Greater e = refl

one_more : (m n : ℕ) → nat_cmp (suc m) (suc n) ≡ nat_cmp m n
one_more m n = grind (arith, nat_tests)

none_left : (i : ℕ) → Equal ≡ from_place [] [] i
none_left zero = refl
none_left (suc i) = refl

-- at the end of the shorter list the lengths decide
pub at_end : (xs ys : List ℕ) (i : ℕ) → i ≤ length xs → i ≤ length ys → min (length xs) (length ys) ≤ i → nat_cmp (length xs) (length ys) ≡ from_place xs ys i
at_end [] [] i l m h = tie 0 ∙ none_left i
at_end [] (y ∷ ys) zero l m h = sym (nat_cmp_is 0 (suc (length ys)) Less (omega arith))
at_end [] (y ∷ ys) (suc i) l m h = absurd (omega arith)
at_end (x ∷ xs) [] zero l m h = sym (nat_cmp_is (suc (length xs)) 0 Greater (omega arith))
at_end (x ∷ xs) [] (suc i) l m h = absurd (omega arith)
at_end (x ∷ xs) (y ∷ ys) zero l m h = absurd (omega arith)
at_end (x ∷ xs) (y ∷ ys) (suc i) l m h = one_more (length xs) (length ys) ∙ at_end xs ys i (omega arith) (omega arith) (omega arith)

-- what stands from one place on decides as what stands from an earlier one on does
pub record IsLeftTo (xs ys : List ℕ) (from place : ℕ) : Type 0 where
  pub in_left : place ≤ length xs
  pub in_right : place ≤ length ys
  pub decides : from_place xs ys place ≡ from_place xs ys from

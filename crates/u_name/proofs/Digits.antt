-- Numbers that digits make in places of a base are in the order of the lists of the digits, where no digit is 0.
use Rattle.std.specs.Prelude.{◌≡◌, ◌≤◌, ◌<◌, ◌+◌, ◌*◌, ◌^◌, ℕ, suc, zero, List, [], ◌∷◌, length, drop, refl}
use Rattle.std.proofs.Common.{sym, ◌∙◌, ap, arith}
use Rattle.std.proofs.Math.Nat.{mul-le-mul_right, pow-suc, pow-zero, suc-add, zero-add}
use Rattle.std.proofs.lemmas.Nat.{pow-add}
use Rattle.std.proofs.lemmas.Cmp.{ranked}
use Rattle.std.specs.Cmp.{nat_cmp_is}
use Rattle.std.specs.Cmp.Lexicographic.{slice_cmp}
use Rattle.std.specs.List.{AllByRecursion}
use Rattle.std.specs.Ordering.{MatchOrdering, nat_cmp, ordering_then}
use Rattle.std.specs.declared.cmp.Ordering.{Ordering}
use Rattle.std.specs.declared.cmp.Ordering.TheVariants.{Less, Equal, Greater}
use Rattle.u_name.specs.Words.{in_places}

first_less : (p x y r s : ℕ) → r < p → x < y → x * p + r < y * p + s
first_less p x y r s u h =
    let l : x + 1 ≤ y = omega arith in
    let m : (x + 1) * p ≤ y * p = mul-le-mul_right p l in
    omega arith

same_first : (p x y r : ℕ) → x ≡ y → x * p + r ≡ y * p + r
same_first p x y r e = ap (λ n. n * p + r) e

-- numbers of two digits go by the first digit, and then by the second
ranked_digits : (p x y r s : ℕ) → r < p → s < p → (o q : Ordering) → MatchOrdering o (x < y) (x ≡ y) (y < x) → MatchOrdering q (r < s) (r ≡ s) (s < r)
    → MatchOrdering (ordering_then o q) (x * p + r < y * p + s) (x * p + r ≡ y * p + s) (y * p + s < x * p + r)
ranked_digits p x y r s u v Less q h k = first_less p x y r s u h
ranked_digits p x y r s u v Equal Less h k = let e = same_first p x y r h in omega (arith, e, k)
ranked_digits p x y r s u v Equal Equal h k = let e = same_first p x y r h in omega (arith, e, k)
ranked_digits p x y r s u v Equal Greater h k = let e = same_first p x y r h in omega (arith, e, k)
ranked_digits p x y r s u v Greater q h k = first_less p y x s r v h

pub digits : (p x y r s : ℕ) → r < p → s < p → nat_cmp (x * p + r) (y * p + s) ≡ ordering_then (nat_cmp x y) (nat_cmp r s)
digits p x y r s u v =
    sym (nat_cmp_is (x * p + r) (y * p + s) (ordering_then (nat_cmp x y) (nat_cmp r s))
    (ranked_digits p x y r s u v (nat_cmp x y) (nat_cmp r s) (ranked x y (nat_cmp x y) refl) (ranked r s (nat_cmp r s) refl)))

-- digits of this base that are not 0
abbrev pub AreDigits : ℕ → List ℕ → Type 0
AreDigits b xs = AllByRecursion (λ c. (1 ≤ c) × (c + 1 ≤ b)) xs

positive : (b k : ℕ) → 1 ≤ b → 1 ≤ b ^ k
positive b zero h = let e = pow-zero b in omega arith
positive b (suc k) h =
    let e = pow-suc b k in
    let m : 1 * b ≤ b ^ k * b = mul-le-mul_right b (positive b k h) in
    omega arith

pub below : (b k : ℕ) (xs : List ℕ) → 1 ≤ b → AreDigits b xs → in_places b k xs < b ^ k
below b zero xs l a = let e = pow-zero b in omega arith
below b (suc k) [] l a = let h = positive b (suc k) l in omega arith
below b (suc k) (x ∷ xs) l a =
    let e = pow-suc b k in
    let h = below b k xs l a.1 in
    let m : (x + 1) * b ^ k ≤ b * b ^ k = mul-le-mul_right (b ^ k) a.0.1 in
    omega arith

some : (b k x : ℕ) (xs : List ℕ) → 1 ≤ b → 1 ≤ x → 0 < x * b ^ k + in_places b k xs
some b k x xs l h =
    let p = positive b k l in
    let m : 1 * b ^ k ≤ x * b ^ k = mul-le-mul_right (b ^ k) h in
    omega arith

pub in_order : (b k : ℕ) (xs ys : List ℕ) → 1 ≤ b → length xs ≤ k → length ys ≤ k → AreDigits b xs → AreDigits b ys
    → nat_cmp (in_places b k xs) (in_places b k ys) ≡ slice_cmp nat_cmp xs ys
in_order b zero [] [] l m n f g = refl
in_order b zero [] (y ∷ ys) l m n f g = absurd (omega arith)
in_order b zero (x ∷ xs) ys l m n f g = absurd (omega arith)
in_order b (suc k) [] [] l m n f g = refl
in_order b (suc k) [] (y ∷ ys) l m n f g = sym (nat_cmp_is 0 (y * b ^ k + in_places b k ys) Less (some b k y ys l g.0.0))
in_order b (suc k) (x ∷ xs) [] l m n f g = sym (nat_cmp_is (x * b ^ k + in_places b k xs) 0 Greater (some b k x xs l f.0.0))
in_order b (suc k) (x ∷ xs) (y ∷ ys) l m n f g =
    digits (b ^ k) x y (in_places b k xs) (in_places b k ys) (below b k xs l f.1) (below b k ys l g.1)
    ∙ ap (λ r. ordering_then (nat_cmp x y) r) (in_order b k xs ys l (omega arith) (omega arith) f.1 g.1)

nothing : (b k : ℕ) → in_places b k [] ≡ 0
nothing b zero = refl
nothing b (suc k) = refl

-- the first places of a number, and those behind them
pub parted : (b k m : ℕ) (xs : List ℕ) → in_places b (k + m) xs ≡ in_places b k xs * b ^ m + in_places b m (drop k xs)
parted b zero m xs = ap (λ n. in_places b n xs) (zero-add m) ∙ omega arith
parted b (suc k) m [] = nothing b (suc k + m) ∙ (let h = nothing b m in omega arith)
parted b (suc k) m (x ∷ xs) =
    ap (λ n. in_places b n (x ∷ xs)) (suc-add k m)
    ∙ more (pow-add b k m) (parted b k m xs)
  where
    more : b ^ (k + m) ≡ b ^ k * b ^ m → in_places b (k + m) xs ≡ in_places b k xs * b ^ m + in_places b m (drop k xs)
        → x * b ^ (k + m) + in_places b (k + m) xs ≡ (x * b ^ k + in_places b k xs) * b ^ m + in_places b m (drop k xs)
    more e h = rw (e, h) (omega arith)

-- one more place behind makes the number so many times as much
pub one_place_more : (b k : ℕ) (xs : List ℕ) → length xs ≤ k → in_places b (suc k) xs ≡ in_places b k xs * b
one_place_more b zero [] h = omega arith
one_place_more b zero (x ∷ xs) h = absurd (omega arith)
one_place_more b (suc k) [] h = omega arith
one_place_more b (suc k) (x ∷ xs) h =
    let e = pow-suc b k in
    let i = one_place_more b k xs (omega arith) in
    let m : x * (b ^ k * b) ≡ x * b ^ k * b = omega arith in
    let n : x * b ^ suc k ≡ x * (b ^ k * b) = ap (λ p. x * p) e in
    omega arith

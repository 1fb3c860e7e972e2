-- Names of blocks are in the order of the numbers that their bytes make, with zeros behind them.
use Rattle.std.specs.Prelude.{◌≡◌, ◌≤◌, ◌+◌, ◌-◌, ◌*◌, ◌/◌, ◌%◌, ◌^◌, ◌++◌, ℕ, suc, zero, List, [], ◌∷◌, drop, refl, IsTrue}
use Rattle.std.proofs.Common.{sym, ◌∙◌, ap, arith, get_or}
use Rattle.std.proofs.Math.ListN.{replicate}
use Rattle.std.proofs.lemmas.Bool.Decides.{nat_tests}
use Rattle.std.proofs.lemmas.List.{take-append-drop}
use Rattle.std.specs.Cmp.Lexicographic.{slice_cmp}
use Rattle.std.specs.Int.{from_be_bytes, w128}
use Rattle.std.specs.List.{AllByRecursion}
use Rattle.std.specs.Ordering.{nat_cmp, ordering_then}
use Rattle.u_name.specs.declared.block_name.BlockName.TheInside.{Inside}
use Rattle.u_name.specs.Block.{IsBlock, LiesWell, is_block_byte, name_of}
use Rattle.u_name.specs.Words.{block_number, high_word, low_word, in_places}
use Rattle.u_name.proofs.Digits.{digits, AreDigits, below, in_order, parted}

-- the number that so many bytes from a place on make
abbrev number_at : ℕ → ℕ → List ℕ → ℕ
number_at zero i xs = 0
number_at (suc k) i xs = get_or xs i 0 * 256 ^ k + number_at k (suc i) xs

is_number_at : (xs : List ℕ) → from_be_bytes w128 xs ≡ number_at 16 0 xs
is_number_at xs = omega arith

at_nothing : (k i : ℕ) → number_at k i [] ≡ 0
at_nothing zero i = refl
at_nothing (suc k) i = let h = at_nothing k (suc i) in omega arith

at_behind : (k i x : ℕ) (xs : List ℕ) → number_at k (suc i) (x ∷ xs) ≡ number_at k i xs
at_behind zero i x xs = refl
at_behind (suc k) i x xs = ap (λ n. get_or xs i 0 * 256 ^ k + n) (at_behind k (suc i) x xs)

from_first : (k : ℕ) (xs : List ℕ) → number_at k 0 xs ≡ in_places 256 k xs
from_first zero xs = refl
from_first (suc k) [] = at_nothing (suc k) 0
from_first (suc k) (x ∷ xs) = ap (λ n. x * 256 ^ k + n) (at_behind k 0 x xs ∙ from_first k xs)

is_number : (xs : List ℕ) → from_be_bytes w128 xs ≡ in_places 256 16 xs
is_number xs = is_number_at xs ∙ from_first 16 xs

byte : (c : ℕ) → IsTrue (is_block_byte c) → (1 ≤ c) × (c + 1 ≤ 256)
byte c h = grind (arith, nat_tests)

are_bytes : (xs : List ℕ) → AllByRecursion (λ c. IsTrue (is_block_byte c)) xs → AreDigits 256 xs
are_bytes [] h = tt
are_bytes (x ∷ xs) h = (byte x h.0, are_bytes xs h.1)

blocks_in_order : (b c : List ℕ) → IsBlock b → IsBlock c → nat_cmp (block_number b) (block_number c) ≡ slice_cmp nat_cmp b c
unfolding block_number
blocks_in_order b c v w =
    rw (is_number b, is_number c) (in_order 256 16 b c (omega arith) v.short w.short (are_bytes b v.each) (are_bytes c w.each))

pub halves_in_order : (b c : List ℕ) → IsBlock b → IsBlock c
    → ordering_then (nat_cmp (high_word b) (high_word c)) (nat_cmp (low_word b) (low_word c)) ≡ slice_cmp nat_cmp b c
halves_in_order b c v w =
    let e : (block_number b / 2 ^ 64) * 2 ^ 64 + block_number b % 2 ^ 64 ≡ block_number b = omega arith in
    let f : (block_number c / 2 ^ 64) * 2 ^ 64 + block_number c % 2 ^ 64 ≡ block_number c = omega arith in
    sym (digits (2 ^ 64) (high_word b) (high_word c) (low_word b) (low_word c) (omega arith) (omega arith))
    ∙ ap (λ n. nat_cmp n ((block_number c / 2 ^ 64) * 2 ^ 64 + block_number c % 2 ^ 64)) e
    ∙ ap (λ n. nat_cmp (block_number b) n) f
    ∙ blocks_in_order b c v w

-- where the byte behind the first seven is 0, there are no bytes
nothing_behind : (m : ℕ) (ys : List ℕ) → AreDigits 256 ys → (m * 256 ^ 9 + in_places 256 9 ys) / 2 ^ 64 % 256 ≡ 0 → (m * 256 ^ 9 + in_places 256 9 ys) % 2 ^ 64 ≡ 0
nothing_behind m [] a h = omega arith
nothing_behind m (y ∷ ys) a h =
    let l = below 256 8 ys (omega arith) a.1 in
    let r : (m * 256 ^ 9 + (y * 256 ^ 8 + in_places 256 8 ys)) / 2 ^ 64 ≡ m * 256 + y = omega arith in
    absurd (omega (arith, a.0.0, a.0.1))

digits_behind : (n : ℕ) (xs : List ℕ) → AreDigits 256 xs → AreDigits 256 (drop n xs)
digits_behind zero xs a = a
digits_behind (suc n) [] a = tt
digits_behind (suc n) (x ∷ xs) a = digits_behind n xs a.1

-- the last word of a name is 0 where the last byte of the first word is
pub last_word : (b : List ℕ) → IsBlock b → high_word b % 256 ≡ 0 → low_word b ≡ 0
unfolding block_number
last_word b v h =
    let a = are_bytes b v.each in
    let e = is_number b ∙ parted 256 7 9 b in
    rw e (nothing_behind (in_places 256 7 b) (drop 7 b) (digits_behind 7 b a) (rw e at h))

zeros : (n i : ℕ) → get_or {A = ℕ} (replicate n 0) i 0 ≡ 0
zeros zero i = refl
zeros (suc n) zero = refl
zeros (suc n) (suc i) = zeros n i

with_zeros : (xs : List ℕ) (n i : ℕ) → get_or (xs ++ replicate n 0) i 0 ≡ get_or xs i 0
with_zeros [] n i = zeros n i
with_zeros (x ∷ xs) n zero = refl
with_zeros (x ∷ xs) n (suc i) = with_zeros xs n i

same_number : (k i : ℕ) (xs : List ℕ) (n : ℕ) → number_at k i (xs ++ replicate n 0) ≡ number_at k i xs
same_number zero i xs n = refl
same_number (suc k) i xs n = rw (with_zeros xs n i) (ap (λ m. get_or xs i 0 * 256 ^ k + m) (same_number k (suc i) xs n))

-- the bytes in which a name lies make its number
pub number_of_bytes : (b : Inside) → LiesWell b → from_be_bytes w128 b.bytes ≡ block_number (name_of b)
unfolding block_number
number_of_bytes b w =
    let e : name_of b ++ replicate (16 - b.len) 0 ≡ b.bytes = rw (← w.rest) (take-append-drop b.len b.bytes) in
    ap (λ xs. from_be_bytes w128 xs) (sym e)
    ∙ is_number_at (name_of b ++ replicate (16 - b.len) 0)
    ∙ same_number 16 0 (name_of b) (16 - b.len)
    ∙ sym (is_number_at (name_of b))

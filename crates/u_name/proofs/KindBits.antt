-- Kinds packed in two words are in the order of the lists of the kinds.
use Rattle.std.specs.Prelude.{◌≡◌, ◌≤◌, ◌<◌, ◌+◌, ◌*◌, ◌/◌, ◌%◌, ◌^◌, ℕ, ◌∷◌, length, refl}
use Rattle.std.proofs.Common.{sym, ◌∙◌, ap, arith}
use Rattle.std.specs.Cmp.Lexicographic.{slice_cmp}
use Rattle.std.specs.Ordering.{nat_cmp, ordering_then}
use Rattle.u_name.specs.Context.{Tree, Top, InLoop, InCall, depth}
use Rattle.u_name.specs.Path.{kinds, kinds_number, first_kinds, last_kinds}
use Rattle.u_name.specs.Words.{in_places}
use Rattle.u_name.proofs.Digits.{digits, AreDigits, in_order, one_place_more}

kinds_long : (t : Tree) → length (kinds t) ≡ depth t
kinds_long Top = refl
kinds_long (InLoop o b n i) = let h = kinds_long o in omega arith
kinds_long (InCall o b n i) = let h = kinds_long o in omega arith

are_digits : (t : Tree) → AreDigits 4 (kinds t)
are_digits Top = tt
are_digits (InLoop o b n i) = ((omega arith, omega arith), are_digits o)
are_digits (InCall o b n i) = ((omega arith, omega arith), are_digits o)

numbers_in_order : (x y : Tree) → depth x ≤ 64 → depth y ≤ 64 → nat_cmp (kinds_number x) (kinds_number y) ≡ slice_cmp nat_cmp (kinds x) (kinds y)
unfolding kinds_number
numbers_in_order x y f g =
    let h = kinds_long x in
    let k = kinds_long y in
    in_order 4 64 (kinds x) (kinds y) (omega arith) (omega arith) (omega arith) (are_digits x) (are_digits y)

pub kinds_in_order : (x y : Tree) → depth x ≤ 64 → depth y ≤ 64
    → ordering_then (nat_cmp (kinds_number x / 2 ^ 64) (kinds_number y / 2 ^ 64)) (nat_cmp (kinds_number x % 2 ^ 64) (kinds_number y % 2 ^ 64))
    ≡ slice_cmp nat_cmp (kinds x) (kinds y)
kinds_in_order x y f g =
    let m : ℕ = kinds_number x in
    let n : ℕ = kinds_number y in
    let e : (m / 2 ^ 64) * 2 ^ 64 + m % 2 ^ 64 ≡ m = omega arith in
    let h : (n / 2 ^ 64) * 2 ^ 64 + n % 2 ^ 64 ≡ n = omega arith in
    sym (digits (2 ^ 64) (m / 2 ^ 64) (n / 2 ^ 64) (m % 2 ^ 64) (n % 2 ^ 64) (omega arith) (omega arith))
    ∙ ap (λ k. nat_cmp k ((n / 2 ^ 64) * 2 ^ 64 + n % 2 ^ 64)) e
    ∙ ap (λ k. nat_cmp m k) h
    ∙ numbers_in_order x y f g

-- a number of 128 bits whose last two are 0, two bits further down and with two in front
shifted : (kind n : ℕ) → (first_kinds kind (n * 4 / 2 ^ 64) ≡ (kind * 4 ^ 63 + n) / 2 ^ 64) × (last_kinds (n * 4 / 2 ^ 64) (n * 4 % 2 ^ 64) ≡ (kind * 4 ^ 63 + n) % 2 ^ 64)
shifted kind n = (omega arith, omega arith)

pub kind_more : (kind : ℕ) (o t : Tree) → kinds t ≡ kind ∷ kinds o → depth o < 64
    → (first_kinds kind (kinds_number o / 2 ^ 64) ≡ kinds_number t / 2 ^ 64)
    × (last_kinds (kinds_number o / 2 ^ 64) (kinds_number o % 2 ^ 64) ≡ kinds_number t % 2 ^ 64)
unfolding kinds_number
kind_more kind o t e h =
    let k = kinds_long o in
    let m : ℕ = in_places 4 63 (kinds o) in
    let s = shifted kind m in
    let f : in_places 4 64 (kinds o) ≡ m * 4 = one_place_more 4 63 (kinds o) (omega arith) in
    let g : in_places 4 64 (kinds t) ≡ kind * 4 ^ 63 + m = ap (λ l. in_places 4 64 l) e in
    rw (f, g) s

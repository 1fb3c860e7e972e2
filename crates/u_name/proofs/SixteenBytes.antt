-- Sixteen bytes are known by the number that they make.
use Rattle.std.specs.Prelude.{◌≡◌, ◌<◌, ◌+◌, ◌*◌, ◌⊎◌, ℕ, suc, zero, List, length}
use Rattle.std.proofs.Common.{sym, ◌∙◌, ap, arith, get_or, inl, inr}
use Rattle.std.proofs.lemmas.List.{ext_get_or}
use Rattle.std.specs.Int.{from_be_bytes, w128}

abbrev AreBytes : List ℕ → Type 0
AreBytes xs = (i : ℕ) → get_or xs i 0 < 256

-- the number that the first so many bytes make
abbrev number_of : List ℕ → ℕ → ℕ
number_of xs zero = 0
number_of xs (suc k) = number_of xs k * 256 + get_or xs k 0

is_number_of : (xs : List ℕ) → from_be_bytes w128 xs ≡ number_of xs 16
is_number_of xs = omega arith

below : (i k : ℕ) → i < suc k → (i < k) ⊎ (i ≡ k)
below i zero l = inr (omega arith)
below zero (suc k) l = inl (omega arith)
below (suc i) (suc k) l = elim (below i k (omega arith)) [ inl h ↦ inl (omega arith) | inr h ↦ inr (omega arith) ]

byte_same : (k : ℕ) (xs ys : List ℕ) → AreBytes xs → AreBytes ys → number_of xs k ≡ number_of ys k → (i : ℕ) → i < k → get_or xs i 0 ≡ get_or ys i 0
byte_same zero xs ys f g h i l = absurd (omega arith)
byte_same (suc k) xs ys f g h i l =
    let a = f k in
    let b = g k in
    let before : number_of xs k ≡ number_of ys k = omega arith in
    let last : get_or xs k 0 ≡ get_or ys k 0 = omega arith in
    elim (below i k l) [ inl m ↦ byte_same k xs ys f g before i m | inr e ↦ ap (λ j. get_or xs j 0) e ∙ last ∙ ap (λ j. get_or ys j 0) (sym e) ]

pub same_sixteen : (xs ys : List ℕ) → length xs ≡ 16 → length ys ≡ 16 → AreBytes xs → AreBytes ys → from_be_bytes w128 xs ≡ from_be_bytes w128 ys → xs ≡ ys
same_sixteen xs ys a b f g h =
    ext_get_or 0 xs ys (a ∙ sym b) (λ i l. byte_same 16 xs ys f g (sym (is_number_of xs) ∙ h ∙ is_number_of ys) i (omega arith))

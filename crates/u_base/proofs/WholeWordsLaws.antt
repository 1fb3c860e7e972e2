-- A word is read as a number exactly where it is the number's text.
use Rattle.std.specs.Prelude.{◌≡◌, ℕ, zero, suc, ◌-◌, ◌^◌, ◌≤◌, ◌<◌, ◌⊎◌, Bool, true, false, cond, ◌==◌, nat_le, List, [], ◌∷◌, Option, Some, None, Result, Ok, Err, FitsSigned, refl}
use Rattle.std.proofs.Common.{sym, ◌∙◌, ap, subst, arith, inl, inr}
use Rattle.std.proofs.lemmas.Bool.Decides.{nat_tests}
use Rattle.std.proofs.lemmas.List.{append-nil}
use Rattle.std.proofs.lemmas.Fmt.{decimal_digit, decimal_injective}
use Rattle.std.specs.Fmt.{decimal, signed_decimal}
use Rattle.std.specs.Int.{w64}
use Rattle.std.specs.Cmp.Lexicographic.{same_text, other_text}
use Rattle.std.proofs.lemmas.Option.{same_Some, none-some}
use lib.IntN.{ℤ, pos, negsuc}
use Rattle.u_base.proofs.ReaderLaws.{Reads}
use Rattle.u_base.proofs.PartsLaws.{alike, unlike, same_or}
use Rattle.u_base.specs.Number.{IsUpTo}
use Rattle.u_base.proofs.NumberLaws.{AllDigit, number_Reads, decimal_digits}
use Rattle.u_base.specs.WholeWords.{◌then◌, whole, is, number_word, number0_word, signed_word}

pub told : (w v : List ℕ) (b : Bool) → is w v ≡ b → ((b ≡ true) × (w ≡ v)) ⊎ (b ≡ false)
told w v true h = inl (refl, same_text w v (sym h))
told w v false h = inr refl

pub then_some : {A B : Type 0} (r : Option A) (f : A → Option B) (y : B) → (r then f) ≡ Some y → (x : A) × (r ≡ Some x) × (f x ≡ Some y)
then_some (Some x) f y h = (x, refl, h)
then_some None f y h = cc

pub le_cases : (a b : ℕ) → ((nat_le a b ≡ true) × (a ≤ b)) ⊎ ((nat_le a b ≡ false) × (b < a))
le_cases a b = at (nat_le a b) refl
  where
    at : (t : Bool) → nat_le a b ≡ t → ((nat_le a b ≡ true) × (a ≤ b)) ⊎ ((nat_le a b ≡ false) × (b < a))
    at true h = inl (h, grind (arith, nat_tests))
    at false h = inr (h, grind (arith, nat_tests))

module _ {X : Type 0} {text : X → List ℕ} {V : X → Type 0} {More : ℕ → Type 0} {P : List ℕ → Result (X × List ℕ) (List ℕ)} (p : Reads text V More P) where
  pub whole_sound : (w : List ℕ) (x : X) → whole (P w) ≡ Some x → V x × (w ≡ text x)
  whole_sound w x h = at (P w) refl h
    where
      inside : (y : X) (r : List ℕ) → P w ≡ Ok (y, r) → whole (Ok (y, r)) ≡ Some x → V x × (w ≡ text x)
      inside y [] e k =
          let s = p.sound w y [] e in
          let g : y ≡ x = same_Some y x k in
          subst (λ (x : X). V x × (w ≡ text x)) g (s.0, s.1 ∙ append-nil (text y))
      inside y (c ∷ r) e k = absurd (none-some x k)

      at : (r : Result (X × List ℕ) (List ℕ)) → P w ≡ r → whole r ≡ Some x → V x × (w ≡ text x)
      at (Ok a) e k = inside a.0 a.1 e k
      at (Err b) e k = absurd (none-some x k)

  pub whole_complete : (x : X) → V x → whole (P (text x)) ≡ Some x
  whole_complete x v = at (P (text x)) refl
    where
      inside : (y : X) (r : List ℕ) → P (text x) ≡ Ok (y, r) → whole (Ok (y, r)) ≡ Some x
      inside y [] e =
          let s = p.sound (text x) y [] e in
          ap (λ z. Some z) (p.same y x s.0 v (sym (s.1 ∙ append-nil (text y))))
      inside y (c ∷ r) e =
          let s = p.sound (text x) y (c ∷ r) e in
          absurd (p.stops (text x) y c r e x r v s.1)

      at : (r : Result (X × List ℕ) (List ℕ)) → P (text x) ≡ r → whole r ≡ Some x
      at (Ok a) e = inside a.0 a.1 e
      at (Err b) e = absurd (p.none (text x) b e x [] v (sym (append-nil (text x))))

pub number_word_sound : (max : ℕ) (w : List ℕ) (n : ℕ) → 9 ≤ max → max < 2 ^ 64 → number_word max w ≡ Some n → IsUpTo max n × (w ≡ decimal n)
unfolding number_word
number_word_sound max w n low high h = whole_sound (number_Reads max low high) w n h

pub number_word_complete : (max n : ℕ) → 9 ≤ max → max < 2 ^ 64 → IsUpTo max n → number_word max (decimal n) ≡ Some n
unfolding number_word
number_word_complete max n low high v = whole_complete (number_Reads max low high) n v

pub number0_word_sound : (max : ℕ) (w : List ℕ) (n : ℕ) → 9 ≤ max → max < 2 ^ 64 → number0_word max w ≡ Some n → (n ≤ max) × (w ≡ decimal n)
unfolding number0_word
number0_word_sound max w n low high h =
    elim (told w (48 ∷ []) (is w (48 ∷ [])) refl) [
      | inl a ↦
          let e : 0 ≡ n = same_Some 0 n (ap (λ b. cond b (Some 0) (number_word max w)) (sym a.0) ∙ h) in
          (omega arith, a.1 ∙ sym (decimal_digit 0 (omega arith)) ∙ ap decimal e)
      | inr a ↦
          let s = number_word_sound max w n low high (ap (λ b. cond b (Some 0) (number_word max w)) (sym a) ∙ h) in
          (s.0.1, s.1)
    ]

pub number0_word_complete : (max n : ℕ) → 9 ≤ max → max < 2 ^ 64 → n ≤ max → number0_word max (decimal n) ≡ Some n
unfolding number0_word
number0_word_complete max n low high v =
    elim (told (decimal n) (48 ∷ []) (is (decimal n) (48 ∷ [])) refl) [
      | inl a ↦
          let e : n ≡ 0 = decimal_injective n 0 (omega arith) (omega arith) (a.1 ∙ sym (decimal_digit 0 (omega arith))) in
          ap (λ b. cond b (Some 0) (number_word max (decimal n))) a.0 ∙ ap (λ m. Some m) (sym e)
      | inr a ↦ ap (λ b. cond b (Some 0) (number_word max (decimal n))) a ∙ number_word_complete max n low high (positive n a, v)
    ]
  where
    positive : (n : ℕ) → is (decimal n) (48 ∷ []) ≡ false → 1 ≤ n
    positive zero h = absurd (other_text (decimal 0) (48 ∷ []) (sym h) (decimal_digit 0 (omega arith)))
    positive (suc n) h = omega arith

pub number0_bound : (max : ℕ) (w : List ℕ) (n : ℕ) → 9 ≤ max → max < 2 ^ 64 → number0_word max w ≡ Some n → n ≤ max
number0_bound max w n low high h = (number0_word_sound max w n low high h).0

not_minus : (c : ℕ) (cs : List ℕ) → AllDigit (c ∷ cs) → (c == 45) ≡ false
not_minus c cs d = elim (same_or c 45) [ alike e f ↦ absurd (omega (arith, d.0.0)) | unlike e f ↦ f ]

signed_at : Bool → ℕ → List ℕ → Option ℤ
signed_at b c cs = cond b (number_word (2 ^ 63) cs then λ n. Some (negsuc (n - 1))) (number0_word (2 ^ 63 - 1) (c ∷ cs) then λ n. Some (pos n))

pub signed_word_sound : (w : List ℕ) (z : ℤ) → signed_word w ≡ Some z → FitsSigned w64 z × (w ≡ signed_decimal z)
unfolding signed_word signed_at
signed_word_sound [] z h = absurd (none-some z h)
signed_word_sound (c ∷ cs) z h =
    elim (same_or c 45) [
      | alike e f ↦
          let a = then_some (number_word (2 ^ 63) cs) (λ n. Some (negsuc (n - 1))) z (ap (λ b. signed_at b c cs) (sym f) ∙ h) in
          let s = number_word_sound (2 ^ 63) cs a.0 (omega arith) (omega arith) a.1 in
          let g : a.0 ≡ suc (a.0 - 1) = omega (arith, s.0.0) in
          subst (λ z. FitsSigned w64 z × (c ∷ cs ≡ signed_decimal z)) (same_Some (negsuc (a.0 - 1)) z a.2)
          (record { sfits = omega (arith, s.0.0, s.0.1) }, ap (λ c. c ∷ cs) e ∙ ap (λ t. 45 ∷ t) (s.1 ∙ ap decimal g))
      | unlike e f ↦
          let a = then_some (number0_word (2 ^ 63 - 1) (c ∷ cs)) (λ n. Some (pos n)) z (ap (λ b. signed_at b c cs) (sym f) ∙ h) in
          let s = number0_word_sound (2 ^ 63 - 1) (c ∷ cs) a.0 (omega arith) (omega arith) a.1 in
          subst (λ z. FitsSigned w64 z × (c ∷ cs ≡ signed_decimal z)) (same_Some (pos a.0) z a.2)
          (record { sfits = omega (arith, s.0) }, s.1)
    ]

signed_digits : (n : ℕ) (ds : List ℕ) → AllDigit ds → number0_word (2 ^ 63 - 1) ds ≡ Some n → signed_word ds ≡ Some (pos n)
unfolding signed_word number0_word number_word signed_at
signed_digits n [] d h = absurd (none-some n h)
signed_digits n (c ∷ cs) d h = ap (λ b. signed_at b c cs) (not_minus c cs d) ∙ ap (λ r. r then λ n. Some (pos n)) h

pub signed_word_complete : (z : ℤ) → FitsSigned w64 z → signed_word (signed_decimal z) ≡ Some z
unfolding signed_word
signed_word_complete (pos n) v =
    let b : n < 2 ^ 63 = v.sfits in
    signed_digits n (decimal n) (decimal_digits n (omega arith)) (number0_word_complete (2 ^ 63 - 1) n (omega arith) (omega arith) (omega arith))
signed_word_complete (negsuc n) v =
    let b : n < 2 ^ 63 = v.sfits in
    let e : suc n - 1 ≡ n = omega arith in
    ap (λ r. r then λ n. Some (negsuc (n - 1))) (number_word_complete (2 ^ 63) (suc n) (omega arith) (omega arith) (omega arith, omega arith))
    ∙ ap (λ n. Some (negsuc n)) e

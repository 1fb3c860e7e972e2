-- A word is read as an argument exactly where it is the text of one.
use Rattle.std.specs.Prelude.{◌≡◌, ℕ, suc, ◌-◌, ◌^◌, ◌<◌, Bool, false, cond, ◌==◌, List, [], ◌∷◌, Option, Some, None, FitsSigned}
use Rattle.std.proofs.Common.{sym, ◌∙◌, ap, subst, arith}
use Rattle.std.specs.Fmt.{decimal}
use Rattle.std.specs.Int.{w64}
use lib.IntN.{ℤ, pos, negsuc}
use Rattle.u_base.proofs.PartsLaws.{alike, unlike, same_or}
use Rattle.u_base.proofs.NumberLaws.{AllDigit, decimal_digits}
use Rattle.u_base.specs.WholeWords.{◌then◌, number_word, number0_word}
use Rattle.u_base.proofs.WholeWordsLaws.{number_word_sound, number_word_complete, number0_word_sound, number0_word_complete, then_some}
use Rattle.std.proofs.lemmas.Option.{same_Some, none-some}
use Rattle.u_commands.specs.Arguments.{argument_text, IsArgumentOf, argument_word}

argument_at : Bool → ℕ → List ℕ → Option ℤ
argument_at b c cs = cond b (number_word (2 ^ 63) cs then λ n. Some (negsuc (n - 1))) (number0_word (2 ^ 63 - 1) (c ∷ cs) then λ n. Some (pos n))

pub argument_sound : (w : List ℕ) (z : ℤ) → argument_word w ≡ Some z → IsArgumentOf w z
unfolding argument_word argument_at
argument_sound [] z h = absurd (none-some z h)
argument_sound (c ∷ cs) z h =
    elim (same_or c 110) [
      | alike e f ↦
          let a = then_some (number_word (2 ^ 63) cs) (λ n. Some (negsuc (n - 1))) z (ap (λ b. argument_at b c cs) (sym f) ∙ h) in
          let s = number_word_sound (2 ^ 63) cs a.0 (omega arith) (omega arith) a.1 in
          let g : a.0 ≡ suc (a.0 - 1) = omega (arith, s.0.0) in
          subst (λ z. IsArgumentOf (c ∷ cs) z) (same_Some (negsuc (a.0 - 1)) z a.2)
          (record { fits = record { sfits = omega (arith, s.0.0, s.0.1) }; is = ap (λ c. c ∷ cs) e ∙ ap (λ t. 110 ∷ t) (s.1 ∙ ap decimal g) })
      | unlike e f ↦
          let a = then_some (number0_word (2 ^ 63 - 1) (c ∷ cs)) (λ n. Some (pos n)) z (ap (λ b. argument_at b c cs) (sym f) ∙ h) in
          let s = number0_word_sound (2 ^ 63 - 1) (c ∷ cs) a.0 (omega arith) (omega arith) a.1 in
          subst (λ z. IsArgumentOf (c ∷ cs) z) (same_Some (pos a.0) z a.2)
          (record { fits = record { sfits = omega (arith, s.0) }; is = s.1 })
    ]

not_n : (c : ℕ) (cs : List ℕ) → AllDigit (c ∷ cs) → (c == 110) ≡ false
not_n c cs d = elim (same_or c 110) [ alike e f ↦ absurd (omega (arith, d.0.1)) | unlike e f ↦ f ]

argument_digits : (n : ℕ) (ds : List ℕ) → AllDigit ds → number0_word (2 ^ 63 - 1) ds ≡ Some n → argument_word ds ≡ Some (pos n)
unfolding argument_word number0_word number_word argument_at
argument_digits n [] d h = absurd (none-some n h)
argument_digits n (c ∷ cs) d h = ap (λ b. argument_at b c cs) (not_n c cs d) ∙ ap (λ r. r then λ n. Some (pos n)) h

argument_complete : (z : ℤ) → FitsSigned w64 z → argument_word (argument_text z) ≡ Some z
unfolding argument_word
argument_complete (pos n) v =
    let b : n < 2 ^ 63 = v.sfits in
    argument_digits n (decimal n) (decimal_digits n (omega arith)) (number0_word_complete (2 ^ 63 - 1) n (omega arith) (omega arith) (omega arith))
argument_complete (negsuc n) v =
    let b : n < 2 ^ 63 = v.sfits in
    let e : suc n - 1 ≡ n = omega arith in
    ap (λ r. r then λ n. Some (negsuc (n - 1))) (number_word_complete (2 ^ 63) (suc n) (omega arith) (omega arith) (omega arith, omega arith))
    ∙ ap (λ n. Some (negsuc n)) e

-- where no number is read, none is spelt
pub argument_none : (w : List ℕ) → argument_word w ≡ None → (z : ℤ) → IsArgumentOf w z → ⊥
argument_none w h z a = none-some z (sym h ∙ ap argument_word a.is ∙ argument_complete z a.fits)

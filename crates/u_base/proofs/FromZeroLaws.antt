-- The reader of numbers from 0 on reads the longest text of one.
use Rattle.std.specs.Prelude.{◌≡◌, ℕ, zero, suc, ◌^◌, ◌<◌, ◌≤◌, ◌⊎◌, Bool, true, false, cond, ◌==◌, List, [], ◌∷◌, Result, Ok, Err, refl}
use Rattle.std.proofs.Common.{subst, arith, inl, inr}
use Rattle.std.specs.Fmt.{decimal}
use Rattle.std.proofs.lemmas.Fmt.{decimal_digit}
use Rattle.u_base.specs.Reader.{Reader, ◌>>=◌}
use Rattle.u_base.proofs.ReaderLaws.{Reads}
use Rattle.u_base.specs.Parts.{empty}
use Rattle.u_base.proofs.PartsLaws.{empty_Reads, widened}
use Rattle.u_base.specs.Choice.{mapped, choice, IsOne}
use Rattle.u_base.proofs.ChoiceLaws.{mapped_Reads, choice_Reads, one_text}
use Rattle.u_base.specs.Number.{number, IsUpTo}
use Rattle.u_base.proofs.NumberLaws.{IsDigit, number_Reads, number_not_zero}
use Rattle.u_base.specs.FromZero.{number0}
use Rattle.u_base.specs.Fixed.{IsUnit}

-- the same as a choice by the first byte

to_number : Unit {0} ⊎ ℕ → ℕ
to_number = elim [ inl _ ↦ 0 | inr n ↦ n ]

of_number : ℕ → Unit {0} ⊎ ℕ
of_number zero = inl tt
of_number (suc n) = inr (suc n)

abbrev IsRead : ℕ → Unit {0} ⊎ ℕ → Type 0
IsRead max = IsOne IsUnit (IsUpTo max)

abbrev read_text : Unit {0} ⊎ ℕ → List ℕ
read_text = one_text 48 (λ _. []) decimal

there : (max : ℕ) (x : Unit {0} ⊎ ℕ) → IsRead max x → to_number x ≤ max
unfolding to_number
there max (inl z) v = omega arith
there max (inr n) v = v.1

spelled : (max : ℕ) (x : Unit {0} ⊎ ℕ) → IsRead max x → decimal (to_number x) ≡ read_text x
unfolding to_number
spelled max (inl z) v = decimal_digit 0 (omega arith)
spelled max (inr n) v = refl

back : (max n : ℕ) → n ≤ max → IsRead max (of_number n)
unfolding of_number
back max zero v = refl
back max (suc n) v = (omega arith, v)

again : (n : ℕ) → to_number (of_number n) ≡ n
unfolding to_number of_number
again zero = refl
again (suc n) = refl

abbrev by_choice : ℕ → Reader ℕ
by_choice max = mapped to_number (choice 48 (empty tt) (number max))

untouched : (r : Result (ℕ × List ℕ) (List ℕ)) → ◌≡◌ {A = Result (ℕ × List ℕ) (List ℕ)} (◌>>=◌ {A = (Unit {0} ⊎ ℕ) × List ℕ} {B = ℕ × List ℕ} (◌>>=◌ {A = ℕ × List ℕ} {B = (Unit {0} ⊎ ℕ) × List ℕ} r (λ a. Ok (inr a.0, a.1))) (λ a. Ok (to_number a.0, a.1))) r
unfolding to_number
untouched (Ok a) = refl
untouched (Err e) = refl

is_choice : (max : ℕ) (bs : List ℕ) → by_choice max bs ≡ number0 max bs
unfolding to_number
is_choice max [] = refl
is_choice max (c ∷ cs) = step (c == 48)
  where
    step : (t : Bool) → ◌≡◌ {A = Result (ℕ × List ℕ) (List ℕ)} (◌>>=◌ {A = (Unit {0} ⊎ ℕ) × List ℕ} {B = ℕ × List ℕ} (cond t (mapped {X = Unit {0}} {Z = Unit {0} ⊎ ℕ} inl (empty tt) cs) (mapped {X = ℕ} {Z = Unit {0} ⊎ ℕ} inr (number max) (c ∷ cs))) (λ a. Ok (to_number a.0, a.1))) (cond t (Ok (0, cs)) (number max (c ∷ cs)))
    step true = refl
    step false = untouched (number max (c ∷ cs))

module _ (max : ℕ) (low : 9 ≤ max) (high : max < 2 ^ 64) where
  pub number0_Reads : Reads decimal (λ n. n ≤ max) IsDigit (number0 max)
  number0_Reads =
      subst (λ (P : List ℕ → Result (ℕ × List ℕ) (List ℕ)). Reads decimal (λ n. n ≤ max) IsDigit P) (λ i bs. is_choice max bs i)
      (mapped_Reads (choice_Reads 48 (widened (λ c n. absurd n) (empty_Reads tt)) (number_Reads max low high) (number_not_zero max low high))
      {f = to_number} {g = of_number}
      (record { there = there max; spelled = spelled max; back = back max; again = λ n _. again n }))

-- a number that is read is in range
pub number0_at_bound : (max : ℕ) (bs : List ℕ) (x : ℕ) (rest : List ℕ) → 9 ≤ max → max < 2 ^ 64 → number0 max bs ≡ Ok (x, rest) → x ≤ max
number0_at_bound max bs x rest low high h = ((number0_Reads max low high).sound bs x rest h).0

-- The reader of signed numbers reads the longest text of one.
use Rattle.std.specs.Prelude.{◌≡◌, ℕ, suc, ◌-◌, ◌^◌, ◌<◌, ◌≤◌, ◌⊎◌, Bool, true, false, cond, ◌==◌, List, [], ◌∷◌, ◌++◌, Result, Ok, Err, FitsSigned, refl}
use Rattle.std.proofs.Common.{sym, ap, subst, arith, inl, inr}
use Rattle.std.specs.Fmt.{decimal, signed_decimal}
use Rattle.std.specs.Int.{w64}
use lib.IntN.{ℤ, pos, negsuc}
use Rattle.u_base.specs.Reader.{Reader, ◌>>=◌}
use Rattle.u_base.proofs.ReaderLaws.{Reads}
use Rattle.u_base.specs.Choice.{mapped, choice, IsOne}
use Rattle.u_base.proofs.ChoiceLaws.{mapped_Reads, choice_Reads, one_text}
use Rattle.u_base.specs.Number.{number, IsUpTo}
use Rattle.u_base.proofs.NumberLaws.{IsDigit, number_Reads, decimal_first}
use Rattle.u_base.specs.FromZero.{number0}
use Rattle.u_base.proofs.FromZeroLaws.{number0_Reads}
use Rattle.u_base.specs.Signed.{signed}

-- the same as a choice by the first byte

to_signed : ℕ ⊎ ℕ → ℤ
to_signed = elim [ inl n ↦ negsuc (n - 1) | inr n ↦ pos n ]

of_signed : ℤ → ℕ ⊎ ℕ
of_signed (pos n) = inr n
of_signed (negsuc n) = inl (suc n)

abbrev IsRead : ℕ ⊎ ℕ → Type 0
IsRead = IsOne (IsUpTo (2 ^ 63)) (λ n. n ≤ 2 ^ 63 - 1)

abbrev read_text : ℕ ⊎ ℕ → List ℕ
read_text = one_text 45 decimal decimal

there : (x : ℕ ⊎ ℕ) → IsRead x → FitsSigned w64 (to_signed x)
unfolding to_signed
there (inl n) v = record { sfits = omega (arith, v.0, v.1) }
there (inr n) v = record { sfits = omega (arith, v) }

spelled : (x : ℕ ⊎ ℕ) → IsRead x → signed_decimal (to_signed x) ≡ read_text x
unfolding to_signed
spelled (inl n) v = let e : suc (n - 1) ≡ n = omega (arith, v.0) in ap (λ m. 45 ∷ decimal m) e
spelled (inr n) v = refl

back : (z : ℤ) → FitsSigned w64 z → IsRead (of_signed z)
unfolding of_signed
back (pos n) v = let b : n < 2 ^ 63 = v.sfits in omega arith
back (negsuc n) v = let b : n < 2 ^ 63 = v.sfits in (omega arith, omega arith)

again : (z : ℤ) → to_signed (of_signed z) ≡ z
unfolding to_signed of_signed
again (pos n) = refl
again (negsuc n) = let e : suc n - 1 ≡ n = omega arith in ap negsuc e

abbrev by_choice : Reader ℤ
by_choice = mapped to_signed (choice 45 (number (2 ^ 63)) (number0 (2 ^ 63 - 1)))

left : (r : Result (ℕ × List ℕ) (List ℕ)) → ◌≡◌ {A = Result (ℤ × List ℕ) (List ℕ)} (◌>>=◌ {A = (ℕ ⊎ ℕ) × List ℕ} {B = ℤ × List ℕ} (◌>>=◌ {A = ℕ × List ℕ} {B = (ℕ ⊎ ℕ) × List ℕ} r (λ a. Ok (inl a.0, a.1))) (λ a. Ok (to_signed a.0, a.1))) (◌>>=◌ {A = ℕ × List ℕ} {B = ℤ × List ℕ} r (λ a. Ok (negsuc (a.0 - 1), a.1)))
unfolding to_signed
left (Ok a) = refl
left (Err e) = refl

right : (r : Result (ℕ × List ℕ) (List ℕ)) → ◌≡◌ {A = Result (ℤ × List ℕ) (List ℕ)} (◌>>=◌ {A = (ℕ ⊎ ℕ) × List ℕ} {B = ℤ × List ℕ} (◌>>=◌ {A = ℕ × List ℕ} {B = (ℕ ⊎ ℕ) × List ℕ} r (λ a. Ok (inr a.0, a.1))) (λ a. Ok (to_signed a.0, a.1))) (◌>>=◌ {A = ℕ × List ℕ} {B = ℤ × List ℕ} r (λ a. Ok (pos a.0, a.1)))
unfolding to_signed
right (Ok a) = refl
right (Err e) = refl

is_choice : (bs : List ℕ) → by_choice bs ≡ signed bs
unfolding to_signed
is_choice [] = refl
is_choice (c ∷ cs) = step (c == 45)
  where
    step : (t : Bool) → ◌≡◌ {A = Result (ℤ × List ℕ) (List ℕ)} (◌>>=◌ {A = (ℕ ⊎ ℕ) × List ℕ} {B = ℤ × List ℕ} (cond t (mapped {X = ℕ} {Z = ℕ ⊎ ℕ} inl (number (2 ^ 63)) cs) (mapped {X = ℕ} {Z = ℕ ⊎ ℕ} inr (number0 (2 ^ 63 - 1)) (c ∷ cs))) (λ a. Ok (to_signed a.0, a.1))) (cond t (mapped (λ n. negsuc (n - 1)) (number (2 ^ 63)) cs) (mapped pos (number0 (2 ^ 63 - 1)) (c ∷ cs)))
    step true = left (number (2 ^ 63) cs)
    step false = right (number0 (2 ^ 63 - 1) (c ∷ cs))

no_minus : (n : ℕ) (u v : List ℕ) → n ≤ 2 ^ 63 - 1 → decimal n ++ u ≡ 45 ∷ v → ⊥
no_minus n u v w e = omega (arith, (decimal_first n (omega arith) 45 u v e).0)

pub signed_Reads : Reads signed_decimal (FitsSigned w64) IsDigit signed
signed_Reads =
    subst (λ (P : List ℕ → Result (ℤ × List ℕ) (List ℕ)). Reads signed_decimal (FitsSigned w64) IsDigit P) (λ i bs. is_choice bs i)
    (mapped_Reads (choice_Reads 45 (number_Reads (2 ^ 63) (omega arith) (omega arith)) (number0_Reads (2 ^ 63 - 1) (omega arith) (omega arith)) no_minus)
    {f = to_signed} {g = of_signed}
    (record { there = there; spelled = spelled; back = back; again = λ z _. again z }))

-- a signed number begins with a minus or a digit
pub signed_first : (z : ℤ) → FitsSigned w64 z → (c : ℕ) (u v : List ℕ) → signed_decimal z ++ u ≡ c ∷ v → (c ≡ 45) ⊎ IsDigit c
signed_first (pos n) w c u v e = let b : n < 2 ^ 63 = w.sfits in inr (decimal_first n (omega arith) c u v e)
signed_first (negsuc n) w c u v e = inl (let f : 45 ≡ c = cc in sym f)

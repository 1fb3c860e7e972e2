-- Results in and out of the range of 64 bits.
use Rattle.std.proofs.Common.{◌≡◌, ℤ, pos, true, false, FitsSigned, Option, Some, None, SomeIff, int_div, Err, refl, arith}
use Rattle.std.specs.Int.{w64, CanDivide}
use Rattle.std.specs.Ordering.{int_eq}
use Rattle.std.specs.Cmp.{signed_Decides}
use Rattle.std.proofs.lemmas.Int.{ints}
use Rattle.u_value.specs.Operators.{divided, int_or_overflow, is_in_range, number_or_overflow}
use Rattle.u_value.specs.declared.fault_kind.FaultKind.TheVariants.{Zero}

in_range : (z : ℤ) → FitsSigned w64 z → is_in_range z ≡ true
in_range z h = grind (arith, ints)

out_of_range : (z : ℤ) → (FitsSigned w64 z → ⊥) → is_in_range z ≡ false
out_of_range z h = grind (arith, ints)

-- a number that is given exactly where it fits is the one of the table
pub fitting_number : (o : Option ℤ) (z : ℤ) → SomeIff o (FitsSigned w64 z) z → number_or_overflow o ≡ int_or_overflow z
fitting_number (Some x) z h = rw (in_range z h.0, h.1) refl
fitting_number None z h = rw (out_of_range z h) refl

not_zero : (b : ℤ) → (b ≡ pos 0 → ⊥) → int_eq b (pos 0) ≡ false
not_zero b h = grind (arith, signed_Decides b (pos 0))

-- division by 0
pub divided_by_zero : (a b z : ℤ) → b ≡ pos 0 → divided a b z ≡ Err Zero
divided_by_zero a b z h = rw h refl

-- and by another number, with a result that is given exactly where the quotient fits
pub fitting_division : (o : Option ℤ) (a b z : ℤ) → FitsSigned w64 b → (b ≡ pos 0 → ⊥) → SomeIff o (CanDivide w64 a b) z → number_or_overflow o ≡ divided a b z
fitting_division (Some x) a b z f n h = rw (not_zero b n, in_range (int_div a b) h.0.1, h.1) refl
fitting_division None a b z f n h =
    let k : FitsSigned w64 (int_div a b) → ⊥ = λ q. h (omega (arith, ints), q) in
    rw (not_zero b n, out_of_range (int_div a b) k) refl

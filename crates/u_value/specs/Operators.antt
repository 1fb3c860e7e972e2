-- What the operators give.
use Rattle.std.specs.Prelude
use Rattle.std.specs.Prelude.{ℤ, pos, neg_ℤ, ◌+ℤ◌, ◌-ℤ◌, ◌*ℤ◌, ◌^◌, true, false, not, ◌&&◌, ◌||◌, int_div, int_rem, int_le}
use Rattle.std.specs.Prelude.{int_lt, if◌then◌else◌, Option, Some, None, Result, Ok, Err}
use Rattle.std.specs.Ordering.{int_eq}
use Rattle.u_value.specs.declared.value.Value.{Value}
use Rattle.u_value.specs.declared.value.Value.TheVariants.{Int, Bool, Ref}
use Rattle.u_value.specs.declared.fault_kind.FaultKind.{FaultKind}
use Rattle.u_value.specs.declared.fault_kind.FaultKind.TheVariants.{Kind, Overflow, Zero}
use Rattle.u_value.specs.declared.operators.UnaryOperator.{UnaryOperator}
use Rattle.u_value.specs.declared.operators.UnaryOperator.TheVariants.{Not, Length}
use Rattle.u_value.specs.declared.operators.BinaryOperator.{BinaryOperator}
use Rattle.u_value.specs.declared.operators.BinaryOperator.TheVariants.{And, Or, Add, Sub, Mul, Div, Rem, Lt, Le, Eq}

-- the number is a signed one of 64 bits
abbrev pub is_in_range : ℤ → Prelude.Bool
is_in_range z = int_le (neg_ℤ (pos (2 ^ 63))) z && int_lt z (pos (2 ^ 63))

-- the number where it is in range
abbrev pub int_or_overflow : ℤ → Result Value FaultKind
int_or_overflow z = if is_in_range z then Ok (Int z) else Err Overflow

-- the number where there is one
abbrev pub number_or_overflow : Option ℤ → Result Value FaultKind
number_or_overflow (Some z) = Ok (Int z)
number_or_overflow None = Err Overflow

-- what a division of a by b gives, its quotient or its rest: the divisor is not 0, and the
-- quotient is in range, which it is but for the least number by -1
abbrev pub divided : ℤ → ℤ → ℤ → Result Value FaultKind
divided a b z = if int_eq b (pos 0) then Err Zero else if is_in_range (int_div a b) then Ok (Int z) else Err Overflow

-- an operator on two numbers, and one on two truth values: operands of other kinds are tested before all else
abbrev pub of_numbers : (ℤ → ℤ → Result Value FaultKind) → Value → Value → Result Value FaultKind
of_numbers f (Int a) (Int b) = f a b
of_numbers f a b = Err Kind

abbrev pub of_truths : (Prelude.Bool → Prelude.Bool → Prelude.Bool) → Value → Value → Result Value FaultKind
of_truths f (Bool a) (Bool b) = Ok (Bool (f a b))
of_truths f a b = Err Kind

abbrev pub applied1 : UnaryOperator → Value → Result Value FaultKind
applied1 Not (Bool a) = Ok (Bool (not a))
applied1 Length (Ref p) = Ok (Int (pos p.length))
applied1 operator a = Err Kind

-- division is cut toward zero, and the rest has the sign of the dividend
abbrev pub applied2 : BinaryOperator → Value → Value → Result Value FaultKind
applied2 And = of_truths (λ a b. a && b)
applied2 Or = of_truths (λ a b. a || b)
applied2 Add = of_numbers (λ a b. int_or_overflow (a +ℤ b))
applied2 Sub = of_numbers (λ a b. int_or_overflow (a -ℤ b))
applied2 Mul = of_numbers (λ a b. int_or_overflow (a *ℤ b))
applied2 Div = of_numbers (λ a b. divided a b (int_div a b))
applied2 Rem = of_numbers (λ a b. divided a b (int_rem a b))
applied2 Lt = of_numbers (λ a b. Ok (Bool (int_lt a b)))
applied2 Le = of_numbers (λ a b. Ok (Bool (int_le a b)))
applied2 Eq = of_numbers (λ a b. Ok (Bool (int_eq a b)))

-- the second value where the first is true, the third where it is false
abbrev pub chosen : Value → Value → Value → Result Value FaultKind
chosen (Bool true) a b = Ok a
chosen (Bool false) a b = Ok b
chosen control a b = Err Kind

-- What statements make of values that lie in their ranges lies in them.
use Rattle.std.proofs.Common.{◌≡◌, refl, arith, Bool, true, false, ℕ, ◌≤◌, ℤ, pos, int_div, int_rem, unsigned_abs, cond, [], ◌∷◌, Option, Some, None, Result, Ok, Err, FitsSigned}
use Rattle.std.specs.Prelude.{◌+ℤ◌, ◌-ℤ◌, ◌*ℤ◌, int_le, ◌&&◌, IfOk}
use Rattle.std.specs.Int.{w64}
use Rattle.std.specs.List.{list_all}
use Rattle.std.specs.Ordering.{int_eq}
use Rattle.std.proofs.lemmas.Int.{ints, fits_signed_from_abs}
use Rattle.u_name.specs.Name.{Activity, IsName}
use Rattle.u_name.specs.Cell.{CellOf, cell_of, IsCell}
use Rattle.u_value.specs.Operators.{is_in_range, int_or_overflow, divided, of_numbers, of_truths, applied1, applied2, chosen}
use Rattle.u_value.specs.Pointer.{pointer}
use Rattle.u_value.specs.Reading.{IsValue}
use Rattle.u_value.specs.declared.value.Value.{Value}
use Rattle.u_value.specs.declared.value.Value.TheVariants as values
use Rattle.u_value.specs.declared.fault_kind.FaultKind.{FaultKind}
use Rattle.u_value.specs.declared.fault_kind.FaultKind.TheVariants as faults
use Rattle.u_value.specs.declared.operators.UnaryOperator.{UnaryOperator}
use Rattle.u_value.specs.declared.operators.UnaryOperator.TheVariants.{Not, Length}
use Rattle.u_value.specs.declared.operators.BinaryOperator.{BinaryOperator}
use Rattle.u_value.specs.declared.operators.BinaryOperator.TheVariants.{And, Or, Add, Sub, Mul, Div, Rem, Lt, Le, Eq}
use Rattle.u_value.proofs.Division.{divides}
use Rattle.u_program.specs.Limits.{IsConstant, IsKind}
use Rattle.u_program.specs.declared.program.Constant.{Constant}
use Rattle.u_program.specs.declared.program.Constant.TheVariants as constants
use Rattle.u_program.specs.declared.program.Kind.{Kind}
use Rattle.u_program.specs.declared.program.Kind.TheVariants.{Const, Unary, Binary, Select, Switch, Alloc, Fetch, Ask}
use Rattle.u_rule.specs.Parts.{ValueList}
use Rattle.u_rule.specs.Structures.{is_index, cell_named, is_plain, allocated, asked, value_read, fetched}
use Rattle.u_rule.specs.Rule.{value_of, first_of, unary_of, binary_of, selected_of, switched_of, result_of}
use Rattle.u_rule.specs.FiringReading.{AreValues, IsWritten}
use Rattle.u_rule.specs.declared.parts.Written.{Written}

-- the value is in its range, where there is one
abbrev pub IsMade : Result Value FaultKind → Type 0
IsMade r = IfOk r IsValue

-- the cell is in its range, where there is one
abbrev pub IsNamedCell : Result CellOf FaultKind → Type 0
IsNamedCell r = IfOk r (λ c. IsName c.name × IsCell c)

fits_in_range : (z : ℤ) → is_in_range z ≡ true → FitsSigned w64 z
fits_in_range z h = grind (arith, ints)

number_made : (z : ℤ) → IsMade (int_or_overflow z)
number_made z = at (is_in_range z) refl
  where
    at : (x : Bool) → is_in_range z ≡ x → IsMade (cond x (Ok (values.Int z)) (Err faults.Overflow))
    at true h = fits_in_range z h
    at false h = tt

not_zero : (b : ℤ) → int_eq b (pos 0) ≡ false → b ≡ pos 0 → ⊥
not_zero b h e = grind (arith, ints)

-- a rest is smaller than the divisor
rest_fits : (a b : ℤ) → FitsSigned w64 b → (b ≡ pos 0 → ⊥) → FitsSigned w64 (int_rem a b)
rest_fits a b f n = let s = (divides a b n).small in fits_signed_from_abs w64 (int_rem a b) (grind (arith, ints))

divided_made : (a b z : ℤ) → ((b ≡ pos 0 → ⊥) → FitsSigned w64 (int_div a b) → FitsSigned w64 z) → IsMade (divided a b z)
divided_made a b z f = at (int_eq b (pos 0)) (is_in_range (int_div a b)) refl refl
  where
    at : (x y : Bool) → int_eq b (pos 0) ≡ x → is_in_range (int_div a b) ≡ y → IsMade (cond x (Err faults.Zero) (cond y (Ok (values.Int z)) (Err faults.Overflow)))
    at true y h k = tt
    at false true h k = f (not_zero b h) (fits_in_range (int_div a b) k)
    at false false h k = tt

numbers_made : (f : ℤ → ℤ → Result Value FaultKind) → ((a b : ℤ) → FitsSigned w64 b → IsMade (f a b)) → (v w : Value) → IsValue w → IsMade (of_numbers f v w)
numbers_made f h (values.Int a) (values.Int b) j = h a b j
numbers_made f h v w j = tt

truths_made : (f : Bool → Bool → Bool) → (v w : Value) → IsMade (of_truths f v w)
truths_made f (values.Bool a) (values.Bool b) = tt
truths_made f v w = tt

length_fits : (n : ℕ) → n ≤ 1000000 → FitsSigned w64 (pos n)
length_fits n h = grind (arith, ints)

applied1_made : (operator : UnaryOperator) (v : Value) → IsValue v → IsMade (applied1 operator v)
applied1_made Not (values.Bool a) i = tt
applied1_made Length (values.Ref p) i = length_fits p.length i.1.short
applied1_made operator v i = tt

applied2_made : (operator : BinaryOperator) (v w : Value) → IsValue w → IsMade (applied2 operator v w)
applied2_made And v w j = truths_made _ v w
applied2_made Or v w j = truths_made _ v w
applied2_made Add v w j = numbers_made _ (λ a b g. number_made (a +ℤ b)) v w j
applied2_made Sub v w j = numbers_made _ (λ a b g. number_made (a -ℤ b)) v w j
applied2_made Mul v w j = numbers_made _ (λ a b g. number_made (a *ℤ b)) v w j
applied2_made Div v w j = numbers_made _ (λ a b g. divided_made a b (int_div a b) (λ n h. h)) v w j
applied2_made Rem v w j = numbers_made _ (λ a b g. divided_made a b (int_rem a b) (λ n h. rest_fits a b g n)) v w j
applied2_made Lt v w j = numbers_made _ (λ a b g. tt) v w j
applied2_made Le v w j = numbers_made _ (λ a b g. tt) v w j
applied2_made Eq v w j = numbers_made _ (λ a b g. tt) v w j

chosen_made : (control v w : Value) → IsValue v → IsValue w → IsMade (chosen control v w)
chosen_made (values.Bool true) v w i j = i
chosen_made (values.Bool false) v w i j = j
chosen_made control v w i j = tt

constant_made : (c : Constant) → IsConstant c → IsValue (value_of c)
constant_made (constants.Int n) i = i
constant_made (constants.Bool b) i = tt
constant_made (constants.Proc block) i = i

pub first_made : (vs : ValueList) → AreValues vs → IsMade (first_of vs)
first_made [] i = tt
first_made (v ∷ vs) i = i.0

unary_made : (operator : UnaryOperator) (vs : ValueList) → AreValues vs → IsMade (unary_of operator vs)
unary_made operator [] i = tt
unary_made operator (v ∷ vs) i = applied1_made operator v i.0

binary_made : (operator : BinaryOperator) (vs : ValueList) → AreValues vs → IsMade (binary_of operator vs)
binary_made operator (v ∷ w ∷ vs) i = applied2_made operator v w i.1.0
binary_made operator vs i = tt

selected_made : (vs : ValueList) → AreValues vs → IsMade (selected_of vs)
selected_made (control ∷ v ∷ w ∷ vs) i = chosen_made control v w i.1.0 i.1.1.0
selected_made vs i = tt

switched_made : (vs : ValueList) → AreValues vs → IsMade (switched_of vs)
switched_made (v ∷ values.Bool b ∷ vs) i = i.0
switched_made vs i = tt

length_short : (z : ℤ) → (int_le (pos 0) z && int_le z (pos 1000000)) ≡ true → unsigned_abs z ≤ 1000000
length_short z h = grind (arith, ints)

allocated_made : (a : Activity) (vs : ValueList) → IsName a → IsMade (allocated a vs)
allocated_made a (values.Int z ∷ vs) n = at (int_le (pos 0) z && int_le z (pos 1000000)) refl
  where
    at : (x : Bool) → (int_le (pos 0) z && int_le z (pos 1000000)) ≡ x → IsMade (cond x (Ok (values.Ref (pointer a (unsigned_abs z)))) (Err faults.Length))
    at true h = (n, record { short = length_short z h })
    at false h = tt
allocated_made a vs n = tt

asked_made : (a : Activity) (vs : ValueList) → IsName a → IsMade (asked a vs)
asked_made a vs n = at (list_all is_plain vs)
  where
    at : (x : Bool) → IsMade (cond x (Ok (values.Ref (pointer a 1))) (Err faults.Kind))
    at true = (n, record { short = omega arith })
    at false = tt

read_made : (write : Option Written) → IsWritten write → IsMade (value_read write)
read_made None i = tt
read_made (Some w) i = i.1

fetched_made : (r : Result CellOf FaultKind) (write : Option Written) → IsWritten write → IsMade (fetched r write)
fetched_made (Ok cell) write i = read_made write i
fetched_made (Err why) write i = tt

index_short : (z : ℤ) (l : ℕ) → is_index z l ≡ true → l ≤ 1000000 → unsigned_abs z ≤ 999999
index_short z l h s = grind (arith, ints)

-- the cell that two values name
pub cell_in_range : (vs : ValueList) → AreValues vs → IsNamedCell (cell_named vs)
cell_in_range (values.Ref p ∷ values.Int z ∷ vs) i = at (is_index z p.length) refl
  where
    at : (x : Bool) → is_index z p.length ≡ x → IsNamedCell (cond x (Ok (cell_of p.name (unsigned_abs z))) (Err faults.Bounds))
    at true h = (i.0.0, record { within = index_short z p.length h i.0.1.short })
    at false h = tt
cell_in_range vs i = tt

-- the value that a statement makes
pub result_made : (k : Kind) (a : Activity) (vs : ValueList) (write : Option Written) → IsKind k → IsName a → AreValues vs → IsWritten write → IsMade (result_of k a vs write)
unfolding result_of
result_made (Const c) a vs write k n i w = constant_made c k
result_made (Unary operator) a vs write k n i w = unary_made operator vs i
result_made (Binary operator) a vs write k n i w = binary_made operator vs i
result_made Select a vs write k n i w = selected_made vs i
result_made Switch a vs write k n i w = switched_made vs i
result_made Alloc a vs write k n i w = allocated_made a vs n
result_made Fetch a vs write k n i w = fetched_made (cell_named vs) write w
result_made (Ask s c) a vs write k n i w = asked_made a vs n
result_made other a vs write k n i w = first_made vs i

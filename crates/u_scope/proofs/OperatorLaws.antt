-- An operator of the machine gives a value only where its operands are of the kinds that are wanted of them, and then
-- one of the kind that is known of it.
use Rattle.std.specs.Prelude
use Rattle.std.proofs.Common.{◌≡◌, ℤ, true, false, Option, Some, None, Result, Ok, Err, refl, ap}
use Rattle.std.specs.Prelude.{pos, ◌+ℤ◌, ◌-ℤ◌, ◌*ℤ◌, ◌&&◌, ◌||◌, if◌then◌else◌, int_div, int_rem, int_le, int_lt}
use Rattle.std.specs.Ordering.{int_eq}
use Rattle.u_source.specs.declared.form.Form.{Form}
use Rattle.u_source.specs.declared.form.Form.TheVariants as form
use Rattle.u_value.specs.declared.fault_kind.FaultKind.{FaultKind}
use Rattle.u_value.specs.declared.fault_kind.FaultKind.TheVariants.{Overflow, Zero}
use Rattle.u_value.specs.declared.operators.BinaryOperator.TheVariants as machine
use Rattle.u_value.specs.declared.operators.UnaryOperator.TheVariants as machine1
use Rattle.u_value.specs.declared.value.Value.{Value}
use Rattle.u_value.specs.declared.value.Value.TheVariants.{Int, Bool, Proc, Ref}
use Rattle.u_value.specs.Operators.{applied1, applied2, of_numbers, of_truths, int_or_overflow, divided, is_in_range}
use Rattle.u_scope.specs.declared.clash.Wants.{Wants}
use Rattle.u_scope.specs.declared.clash.Wants.TheVariants as wants
use Rattle.u_scope.specs.declared.kind.Kind.{Kind}
use Rattle.u_scope.specs.declared.kind.Kind.TheVariants.{Number, Truth, Procedure, Structure}
use Rattle.u_scope.specs.declared.kinded.Origin.{Origin}
use Rattle.u_scope.specs.declared.kinded.Origin.TheVariants as origin
use Rattle.u_scope.specs.Clashes.{wanted, wants_of}
use Rattle.u_scope.specs.Kinds.{origin_of}

-- the kind of a value
abbrev pub kind_of_value : Value → Kind
kind_of_value (Int n) = Number
kind_of_value (Bool b) = Truth
kind_of_value (Proc x) = Procedure
kind_of_value (Ref p) = Structure

abbrev Given : Type 0
Given = Result Value FaultKind

abbrev negated : Given → Given
negated (Ok v) = applied1 machine1.Not v
negated (Err f) = Err f

-- what an operator of one operand gives: `-a` is `0 - a`
abbrev pub given1 : Form → Value → Option Given
given1 form.Not a = Some (applied1 machine1.Not a)
given1 form.Length a = Some (applied1 machine1.Length a)
given1 form.Negate a = Some (applied2 machine.Sub (Int (pos 0)) a)
given1 f a = None

-- what an operator of two operands gives: `a > b` is `b < a`, and `a != b` is `not (a == b)`
abbrev pub given2 : Form → Value → Value → Option Given
given2 form.Or a b = Some (applied2 machine.Or a b)
given2 form.And a b = Some (applied2 machine.And a b)
given2 form.Less a b = Some (applied2 machine.Lt a b)
given2 form.AtMost a b = Some (applied2 machine.Le a b)
given2 form.Greater a b = Some (applied2 machine.Lt b a)
given2 form.AtLeast a b = Some (applied2 machine.Le b a)
given2 form.Equal a b = Some (applied2 machine.Eq a b)
given2 form.Unequal a b = Some (negated (applied2 machine.Eq a b))
given2 form.Add a b = Some (applied2 machine.Add a b)
given2 form.Subtract a b = Some (applied2 machine.Sub a b)
given2 form.Multiply a b = Some (applied2 machine.Mul a b)
given2 form.Divide a b = Some (applied2 machine.Div a b)
given2 form.Remainder a b = Some (applied2 machine.Rem a b)
given2 f a b = None

-- a value is of the kind that is known of it
abbrev pub IsOf : Origin → Value → Type 0
IsOf (origin.Always k) v = k ≡ kind_of_value v
IsOf o v = ⊥

-- operands are of the kinds that are wanted
abbrev pub Fits1 : Wants → Value → Type 0
Fits1 (wants.One x) a = x ≡ wanted 0 (kind_of_value a)
Fits1 w a = ⊥

abbrev pub Fits2 : Wants → Value → Value → Type 0
Fits2 (wants.Two x y) a b = (x ≡ wanted 1 (kind_of_value a)) × (y ≡ wanted 0 (kind_of_value b))
Fits2 w a b = ⊥

abbrev AreOf : Kind → Kind → Value → Value → Value → Type 0
AreOf k r a b v = (k ≡ kind_of_value a) × (k ≡ kind_of_value b) × (r ≡ kind_of_value v)

given : {o w : Given} → Some o ≡ Some w → o ≡ w
given h = cc

truths : (g : Prelude.Bool → Prelude.Bool → Prelude.Bool) (a b v : Value) → of_truths g a b ≡ Ok v → AreOf Truth Truth a b v
truths g (Bool x) (Bool y) v h = let same : Bool (g x y) ≡ v = cc in (refl, refl, ap kind_of_value same)
truths g (Bool x) (Int y) v h = cc
truths g (Bool x) (Proc y) v h = cc
truths g (Bool x) (Ref y) v h = cc
truths g (Int x) b v h = cc
truths g (Proc x) b v h = cc
truths g (Ref x) b v h = cc

numbers : (r : Kind) (g : ℤ → ℤ → Given) (a b v : Value) → ((x y : ℤ) → g x y ≡ Ok v → r ≡ kind_of_value v) → of_numbers g a b ≡ Ok v → AreOf Number r a b v
numbers r g (Int x) (Int y) v k h = (refl, refl, k x y h)
numbers r g (Int x) (Bool y) v k h = cc
numbers r g (Int x) (Proc y) v k h = cc
numbers r g (Int x) (Ref y) v k h = cc
numbers r g (Bool x) b v k h = cc
numbers r g (Proc x) b v k h = cc
numbers r g (Ref x) b v k h = cc

truth_of : (t : Prelude.Bool) (v : Value) → ◌≡◌ {A = Given} (Ok (Bool t)) (Ok v) → Truth ≡ kind_of_value v
truth_of t v h = let same : Bool t ≡ v = cc in ap kind_of_value same

number_if : (c : Prelude.Bool) (z : ℤ) (f : FaultKind) (v : Value) → (if c then Ok (Int z) else Err f) ≡ Ok v → Number ≡ kind_of_value v
number_if true z f v h = let same : Int z ≡ v = cc in ap kind_of_value same
number_if false z f v h = cc

divided_if : (c : Prelude.Bool) (f : FaultKind) (o : Given) (v : Value) → (o ≡ Ok v → Number ≡ kind_of_value v) → (if c then Err f else o) ≡ Ok v → Number ≡ kind_of_value v
divided_if true f o v k h = cc
divided_if false f o v k h = k h

fits2 : (k : Kind) (a b : Value) → k ≡ kind_of_value a → k ≡ kind_of_value b → (wanted 1 k ≡ wanted 1 (kind_of_value a)) × (wanted 0 k ≡ wanted 0 (kind_of_value b))
fits2 k a b p q = (ap (λ i. wanted 1 i) p, ap (λ i. wanted 0 i) q)

-- the operands and the value of an operator of two operands
pack : (k r : Kind) (a b v : Value) → AreOf k r a b v → ((wanted 1 k ≡ wanted 1 (kind_of_value a)) × (wanted 0 k ≡ wanted 0 (kind_of_value b))) × (r ≡ kind_of_value v)
pack k r a b v h = (fits2 k a b h.0 h.1, h.2)

swapped : (k r : Kind) (a b v : Value) → AreOf k r b a v → AreOf k r a b v
swapped k r a b v h = (h.1, h.0, h.2)

negated_of : (o : Given) (v : Value) → negated o ≡ Ok v → (u : Value) × (o ≡ Ok u) × (Truth ≡ kind_of_value v)
negated_of (Err f) v h = cc
negated_of (Ok (Int x)) v h = cc
negated_of (Ok (Proc x)) v h = cc
negated_of (Ok (Ref x)) v h = cc
negated_of (Ok (Bool x)) v h = (Bool x, refl, truth_of (Prelude.not x) v h)

compared : (f : ℤ → ℤ → Prelude.Bool) (a b v : Value) → of_numbers (λ x y. Ok (Bool (f x y))) a b ≡ Ok v → AreOf Number Truth a b v
compared f a b v h = numbers Truth (λ x y. Ok (Bool (f x y))) a b v (λ x y g. truth_of (f x y) v g) h

computed : (f : ℤ → ℤ → ℤ) (a b v : Value) → of_numbers (λ x y. int_or_overflow (f x y)) a b ≡ Ok v → AreOf Number Number a b v
computed f a b v h = numbers Number (λ x y. int_or_overflow (f x y)) a b v (λ x y g. number_if (is_in_range (f x y)) (f x y) Overflow v g) h

parted : (f : ℤ → ℤ → ℤ) (a b v : Value) → of_numbers (λ x y. divided x y (f x y)) a b ≡ Ok v → AreOf Number Number a b v
parted f a b v h = numbers Number (λ x y. divided x y (f x y)) a b v (λ x y g. divided_if (int_eq y (pos 0)) Zero (if is_in_range (int_div x y) then Ok (Int (f x y)) else Err Overflow) v (λ k. number_if (is_in_range (int_div x y)) (f x y) Overflow v k) g) h

unequal : (a b v : Value) → negated (applied2 machine.Eq a b) ≡ Ok v → AreOf Number Truth a b v
unequal a b v h =
    let n = negated_of (applied2 machine.Eq a b) v h in
    let c : AreOf Number Truth a b n.0 = compared int_eq a b n.0 n.1 in
    (c.0, c.1, n.2)

-- where an operator of two operands gives a value, its operands are of the kinds that are wanted, and the value is of
-- the kind that is known of it
pub two_operands : (f : Form) (a b v : Value) → given2 f a b ≡ Some (Ok v) → Fits2 (wants_of f) a b × IsOf (origin_of f) v
two_operands form.Or a b v h = pack Truth Truth a b v (truths (λ x y. x || y) a b v (given h))
two_operands form.And a b v h = pack Truth Truth a b v (truths (λ x y. x && y) a b v (given h))
two_operands form.Less a b v h = pack Number Truth a b v (compared int_lt a b v (given h))
two_operands form.AtMost a b v h = pack Number Truth a b v (compared int_le a b v (given h))
two_operands form.Greater a b v h = pack Number Truth a b v (swapped Number Truth a b v (compared int_lt b a v (given h)))
two_operands form.AtLeast a b v h = pack Number Truth a b v (swapped Number Truth a b v (compared int_le b a v (given h)))
two_operands form.Equal a b v h = pack Number Truth a b v (compared int_eq a b v (given h))
two_operands form.Unequal a b v h = pack Number Truth a b v (unequal a b v (given h))
two_operands form.Add a b v h = pack Number Number a b v (computed (λ x y. x +ℤ y) a b v (given h))
two_operands form.Subtract a b v h = pack Number Number a b v (computed (λ x y. x -ℤ y) a b v (given h))
two_operands form.Multiply a b v h = pack Number Number a b v (computed (λ x y. x *ℤ y) a b v (given h))
two_operands form.Divide a b v h = pack Number Number a b v (parted int_div a b v (given h))
two_operands form.Remainder a b v h = pack Number Number a b v (parted int_rem a b v (given h))
two_operands f a b v h = cc

length_of : (a v : Value) → applied1 machine1.Length a ≡ Ok v → (Structure ≡ kind_of_value a) × (Number ≡ kind_of_value v)
length_of (Int x) v h = cc
length_of (Bool x) v h = cc
length_of (Proc x) v h = cc
length_of (Ref p) v h = let same : Int (pos p.length) ≡ v = cc in (refl, ap kind_of_value same)

not_of : (a v : Value) → applied1 machine1.Not a ≡ Ok v → (Truth ≡ kind_of_value a) × (Truth ≡ kind_of_value v)
not_of (Int x) v h = cc
not_of (Proc x) v h = cc
not_of (Ref x) v h = cc
not_of (Bool x) v h = (refl, truth_of (Prelude.not x) v h)

-- the same of an operator of one operand
pub one_operand : (f : Form) (a v : Value) → given1 f a ≡ Some (Ok v) → Fits1 (wants_of f) a × IsOf (origin_of f) v
one_operand form.Not a v h = let n = not_of a v (given h) in (ap (λ k. wanted 0 k) n.0, n.1)
one_operand form.Length a v h = let n = length_of a v (given h) in (ap (λ k. wanted 0 k) n.0, n.1)
one_operand form.Negate a v h = let n : AreOf Number Number (Int (pos 0)) a v = computed (λ x y. x -ℤ y) (Int (pos 0)) a v (given h) in (ap (λ k. wanted 0 k) n.1, n.2)
one_operand f a v h = cc

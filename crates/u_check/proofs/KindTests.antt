-- What the tests on a statement's kind say.
use Rattle.std.proofs.Common.{◌≡◌, ◌≤◌, refl, sym, arith, true, false}
use Rattle.std.proofs.lemmas.Bool.{false≢true}
use Rattle.u_program.specs.declared.program.Kind.{Kind}
use Rattle.u_program.specs.declared.program.Kind.TheVariants.{Begin, Param, Last, Leave, Apply, Back, Ask, End}
use Rattle.u_program.specs.declared.program.Arguments.{Arguments}
use Rattle.u_program.specs.declared.program.Arguments.TheVariants as arguments
use Rattle.u_program.specs.Limits.{count_of}
use Rattle.u_check.specs.Kinds.{ports_of, is_begin, is_param, is_back, is_last, is_leave, is_end, comes_from_outside}

pub begin_kind : (k : Kind) → is_begin k ≡ true → k ≡ Begin
begin_kind Begin e = refl
begin_kind k e = absurd (false≢true e)

pub back_kind : (k : Kind) → is_back k ≡ true → k ≡ Back
back_kind Back e = refl
back_kind k e = absurd (false≢true e)

pub last_kind : (k : Kind) → is_last k ≡ true → k ≡ Last
last_kind Last e = refl
last_kind k e = absurd (false≢true e)

pub leave_kind : (k : Kind) → is_leave k ≡ true → k ≡ Leave
leave_kind Leave e = refl
leave_kind k e = absurd (false≢true e)

pub end_kind : (k : Kind) → is_end k ≡ true → k ≡ End
end_kind End e = refl
end_kind k e = absurd (false≢true e)

pub no_param : (k : Kind) → comes_from_outside k ≡ false → is_param k ≡ false
no_param (Param p) e = absurd (false≢true (sym e))
no_param k e = refl

pub count_within : (n : Arguments) → (1 ≤ count_of n) × (count_of n ≤ 4)
count_within arguments.One = (omega arith, omega arith)
count_within n = (omega arith, omega arith)

-- a statement has one to five ports, whatever its kind
pub few_ports : (k : Kind) → (1 ≤ ports_of k) × (ports_of k ≤ 5)
few_ports (Apply b n) = let w = count_within n in (omega arith, omega (arith, w.1))
few_ports (Ask s n) = let w = count_within n in (w.0, omega (arith, w.1))
few_ports k = (omega arith, omega arith)

-- what takes tokens is neither a `begin` nor a `back`
pub no_begin : (k : Kind) → comes_from_outside k ≡ false → is_begin k ≡ false
no_begin Begin e = absurd (false≢true (sym e))
no_begin k e = refl

pub no_back : (k : Kind) → comes_from_outside k ≡ false → is_back k ≡ false
no_back Back e = absurd (false≢true (sym e))
no_back k e = refl

-- What a table says, and of what.
use Rattle.std.proofs.Common.{◌≡◌, ℕ, refl, ap, sym, ◌∙◌, true, List, Option, Some, None}
use Rattle.u_value.specs.declared.value.Value.{Value}
use Rattle.u_value.specs.declared.value.Value.TheVariants as values
use Rattle.u_check.specs.Plain.{is_plain, plain_of, value_of}
use Rattle.u_check.specs.Questions.{question_for}
use Rattle.u_check.specs.Tables.{TableRows, table_value, value_at, as_value, value_to}
use Rattle.u_check.specs.declared.question.Plain.{Plain}
use Rattle.u_check.specs.declared.question.Plain.TheVariants as plains
use Rattle.u_check.specs.declared.question.Question.{Question}

value_plain : (p : Plain) → is_plain (value_of p) ≡ true
value_plain (plains.Int z) = refl
value_plain (plains.Bool b) = refl

as_plain : (o : Option Plain) (v : Value) → as_value o ≡ Some v → is_plain v ≡ true
as_plain None v e = cc
as_plain (Some p) v e = let q : value_of p ≡ v = cc in ap is_plain (sym q) ∙ value_plain p

to_plain : (rows : TableRows) (o : Option Question) (v : Value) → value_to rows o ≡ Some v → is_plain v ≡ true
to_plain rows None v e = cc
to_plain rows (Some q) v e = as_plain (value_at rows q) v e

-- what a table says is a number or a truth value
pub says_plain : (rows : TableRows) (service : List ℕ) (vs : List Value) (v : Value) → table_value rows service vs ≡ Some v → is_plain v ≡ true
unfolding table_value
says_plain rows service vs v e = to_plain rows (question_for service vs) v e

of_plain : (v : Value) (p : Plain) → plain_of v ≡ Some p → is_plain v ≡ true
of_plain (values.Int z) p e = refl
of_plain (values.Bool b) p e = refl
of_plain v p e = cc

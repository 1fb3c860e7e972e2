-- Tables of replies: finitely many questions, each with a value.
use Rattle.std.specs.Prelude.{ℕ, Bool, List, Option, Some, None}
use Rattle.std.specs.Map.{lookup}
use Rattle.u_value.specs.declared.value.Value.{Value}
use Rattle.u_check.specs.Plain.{value_of}
use Rattle.u_check.specs.Questions.{question_for}
use Rattle.u_check.specs.declared.question.Plain.{Plain}
use Rattle.u_check.specs.declared.question.Question.{Question}
use Rattle.u_check.specs.contracts.question.QuestionPartialEq.TheImpl as question_eq

-- the questions with their values
abbrev pub TableRows : Type 0
TableRows = List (Question × Plain)

-- whether it is the same question: `same_question_is` has that this is so of a question itself alone
abbrev pub same_question : Question → Question → Bool
same_question = (question_eq.ghosts).eq

-- the value for a question, where the table has one
abbrev pub value_at : TableRows → Question → Option Plain
value_at rows q = lookup (same_question q) rows

abbrev pub as_value : Option Plain → Option Value
as_value None = None
as_value (Some v) = Some (value_of v)

abbrev pub value_to : TableRows → Option Question → Option Value
value_to rows None = None
value_to rows (Some q) = as_value (value_at rows q)

-- what the service says to the values, where the table has it
unfoldable pub table_value : TableRows → List ℕ → List Value → Option Value
table_value rows service vs = value_to rows (question_for service vs)

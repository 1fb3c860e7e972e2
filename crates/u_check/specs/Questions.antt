-- Questions: a service with one to four numbers and truth values.
use Rattle.std.specs.Prelude.{ℕ, List, [], ◌∷◌, Option, Some, None}
use Rattle.u_value.specs.declared.value.Value.{Value}
use Rattle.u_check.specs.Plain.{plain_of}
use Rattle.u_check.specs.declared.question.Plain.{Plain}
use Rattle.u_check.specs.declared.question.Operands.{Operands}
use Rattle.u_check.specs.declared.question.Operands.TheVariants.{One, Two, Three, Four}
use Rattle.u_check.specs.declared.question.Question.{Question}

abbrev pub one : Option Plain → Option Operands
one (Some a) = Some (One a)
one None = None

abbrev pub two : Option Plain → Option Plain → Option Operands
two (Some a) (Some b) = Some (Two a b)
two (Some a) None = None
two None b = None

abbrev pub three : Option Plain → Option Plain → Option Plain → Option Operands
three (Some a) (Some b) (Some c) = Some (Three a b c)
three (Some a) (Some b) None = None
three (Some a) None c = None
three None b c = None

abbrev pub four : Option Plain → Option Plain → Option Plain → Option Plain → Option Operands
four (Some a) (Some b) (Some c) (Some d) = Some (Four a b c d)
four (Some a) (Some b) (Some c) None = None
four (Some a) (Some b) None d = None
four (Some a) None c d = None
four None b c d = None

-- the values as operands, where they are one to four numbers and truth values
abbrev pub operands_for : List Value → Option Operands
operands_for (a ∷ []) = one (plain_of a)
operands_for (a ∷ b ∷ []) = two (plain_of a) (plain_of b)
operands_for (a ∷ b ∷ c ∷ []) = three (plain_of a) (plain_of b) (plain_of c)
operands_for (a ∷ b ∷ c ∷ d ∷ []) = four (plain_of a) (plain_of b) (plain_of c) (plain_of d)
operands_for vs = None

abbrev pub asked_of : List ℕ → Option Operands → Option Question
asked_of service None = None
asked_of service (Some operands) = Some (record { service = service; operands = operands })

-- the question of the service about the values, where they are such
abbrev pub question_for : List ℕ → List Value → Option Question
question_for service vs = asked_of service (operands_for vs)

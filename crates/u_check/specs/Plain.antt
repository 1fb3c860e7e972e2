-- Numbers and truth values, which are all that is sent outside and comes from there.
use Rattle.std.specs.Prelude.{Bool, true, false, Option, Some, None}
use Rattle.u_value.specs.declared.value.Value.{Value}
use Rattle.u_value.specs.declared.value.Value.TheVariants as values
use Rattle.u_check.specs.declared.question.Plain.{Plain}
use Rattle.u_check.specs.declared.question.Plain.TheVariants as plains

-- whether it is a number or a truth value
abbrev pub is_plain : Value → Bool
is_plain (values.Int z) = true
is_plain (values.Bool b) = true
is_plain v = false

abbrev pub plain_of : Value → Option Plain
plain_of (values.Int z) = Some (plains.Int z)
plain_of (values.Bool b) = Some (plains.Bool b)
plain_of v = None

abbrev pub value_of : Plain → Value
value_of (plains.Int z) = values.Int z
value_of (plains.Bool b) = values.Bool b

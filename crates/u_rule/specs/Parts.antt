-- Tokens, and the values of a firing.
use Rattle.std.specs.Prelude.{ℕ, List, length, refl}
use Rattle.std.specs.Coded.{Coded, code_by, coded×, coded_ℕ, coded_list}
use Rattle.u_name.specs.Context.{IsBetween}
use Rattle.u_name.specs.Name.{Activity, activity_code}
use Rattle.u_value.specs.declared.value.Value.{Value}
use Rattle.u_value.specs.contracts.value.Value as values

-- the greatest number of ports that an activity has
abbrev pub most_ports : ℕ
most_ports = 5

-- a value at a port of an activity
pub record TokenParts : Type 0 where
  pub activity : Activity
  pub port : ℕ
  pub value : Value

abbrev pub token : Activity → ℕ → Value → TokenParts
token activity port value = record { activity = activity; port = port; value = value }

pub record IsToken (t : TokenParts) : Type 0 where
  pub port : IsBetween 1 t.port most_ports

-- how values and tokens are stored
abbrev pub value_code : Coded Value
value_code = values.the_row.coded

abbrev pub token_code : Coded TokenParts
token_code =
    code_by (Activity × (ℕ × Value))
    (coded× activity_code (coded× coded_ℕ value_code))
    (λ t. (t.activity, (t.port, t.value)))
    (λ p. token p.0 p.1.0 p.1.1)
    (λ _. refl)

-- the values at an activity's ports
abbrev pub ValueList : Type 0
ValueList = List Value

abbrev pub value_list_code : Coded ValueList
value_list_code = coded_list value_code

pub record IsValueList (vs : ValueList) : Type 0 where
  pub count : IsBetween 1 (length vs) most_ports

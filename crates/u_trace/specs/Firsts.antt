-- A value with a place, for each of some numbers.
use Rattle.std.specs.Prelude.{ℕ, Bool, Option, Some, None, slice_get}
use Rattle.u_value.specs.declared.value.Value.{Value}
use Rattle.u_value.specs.contracts.value.ValuePartialEq.TheImpl as value_partial
use Rattle.u_trace.specs.declared.firsts.Firsts.{Firsts}
use Rattle.u_trace.specs.declared.firsts.ValueAt.{ValueAt}

-- what the slot has, if there is one
abbrev pub in_slot : Option (Option ValueAt) → Option ValueAt
in_slot None = None
in_slot (Some s) = s

-- what the number has
abbrev pub first_in : Firsts → ℕ → Option ValueAt
first_in firsts n = in_slot (slice_get firsts.slots.items n)

-- the derived test of two values
abbrev pub value_eq : Value → Value → Bool
value_eq = (value_partial.ghosts).eq

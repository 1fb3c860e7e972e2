-- Which initiations the firings of a job have: of a program of version 1 those of 32 bits, of version 2 all.
use Rattle.std.specs.Prelude.{ℕ, Bool, true, ◌&&◌, nat_le, Option, Some, None}
use Rattle.std.specs.List.{list_all}
use Rattle.u_name.specs.Name.{Activity}
use Rattle.u_name.specs.Greatest.{greatest_initiation}
use Rattle.u_program.specs.declared.program.Version.{Version}
use Rattle.u_program.specs.declared.program.Version.TheVariants as versions
use Rattle.u_value.specs.declared.value.Value.{Value}
use Rattle.u_value.specs.declared.value.Value.TheVariants as values
use Rattle.u_rule.specs.declared.firing.Firing.{Firing}
use Rattle.u_rule.specs.declared.parts.Written.{Written}

-- the greatest initiation of an activity that a job has; of version 2 it is the greatest that a name has
abbrev pub last_turn : Version → ℕ
last_turn versions.One = 4294967295
last_turn versions.Two = 18446744073709551615

-- whether the initiation of the activity, and those of its context, are at most that
abbrev pub is_turn : Version → Activity → Bool
is_turn version a = nat_le (greatest_initiation a) (last_turn version)

-- a structure has the name of an activity, and no other value has a name
abbrev pub has_turns : Version → Value → Bool
has_turns version (values.Ref p) = is_turn version p.name
has_turns version v = true

abbrev pub wrote_in_turns : Version → Option Written → Bool
wrote_in_turns version None = true
wrote_in_turns version (Some w) = is_turn version w.writer && has_turns version w.value

-- whether each initiation in the firing is at most that, in its values and its write too
unfoldable pub fires_in_turns : Version → Firing → Bool
fires_in_turns version f = is_turn version f.activity && (list_all (has_turns version) f.values && wrote_in_turns version f.write)

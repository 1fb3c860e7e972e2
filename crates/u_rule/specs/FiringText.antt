-- Texts of firings.
use Rattle.std.specs.Prelude.{ℕ, List, [], ◌∷◌, ◌++◌, Option, Some, None, codes}
use Rattle.u_name.specs.NameText.{call_part, name_text}
use Rattle.u_value.specs.Values.{value_text}
use Rattle.u_value.specs.declared.value.Value.{Value}
use Rattle.u_rule.specs.declared.firing.Firing.{Firing}
use Rattle.u_rule.specs.declared.parts.Written.{Written}

-- each value behind a space
abbrev pub values_text : List Value → List ℕ
values_text [] = []
values_text (v ∷ vs) = 32 ∷ (value_text v ++ values_text vs)

-- ` by WRITER VALUE`, or nothing
abbrev pub written_text : Option Written → List ℕ
written_text None = []
written_text (Some w) = codes " by " ++ (name_text w.writer ++ (32 ∷ value_text w.value))

-- what stands behind the context of the activity: the other parts of its name, the values and the write
abbrev pub behind_context : Firing → List ℕ
behind_context f = call_part f.activity.block f.activity.statement f.activity.initiation ++ (values_text f.values ++ written_text f.write)

-- `f NAME VALUE..`, and the write
unfoldable pub firing_text : Firing → List ℕ
firing_text f = codes "f " ++ (name_text f.activity ++ (values_text f.values ++ written_text f.write))

-- The list that the values of a firing are, by how they are held.
use Rattle.u_rule.specs.Parts.{ValueList}
use Rattle.u_rule.specs.declared.values.Held.{Held}
use Rattle.u_rule.specs.declared.values.Held.TheVariants.{One, Two, More}

abbrev pub values_held : Held → ValueList
values_held (One vs) = vs
values_held (Two vs) = vs
values_held (More vs) = vs.value.items

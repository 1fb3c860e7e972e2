-- An entry and a firing to stand where a list has none.
use Rattle.std.proofs.Common.{pos, [], None}
use Rattle.u_name.specs.Context.{Top}
use Rattle.u_name.specs.Name.{activity}
use Rattle.u_value.specs.declared.value.Value.TheVariants as values
use Rattle.u_rule.specs.EntryOrder.{firing}
use Rattle.u_rule.specs.declared.entry.Entry.{Entry}
use Rattle.u_rule.specs.declared.entry.Entry.TheVariants as entries
use Rattle.u_rule.specs.declared.firing.Firing.{Firing}

abbrev pub blank : Entry
blank = entries.Answer (values.Int (pos 0))

abbrev pub blank_firing : Firing
blank_firing = firing (activity Top [] 0 0) [] None

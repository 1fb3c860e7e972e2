use Rattle.std.specs.Prelude.{◌-◌, length}
use Rattle.u_rule.specs.Parts.{most_ports}
use Rattle.u_rule.proofs.firing_reading.+with_more.Given as goal

abbrev pub decreases-with_more : goal.decreases-with_more
decreases-with_more l = most_ports - length l.values.items

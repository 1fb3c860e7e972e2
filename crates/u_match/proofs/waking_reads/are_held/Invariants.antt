use Rattle.std.proofs.Common.{◌≡◌, take, ◌⊎◌}
use Rattle.std.specs.Prelude.{Contains}
use Rattle.u_rule.specs.declared.entry.Entry.{Entry}
use Rattle.u_match.proofs.waking_reads.are_held.Given as goal

abbrev pub invariant-loop-need : goal.invariant-loop-need
invariant-loop-need l = (x : Entry) → Contains (take l.need-index l.needs) x → Contains l.entries.entries x ⊎ (l.entry ≡ x)

use Rattle.std.proofs.Common.{map}
use Rattle.std.specs.Prelude.{Contains}
use Rattle.std.specs.Map.Iter.{deref}
use Rattle.u_rule.specs.declared.entry.Entry.{Entry}
use Rattle.u_machine.specs.Masks.{IsTokenIn}
use Rattle.u_machine.proofs.masks.has_late_in.Given as goal

abbrev pub invariant-loop-entry : goal.invariant-loop-entry
invariant-loop-entry l = (e : Entry) → Contains (map (deref {X = Entry}) l.yielded) e → IsTokenIn l.buckets e → ⊥

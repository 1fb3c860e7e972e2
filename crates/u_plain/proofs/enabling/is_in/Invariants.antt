use Rattle.std.proofs.Common.{◌≡◌, take, Contains}
use Rattle.u_rule.specs.declared.entry.Entry.{Entry}
use Rattle.u_plain.proofs.enabling.is_in.Given as goal

abbrev pub invariant-loop-other : goal.invariant-loop-other
invariant-loop-other l = (x : Entry) → Contains (take l.other-index l.list) x → (x ≡ l.entry) → ⊥

use Rattle.std.proofs.Common.{◌≡◌, ◌≤◌, ◌+◌, ◌-◌, length, drop}
use Rattle.u_name.specs.NameReader.{paren_span}
use Rattle.u_name.proofs.reading.Cursor.parens.Given as goal

abbrev pub invariant-loop-byte : goal.invariant-loop-byte
invariant-loop-byte l = (l.count ≤ 65) × (paren_span 65 l.initial.self.rest.now ≡ l.count + paren_span (65 - l.count) l.self.rest.now) × (l.self.rest.now ≡ drop l.count l.initial.self.rest.now)

abbrev pub decreases-loop-byte : goal.decreases-loop-byte
decreases-loop-byte l = length l.self.rest.now

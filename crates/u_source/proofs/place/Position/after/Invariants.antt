use Rattle.std.proofs.Common.{◌≡◌, ◌+◌, ◌≤◌, length}
use Rattle.u_source.specs.Places.{place_after}
use Rattle.u_source.proofs.place.Position.after.Given as goal

abbrev pub invariant-loop-byte : goal.invariant-loop-byte
invariant-loop-byte l = (place_after l.place l.rest ≡ place_after l.fn.self l.bytes) × (l.place.line + length l.rest ≤ l.fn.self.line + length l.bytes) × (l.place.column + length l.rest ≤ l.fn.self.column + length l.bytes)

abbrev pub decreases-loop-byte : goal.decreases-loop-byte
decreases-loop-byte l = length l.rest

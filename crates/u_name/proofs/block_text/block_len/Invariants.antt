use Rattle.std.proofs.Common.{◌≡◌, ◌≤◌, ◌+◌, ◌-◌, length}
use Rattle.u_name.specs.BlockText.{block_span}
use Rattle.u_name.proofs.block_text.block_len.Given as goal

abbrev pub invariant-loop-byte : goal.invariant-loop-byte
invariant-loop-byte l = (l.len ≤ 16) × (block_span 16 l.bytes ≡ l.len + block_span (16 - l.len) l.rest) × (l.len + length l.rest ≡ length l.bytes)

abbrev pub decreases-loop-byte : goal.decreases-loop-byte
decreases-loop-byte l = length l.rest

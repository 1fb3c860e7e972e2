use Rattle.std.proofs.Common.{◌-◌, arith, rules}
use Rattle.u_name.proofs.Spans.{span_empty}
use Rattle.u_name.proofs.block_text.block_len.Goals as goal

pub returns-in_default-clause-value : goal.returns-in_default-clause-value
returns-in_default-clause-value c = omega (arith, span_empty (16 - c.loop-byte.len) c.loop-byte.rest.now (search rules), c.loop-byte.invariant.1)

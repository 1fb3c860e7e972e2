use Rattle.std.proofs.Common.{arith}
use Rattle.u_trace.proofs.PortLaws.{beyond}
use Rattle.u_trace.proofs.ports.has_bit.Goals as goal

pub returns-then-place-gt7 : goal.returns-then-place-gt7
returns-then-place-gt7 c = beyond c.args.bits c.args.place (omega (arith, c.ranges.bits.fits)) (omega (arith, c.if-place-gt7.true))

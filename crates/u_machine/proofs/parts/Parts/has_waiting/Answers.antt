use Rattle.std.proofs.Common.{ap, length, arith}
use Rattle.u_machine.proofs.Flight.{as_they_wait, few_parked}
use Rattle.u_machine.proofs.parts.Parts.has_waiting.Goals as goal

pub returns-then-self : goal.returns-then-self
returns-then-self c t = few_parked c.args.self.now c.if-self.true

pub returns : goal.returns
returns c t =
    let parked = c.len-2.ensures.len in
    let log = c.len.ensures in
    let w = ap length (as_they_wait _ c.args.self.now.applied_count c.args.self.now.log.items c.args.self.now.parked c.if-self.false) in
    omega (arith, parked, log, w, c.if-len-self.false)

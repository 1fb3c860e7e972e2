use Rattle.std.proofs.Common.{inl}
use Rattle.u_machine.specs.Invariant.{state_of}
use Rattle.u_machine.proofs.Settled.{settled_back, settles, stays_unsettled}
use Rattle.u_machine.proofs.Replies.{take_no_memory, take_after}
use Rattle.u_machine.proofs.parts.Parts.take.Goals as goal

-- settling failed: an earlier call had left something
pub returns-in_err-settle-clause-answer : goal.returns-in_err-settle-clause-answer
returns-in_err-settle-clause-answer c =
    take_no_memory (state_of c.args.self.now) (state_of c.settle.new.self) c.args.firing.now _ c.from_residual.ensures.1
    (inl (stays_unsettled c.args.self.now c.settle.new.self c.requires c.settle.ensures.applies (λ st. let w = c.settle.ensures.still (settled_back c.args.self.now c.requires st) in absurd (let e = rw c.in_err-settle.was at w.0 in cc))))

pub returns-clause-answer : goal.returns-clause-answer
returns-clause-answer c =
    take_after (state_of c.args.self.now) (state_of c.settle.new.self) (state_of c.take_settled.new.self) c.args.firing.now
    (settles c.args.self.now c.settle.new.self c.requires c.settle.ensures.applies c.settle.ensures.kept c.in_ok-settle.ensures.ok c.settle.ensures.still)
    c.take_settled.result c.take_settled.ensures.answer

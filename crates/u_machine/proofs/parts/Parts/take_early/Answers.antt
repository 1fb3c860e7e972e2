use Rattle.u_machine.specs.declared.answer.TakeRefusal.TheVariants.{Full}
use Rattle.u_machine.specs.Invariant.{state_of}
use Rattle.u_machine.proofs.Early.{untaken}
use Rattle.u_machine.proofs.Settled.{settles_itself}
use Rattle.u_machine.proofs.Replies.{known_or}
use Rattle.u_machine.proofs.parts.Parts.take_early.Goals as goal

pub returns-then-is_full-clause-answer : goal.returns-then-is_full-clause-answer
returns-then-is_full-clause-answer c =
    let m = c.args.self.now in
    let settled = settles_itself m c.requires.kept c.requires.settled in
    known_or (state_of m) c.args.firing.now Full c.unless_parked.result c.unless_parked.ensures.known c.unless_parked.ensures.refused settled
    (λ unparked. (c.requires.firing, untaken m c.args.firing.now c.requires.unapplied unparked, c.is_full.ensures.full c.if-is_full.true, settled))

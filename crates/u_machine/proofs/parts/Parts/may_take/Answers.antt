use Rattle.u_machine.specs.Invariant.{state_of}
use Rattle.u_machine.proofs.NewOnes.{all_fit}
use Rattle.u_machine.proofs.parts.Parts.may_take.Goals as goal

pub returns-then-has_room-clause-fits : goal.returns-then-has_room-clause-fits
returns-then-has_room-clause-fits c t =
    all_fit (state_of c.args.self.now) c.args.firings.now (c.has_room.ensures.room c.if-has_room.true)

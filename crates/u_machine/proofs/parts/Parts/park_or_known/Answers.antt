use Rattle.std.proofs.Common.{inl, inr}
use Rattle.u_machine.specs.declared.answer.TakeRefusal.TheVariants.{NoMemory}
use Rattle.u_machine.specs.Invariant.{state_of}
use Rattle.u_machine.proofs.States.{Applies-refl}
use Rattle.u_machine.proofs.Early.{early_is_new}
use Rattle.u_machine.proofs.Settled.{settles_itself}
use Rattle.u_machine.proofs.Replies.{known_or}
use Rattle.u_machine.proofs.parts.Parts.park_or_known.Goals as goal

pub returns-in-Err-clause-answer : goal.returns-in-Err-clause-answer
returns-in-Err-clause-answer c =
    let m = c.args.self.now in
    let same = c.in-Err.ensures.err in
    let f = c.args.firing.now in
    let answer = c.unless_parked in
    rw same (
    known_or (state_of m) f NoMemory answer.result (rw same at answer.ensures.known) (rw same at answer.ensures.refused) (settles_itself m c.requires.kept c.requires.settled)
    (λ unparked. inr (early_is_new m f c.requires.unapplied unparked c.requires.firing c.requires.room, inl (Applies-refl (state_of m))))
    )

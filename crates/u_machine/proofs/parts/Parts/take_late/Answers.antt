use Rattle.std.proofs.Common.{inl, inr, ap}
use Rattle.u_machine.specs.State.{State}
use Rattle.u_machine.specs.declared.answer.TakeRefusal.TheVariants.{NoMemory}
use Rattle.u_machine.specs.Invariant.{state_of}
use Rattle.u_machine.proofs.States.{Applies-refl}
use Rattle.u_machine.proofs.Early.{early_is_new}
use Rattle.u_machine.proofs.Settled.{settles_itself}
use Rattle.u_machine.proofs.Replies.{known_or}
use Rattle.u_machine.proofs.parts.Parts.take_late.Goals as goal

-- the firings of the late tokens that it needs could not be made
pub returns-in_default-clause-answer : goal.returns-in_default-clause-answer
returns-in_default-clause-answer c =
    let m = c.args.self.now in
    let p = c.make_for.new.self in
    let f = c.args.firing.now in
    let same = c.in_default.ensures.makes.state in
    rw same (
    known_or (state_of m) f NoMemory c.unless_parked.result (rw (← ap (λ (s : State). s.parked) same) c.unless_parked.ensures.known) (rw (← ap (λ (s : State). s.parked) same) c.unless_parked.ensures.refused) (settles_itself m c.requires.kept c.requires.settled)
    (λ unparked. inr (early_is_new m f c.requires.unapplied unparked c.requires.firing c.requires.room, inl (Applies-refl (state_of m))))
    )

use Rattle.std.proofs.Common.{inl, inr}
use Rattle.u_machine.specs.Calls.{IsNew}
use Rattle.u_machine.specs.Invariant.{state_of}
use Rattle.u_machine.proofs.States.{Applies-refl, takes_between}
use Rattle.u_machine.proofs.Beginning.{new_if_ready, in_all}
use Rattle.u_machine.proofs.Settled.{settled_there}
use Rattle.u_machine.proofs.Replies.{take_no_memory, applied_has}
use Rattle.u_machine.proofs.parts.Parts.take_made.Goals as goal
use Rattle.u_machine.proofs.parts.Parts.take_made.Goals.{After-begin_ready}

is_new : (c : After-begin_ready) → IsNew (state_of c.args.self.now) c.args.firing.now
is_new c = record {
  firing = (c.requires.kept.partitioned.fit c.args.firing.now (in_all c.args.self.now c.requires.kept c.args.firing.now c.requires.ready)).0.0;
  new = new_if_ready c.args.self.now c.requires.kept c.args.firing.now c.requires.ready;
  room = c.requires.room;
}

-- it could not be taken
pub returns-in_err-begin_ready-clause-answer : goal.returns-in_err-begin_ready-clause-answer
returns-in_err-begin_ready-clause-answer c =
    take_no_memory (state_of c.args.self.now) (state_of c.begin_ready.new.self) c.args.firing.now _ c.from_residual.ensures.1
    (inr (is_new (goal.at.returns-in_err-begin_ready-clause-answer c).After-begin_ready, inl (rw c.in_err-begin_ready.ensures.err (Applies-refl (state_of c.args.self.now)))))

-- it was taken, and could not be applied
pub returns-in_err-settle-clause-answer : goal.returns-in_err-settle-clause-answer
returns-in_err-settle-clause-answer c =
    take_no_memory (state_of c.args.self.now) (state_of c.settle.new.self) c.args.firing.now _ c.from_residual-in_err-settle.ensures.1
    (inr (is_new (goal.at.returns-in_err-settle-clause-answer c).After-begin_ready, inr (takes_between _ _ _ _ _ (Applies-refl _) c.in_ok-begin_ready.ensures.takes c.settle.ensures.applies)))

pub returns-clause-answer : goal.returns-clause-answer
returns-clause-answer c = (
  is_new (goal.at.returns-clause-answer c).After-begin_ready,
  takes_between _ _ _ _ _ (Applies-refl _) c.in_ok-begin_ready.ensures.takes c.settle.ensures.applies,
  applied_has c.args.self.now.log.items c.args.firing.now c.begin_ready.new.self.log.items c.settle.new.self.applied_count c.settle.new.self.log.items
      c.in_ok-begin_ready.ensures.log c.settle.ensures.log c.in_ok-settle.ensures.ok,
  settled_there c.settle.new.self c.settle.ensures.kept c.in_ok-settle.ensures.ok,
)

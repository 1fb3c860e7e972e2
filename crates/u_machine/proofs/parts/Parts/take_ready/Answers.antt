use Rattle.std.proofs.Common.{◌≡◌, false, inl, inr, subst, sym}
use Rattle.u_machine.specs.State.{State, IsReady}
use Rattle.u_machine.specs.Calls.{IsNew}
use Rattle.u_machine.specs.Invariant.{state_of}
use Rattle.u_machine.proofs.Making.{makes_applies, makes_settled}
use Rattle.u_machine.proofs.Beginning.{new_if_ready, in_all}
use Rattle.u_machine.proofs.Settled.{settles_itself, is_ready_there}
use Rattle.u_machine.proofs.Picking.{ready_there}
use Rattle.u_machine.proofs.Replies.{take_no_memory}
use Rattle.u_machine.proofs.parts.Parts.take_ready.Goals as goal
use Rattle.u_machine.proofs.parts.Parts.take_ready.Goals.{After-is_full}

pub returns-then-is_full-clause-answer : goal.returns-then-is_full-clause-answer
returns-then-is_full-clause-answer c = (
  (c.requires.kept.partitioned.fit c.args.firing.now (in_all c.args.self.now c.requires.kept c.args.firing.now c.requires.ready)).0.0,
  new_if_ready c.args.self.now c.requires.kept c.args.firing.now c.requires.ready,
  c.is_full.ensures.full c.if-is_full.true,
  settles_itself c.args.self.now c.requires.kept c.requires.settled,
)

is_new : (c : After-is_full) → c.is_full.result ≡ false → IsNew (state_of c.args.self.now) c.args.firing.now
is_new c e = record {
  firing = (c.requires.kept.partitioned.fit c.args.firing.now (in_all c.args.self.now c.requires.kept c.args.firing.now c.requires.ready)).0.0;
  new = new_if_ready c.args.self.now c.requires.kept c.args.firing.now c.requires.ready;
  room = c.is_full.ensures.room e;
}

-- the firings of the late tokens that it needs could not be made
pub returns-in_err-make_for-clause-answer : goal.returns-in_err-make_for-clause-answer
returns-in_err-make_for-clause-answer c =
    take_no_memory (state_of c.args.self.now) (state_of c.make_for.new.self) c.args.firing.now _ c.from_residual.ensures.1
    (inr (is_new (goal.at.returns-in_err-make_for-clause-answer c).After-is_full c.if-is_full.false, inl (makes_applies _ _ c.in_err-make_for.ensures.makes)))

pub take_made-requires-2-clause-ready : goal.take_made-requires-2-clause-ready
take_made-requires-2-clause-ready c =
    let m = c.args.self.now in
    let p = c.make_for.new.self in
    let f = c.args.firing.now in
    let k = c.in_ok-make_for.ensures.kept in
    let makes = c.in_ok-make_for.ensures.makes in
    let was = is_ready_there m c.requires.kept c.requires.settled f (in_all m c.requires.kept f c.requires.ready) in
    let there = ready_there p k (makes_settled _ _ makes c.requires.settled) f (subst (λ (s : State). IsReady s f) (sym makes.state) was) in
    elim ((k.late.whole f).0 there).0 [ inl made ↦ made | inr (e, i, w) ↦ absurd (c.in_ok-make_for.ensures.ok e i w.0) ]

use Rattle.std.proofs.Common.{◌≡◌, inl, inr, sym, ◌∙◌, arith, subst, length, Some, ℕ, take, false}
use Rattle.std.specs.Prelude.{slice_get}
use Rattle.u_rule.specs.declared.firing.Firing.{Firing}
use Rattle.u_machine.specs.State.{IsPick}
use Rattle.u_machine.specs.Calls.{MayFire}
use Rattle.u_machine.specs.Invariant.{state_of}
use Rattle.u_machine.proofs.States.{takes_between, room_before, fire_no_memory, ready_before, nothing_before, quiet_whole}
use Rattle.u_machine.proofs.Settled.{kept_in_order, settled_there, settled_back, settles, stays_unsettled}
use Rattle.u_machine.proofs.Picking.{pick_exists, pick_is_ready, pick_before}
use Rattle.u_machine.proofs.Replies.{fired_at}
use Rattle.u_machine.proofs.parts.Parts.fire.Goals as goal
use Rattle.u_machine.proofs.parts.Parts.fire.Goals.{After-is_full}

-- settling failed: an earlier call had left something
pub returns-in_err-settle-clause-answer : goal.returns-in_err-settle-clause-answer
returns-in_err-settle-clause-answer c =
    fire_no_memory (state_of c.args.self.now) (state_of c.settle.new.self) c.args.pick _ c.from_residual.ensures.1
    (inl (stays_unsettled c.args.self.now c.settle.new.self c.requires c.settle.ensures.applies (λ st. let w = c.settle.ensures.still (settled_back c.args.self.now c.requires st) in absurd (let e = rw c.in_err-settle.was at w.0 in cc))))

pub returns-then-quiet-clause-answer : goal.returns-then-quiet-clause-answer
returns-then-quiet-clause-answer c =
    let old = c.args.self.now in
    let p = c.settle.new.self in
    let none = c.is_quiet-quiet.ensures.quiet c.if-quiet.true in (
      nothing_before (state_of old) (state_of p) c.settle.ensures.applies none,
      settles old p c.requires c.settle.ensures.applies c.settle.ensures.kept c.in_ok-settle.ensures.ok c.settle.ensures.still,
      quiet_whole (state_of p) c.settle.ensures.kept.logged.is (settled_there p c.settle.ensures.kept c.in_ok-settle.ensures.ok) none,
    )

pub returns-then-is_full-clause-answer : goal.returns-then-is_full-clause-answer
returns-then-is_full-clause-answer c =
    let p = c.settle.new.self in
    let r = c.is_quiet-quiet.ensures.ready c.if-quiet.false in (
      (r.0, ready_before (state_of c.args.self.now) (state_of p) c.settle.ensures.applies r.0 r.1),
      sym c.settle.ensures.applies.count ∙ c.is_full.ensures.full c.if-is_full.true ∙ c.settle.ensures.applies.grows.limit,
      settles c.args.self.now p c.requires c.settle.ensures.applies c.settle.ensures.kept c.in_ok-settle.ensures.ok c.settle.ensures.still,
    )

pub begin_picked-requires-clause-ready : goal.begin_picked-requires-clause-ready
begin_picked-requires-clause-ready c = c.is_quiet-quiet.ensures.ready c.if-quiet.false

-- what is picked, where there is room
may_fire : (c : After-is_full) → (c.is_full.result ≡ false) → (f : Firing) → IsPick (state_of c.settle.new.self) c.args.pick f → MayFire (state_of c.args.self.now) c.args.pick f
may_fire c e f k =
    let old = state_of c.args.self.now in
    let p = state_of c.settle.new.self in
    (pick_before old p c.args.pick f c.settle.ensures.applies k, room_before old p f c.settle.ensures.applies (pick_is_ready p c.args.pick f k).1 (c.is_full.ensures.room e))

-- the picked firing could not be taken
pub returns-in_err-begin_picked-clause-answer : goal.returns-in_err-begin_picked-clause-answer
returns-in_err-begin_picked-clause-answer c =
    let a = (goal.at.returns-in_err-begin_picked-clause-answer c).After-is_full in
    let p = c.settle.new.self in
    let r = c.is_quiet-quiet.ensures.ready c.if-quiet.false in
    let (f, k) = pick_exists (state_of p) _ r.0 (kept_in_order p c.settle.ensures.kept c.in_ok-settle.ensures.ok) r.1 c.args.pick in
    fire_no_memory (state_of c.args.self.now) (state_of c.begin_picked.new.self) c.args.pick _ c.from_residual-in_err-begin_picked.ensures.1
    (inr (f, may_fire a c.if-is_full.false f k, inl (rw c.in_err-begin_picked.ensures.err c.settle.ensures.applies)))

-- it was taken, and could not be applied
pub returns-in_err-settle-2-clause-answer : goal.returns-in_err-settle-2-clause-answer
returns-in_err-settle-2-clause-answer c =
    let a = (goal.at.returns-in_err-settle-2-clause-answer c).After-is_full in
    let b = c.in_ok-begin_picked.ensures.ok in
    fire_no_memory (state_of c.args.self.now) (state_of c.settle-2.new.self) c.args.pick _ c.from_residual-in_err-settle-2.ensures.1
    (inr (b.firing, may_fire a c.if-is_full.false b.firing b.picked, inr (takes_between _ _ _ _ _ c.settle.ensures.applies b.takes c.settle-2.ensures.applies)))

pub returns-clause-answer : goal.returns-clause-answer
returns-clause-answer c =
    let a = (goal.at.returns-clause-answer c).After-is_full in
    let b = c.in_ok-begin_picked.ensures.ok in (
      b.firing,
      may_fire a c.if-is_full.false b.firing b.picked,
      takes_between _ _ _ _ _ c.settle.ensures.applies b.takes c.settle-2.ensures.applies,
      settled_there c.settle-2.new.self c.settle-2.ensures.kept c.in_ok-settle-2.ensures.ok,
      subst (λ (n : ℕ). slice_get (take c.settle-2.new.self.applied_count c.settle-2.new.self.log.items) n ≡ Some b.firing) (let n = c.len-place.ensures in let e : length c.settle.new.self.log.items ≡ c.len-place.result = omega (arith, n) in e)
          (fired_at c.settle.new.self.log.items b.firing c.begin_picked.new.self.log.items c.settle-2.new.self.applied_count c.settle-2.new.self.log.items b.log c.settle-2.ensures.log c.in_ok-settle-2.ensures.ok),
    )

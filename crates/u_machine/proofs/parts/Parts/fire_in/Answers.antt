use Rattle.std.proofs.Common.{◌≡◌, inl, inr, sym, ◌∙◌, arith, subst, length, Some, ℕ, take, false}
use Rattle.std.specs.Prelude.{slice_get}
use Rattle.u_rule.specs.declared.firing.Firing.{Firing}
use Rattle.u_machine.specs.State.{IsPickIn}
use Rattle.u_machine.specs.Calls.{Applies, MayFireIn}
use Rattle.u_machine.specs.Invariant.{state_of}
use Rattle.u_machine.proofs.States.{takes_between, applies_trans, room_before, ready_before, ready_after, nothing_before, quiet_whole}
use Rattle.u_machine.proofs.Settled.{kept_in_order, settled_there, settled_back, settles, stays_unsettled}
use Rattle.u_machine.proofs.Making.{makes_applies}
use Rattle.u_machine.proofs.Picking.{pick_in_exists, pick_in_is_ready, pick_in_before}
use Rattle.u_machine.proofs.Replies.{fire_in_no_memory, fired_at}
use Rattle.u_machine.proofs.parts.Parts.fire_in.Goals as goal
use Rattle.u_machine.proofs.parts.Parts.fire_in.Goals.{After-is_full, In_ok-firing}

-- settling failed: an earlier call had left something
pub returns-in_err-settle-clause-answer : goal.returns-in_err-settle-clause-answer
returns-in_err-settle-clause-answer c =
    fire_in_no_memory (state_of c.args.self.now) (state_of c.settle.new.self) c.args.buckets c.args.pick _ c.from_residual.ensures.1
    (inl (stays_unsettled c.args.self.now c.settle.new.self c.requires c.settle.ensures.applies (λ st. let w = c.settle.ensures.still (settled_back c.args.self.now c.requires st) in absurd (let e = rw c.in_err-settle.was at w.0 in cc))))

pub returns-then-is_quiet-clause-answer : goal.returns-then-is_quiet-clause-answer
returns-then-is_quiet-clause-answer c =
    let old = c.args.self.now in
    let p = c.settle.new.self in
    let none = c.is_quiet.ensures.quiet c.if-is_quiet.true in (
      nothing_before (state_of old) (state_of p) c.settle.ensures.applies none,
      settles old p c.requires c.settle.ensures.applies c.settle.ensures.kept c.in_ok-settle.ensures.ok c.settle.ensures.still,
      quiet_whole (state_of p) c.settle.ensures.kept.logged.is (settled_there p c.settle.ensures.kept c.in_ok-settle.ensures.ok) none,
    )

-- nothing of what is ready is in the mask
pub returns-then-not-has_any_in-clause-answer : goal.returns-then-not-has_any_in-clause-answer
returns-then-not-has_any_in-clause-answer c =
    let old = c.args.self.now in
    let p = c.settle.new.self in
    let before = c.settle.ensures.applies in
    let some = c.is_quiet.ensures.ready c.if-is_quiet.false in (
      (
        (some.0, ready_before (state_of old) (state_of p) before some.0 some.1),
        λ f r. c.has_any_in.ensures.none c.if-not-has_any_in.true f (ready_after (state_of old) (state_of p) before f r.0, r.1),
      ),
      settles old p c.requires before c.settle.ensures.kept c.in_ok-settle.ensures.ok c.settle.ensures.still,
    )

pub returns-then-is_full-clause-answer : goal.returns-then-is_full-clause-answer
returns-then-is_full-clause-answer c =
    let old = c.args.self.now in
    let p = c.settle.new.self in
    let some = c.has_any_in.ensures.some c.if-not-has_any_in.false in (
      (some.0, (ready_before (state_of old) (state_of p) c.settle.ensures.applies some.0 some.1.0, some.1.1)),
      sym c.settle.ensures.applies.count ∙ c.is_full.ensures.full c.if-is_full.true ∙ c.settle.ensures.applies.grows.limit,
      settles old p c.requires c.settle.ensures.applies c.settle.ensures.kept c.in_ok-settle.ensures.ok c.settle.ensures.still,
    )

-- what may be fired, where there is room
may_fire : (c : After-is_full) → c.is_full.result ≡ false → (f : Firing) → IsPickIn (state_of c.settle.new.self) c.args.buckets c.args.pick f → MayFireIn (state_of c.args.self.now) c.args.buckets c.args.pick f
may_fire c e f k =
    let old = state_of c.args.self.now in
    let p = state_of c.settle.new.self in (
      pick_in_before old p c.args.buckets c.args.pick f c.settle.ensures.applies k,
      room_before old p f c.settle.ensures.applies (pick_in_is_ready p c.args.buckets c.args.pick f k).1 (c.is_full.ensures.room e),
    )

-- the picked firing could not be made or copied
pub returns-in_err-firing-clause-answer : goal.returns-in_err-firing-clause-answer
returns-in_err-firing-clause-answer c =
    let a = (goal.at.returns-in_err-firing-clause-answer c).After-is_full in
    let p = c.settle.new.self in
    let some = c.has_any_in.ensures.some c.if-not-has_any_in.false in
    let (f, k) = pick_in_exists (state_of p) _ c.args.buckets some.0 (kept_in_order p c.settle.ensures.kept c.in_ok-settle.ensures.ok) some.1 c.args.pick in
    fire_in_no_memory (state_of c.args.self.now) (state_of c.picked.new.self) c.args.buckets c.args.pick _ c.from_residual-in_err-firing.ensures.1
    (inr (f, may_fire a c.if-is_full.false f k, inl (applies_trans _ _ _ c.settle.ensures.applies (makes_applies _ _ c.in_err-firing.ensures.makes))))

before : (c : In_ok-firing) → Applies (state_of c.args.self.now) (state_of c.picked.new.self)
before c = applies_trans _ _ _ c.settle.ensures.applies (makes_applies _ _ c.in_ok-firing.ensures.makes)

pub begin-requires-clause-ready : goal.begin-requires-clause-ready
begin-requires-clause-ready c = c.in_ok-firing.ensures.picked.1

-- it could not be taken
pub returns-in_err-begin-clause-answer : goal.returns-in_err-begin-clause-answer
returns-in_err-begin-clause-answer c =
    let a = (goal.at.returns-in_err-begin-clause-answer c).After-is_full in
    let b = (goal.at.returns-in_err-begin-clause-answer c).In_ok-firing in
    fire_in_no_memory (state_of c.args.self.now) (state_of c.begin.new.self) c.args.buckets c.args.pick _ c.from_residual-in_err-begin.ensures.1
    (inr (c.in_ok-firing.firing, may_fire a c.if-is_full.false c.in_ok-firing.firing c.in_ok-firing.ensures.picked.0, inl (rw c.in_err-begin.ensures.err (before b))))

-- it was taken, and could not be applied
pub returns-in_err-settle-2-clause-answer : goal.returns-in_err-settle-2-clause-answer
returns-in_err-settle-2-clause-answer c =
    let a = (goal.at.returns-in_err-settle-2-clause-answer c).After-is_full in
    let b = (goal.at.returns-in_err-settle-2-clause-answer c).In_ok-firing in
    fire_in_no_memory (state_of c.args.self.now) (state_of c.settle-2.new.self) c.args.buckets c.args.pick _ c.from_residual-in_err-settle-2.ensures.1
    (inr (c.in_ok-firing.firing, may_fire a c.if-is_full.false c.in_ok-firing.firing c.in_ok-firing.ensures.picked.0, inr (takes_between _ _ _ _ _ (before b) c.in_ok-begin.ensures.takes c.settle-2.ensures.applies)))

pub returns-clause-answer : goal.returns-clause-answer
returns-clause-answer c =
    let a = (goal.at.returns-clause-answer c).After-is_full in
    let b = (goal.at.returns-clause-answer c).In_ok-firing in
    let f = c.in_ok-firing.firing in
    let at : slice_get (take c.settle-2.new.self.applied_count c.settle-2.new.self.log.items) (length c.picked.new.self.log.items) ≡ Some f =
    fired_at c.picked.new.self.log.items f c.begin.new.self.log.items c.settle-2.new.self.applied_count c.settle-2.new.self.log.items c.in_ok-begin.ensures.log c.settle-2.ensures.log c.in_ok-settle-2.ensures.ok in (
      f,
      may_fire a c.if-is_full.false f c.in_ok-firing.ensures.picked.0,
      takes_between _ _ _ _ _ (before b) c.in_ok-begin.ensures.takes c.settle-2.ensures.applies,
      settled_there c.settle-2.new.self c.settle-2.ensures.kept c.in_ok-settle-2.ensures.ok,
      subst (λ (n : ℕ). slice_get (take c.settle-2.new.self.applied_count c.settle-2.new.self.log.items) n ≡ Some f) (let n = c.len-place.ensures in let e : length c.picked.new.self.log.items ≡ c.len-place.result = omega (arith, n) in e) at,
    )

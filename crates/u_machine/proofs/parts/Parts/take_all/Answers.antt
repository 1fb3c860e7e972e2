use Rattle.std.proofs.Common.{◌≡◌, ◌∙◌, ap, ◌≤◌, length, arith, subst, List, Err, take, inl, inr}
use Rattle.std.specs.Prelude.{Result}
use Rattle.std.proofs.lemmas.List as lists
use Rattle.u_rule.specs.declared.firing.Firing.{Firing}
use Rattle.u_check.specs.Jobs.{JobParts}
use Rattle.u_machine.specs.declared.answer.Took.{Took}
use Rattle.u_machine.specs.declared.answer.TakeRefusal.{TakeRefusal}
use Rattle.u_machine.specs.declared.answer.TakeRefusal.TheVariants as untaken
use Rattle.u_machine.specs.Calls.{TakeAnswer}
use Rattle.u_machine.specs.Taking.{IsFirstOther, AreFirings, Fits, TakesAll}
use Rattle.u_machine.specs.Invariant.{state_of}
use Rattle.u_machine.proofs.States.{Applies-refl}
use Rattle.u_machine.proofs.Settled.{settled_there, settled_back, settles, stays_unsettled}
use Rattle.u_machine.proofs.TakenLists.{takes_none, takes_next, takes_after, part_taken, never_full, never_other, next_place, new_before, all_no_memory}
use Rattle.u_machine.proofs.parts.Parts.take_all.Goals as goal
use Rattle.u_machine.proofs.parts.Parts.take_all.Goals.{After-may_take, After-take}

-- all of the list are firings of the job
are_firings : (c : After-may_take) → AreFirings c.args.self.now.job.now c.args.firings.now
are_firings c = subst (λ (j : JobParts). AreFirings j c.args.firings.now) c.settle.ensures.applies.grows.job c.in_default.ensures.none

-- what fits after settling fitted before
fits_before : (c : After-may_take) → Fits (state_of c.settle.new.self) c.args.firings.now → Fits (state_of c.args.self.now) c.args.firings.now
fits_before c (news, are, room) =
    let p = c.settle.ensures.applies in
    let w = p.count in
    let v = p.grows.limit in
    (news, new_before (state_of c.args.self.now) (state_of c.settle.new.self) c.args.firings.now news p are, omega (arith, room, w, v))

-- settling failed: an earlier call had left something
pub returns-in_err-settle-clause-answer : goal.returns-in_err-settle-clause-answer
returns-in_err-settle-clause-answer c =
    all_no_memory (state_of c.args.self.now) (state_of c.settle.new.self) c.args.firings.now _ c.from_residual.ensures.1
    (inl (stays_unsettled c.args.self.now c.settle.new.self c.requires c.settle.ensures.applies (λ st. let w = c.settle.ensures.still (settled_back c.args.self.now c.requires st) in absurd (let e = rw c.in_err-settle.was at w.0 in cc))))

pub returns-in-Some-clause-answer : goal.returns-in-Some-clause-answer
returns-in-Some-clause-answer c = (
  subst (λ (j : JobParts). IsFirstOther j c.args.firings.now c.in-Some.place) c.settle.ensures.applies.grows.job c.in-Some.ensures.some,
  settles c.args.self.now c.settle.new.self c.requires c.settle.ensures.applies c.settle.ensures.kept c.in_ok-settle.ensures.ok c.settle.ensures.still,
)

pub returns-then-not-may_take-clause-answer : goal.returns-then-not-may_take-clause-answer
returns-then-not-may_take-clause-answer c =
    let a = (goal.at.returns-then-not-may_take-clause-answer c).After-may_take in
    let p = c.settle.ensures.applies in
    let (news, are, room) = c.may_take.ensures.long c.if-not-may_take.true in
    let w = p.count in
    let v = p.grows.limit in (
      are_firings a,
      (news, new_before (state_of c.args.self.now) (state_of c.settle.new.self) c.args.firings.now news p are, omega (arith, room, w, v)),
      settles c.args.self.now c.settle.new.self c.requires p c.settle.ensures.kept c.in_ok-settle.ensures.ok c.settle.ensures.still,
    )

pub loop-firing-init : goal.loop-firing-init
loop-firing-init c = record {
  kept = c.settle.ensures.kept;
  takes = takes_none (state_of c.settle.new.self) (state_of c.settle.new.self) (Applies-refl (state_of c.settle.new.self));
  settled = settled_there c.settle.new.self c.settle.ensures.kept c.in_ok-settle.ensures.ok;
}

answer_is : (c : After-take) (r : Result Took TakeRefusal) → c.take.result ≡ r → TakeAnswer (state_of c.loop-firing.self) c.firing-item.result r (state_of c.take.new.self)
answer_is c r e = subst (λ (x : Result Took TakeRefusal). TakeAnswer (state_of c.loop-firing.self) c.firing-item.result x (state_of c.take.new.self)) e c.take.ensures.answer

-- one of the list could not be taken or applied
pub returns-in-Err-NoMemory-clause-answer : goal.returns-in-Err-NoMemory-clause-answer
returns-in-Err-NoMemory-clause-answer c =
    let a = (goal.at.returns-in-Err-NoMemory-clause-answer c).After-may_take in
    let b = (goal.at.returns-in-Err-NoMemory-clause-answer c).After-take in
    let (k, l, t) = part_taken (state_of c.settle.new.self) (state_of c.loop-firing.self) (state_of c.take.new.self) c.args.firings.now c.loop-firing.firing-index c.firing-item.result c.loop-firing-test.true c.firing-item.is c.loop-firing.invariant.takes (answer_is b (Err untaken.NoMemory) (c.in-Err-NoMemory.is ∙ ap Err c.in-Err-NoMemory.field-0-is)) in
    inr (are_firings a, fits_before a (c.may_take.ensures.fits c.if-not-may_take.false), (k, l, takes_after (state_of c.args.self.now) (state_of c.settle.new.self) (state_of c.take.new.self) (take k c.args.firings.now) c.settle.ensures.applies t))

pub unreachable-requires : goal.unreachable-requires
unreachable-requires c =
    let b = (goal.at.unreachable-requires c).After-take in
    let (news, are, room) = c.may_take.ensures.fits c.if-not-may_take.false in
    never_other (state_of c.settle.new.self) (state_of c.loop-firing.self) (state_of c.take.new.self) c.args.firings.now news c.loop-firing.firing-index c.firing-item.result c.loop-firing-test.true c.firing-item.is c.loop-firing.invariant.kept.logged.is c.loop-firing.invariant.takes are c.in_default.ensures.none
    (answer_is b (Err untaken.NotAFiring) (c.in-Err-NotAFiring.is ∙ ap Err c.in-Err-NotAFiring.field-0-is))

pub unreachable-requires-in-Err-Full : goal.unreachable-requires-in-Err-Full
unreachable-requires-in-Err-Full c =
    let b = (goal.at.unreachable-requires-in-Err-Full c).After-take in
    let (news, are, room) = c.may_take.ensures.fits c.if-not-may_take.false in
    never_full (state_of c.settle.new.self) (state_of c.loop-firing.self) (state_of c.take.new.self) c.args.firings.now news c.loop-firing.firing-index c.firing-item.result c.loop-firing-test.true c.firing-item.is c.loop-firing.invariant.kept.logged.is c.loop-firing.invariant.takes are room
    (answer_is b (Err untaken.Full) (c.in-Err-Full.is ∙ ap Err c.in-Err-Full.field-0-is))

pub loop-firing-preserved : goal.loop-firing-preserved
loop-firing-preserved c =
    let a = (goal.at.loop-firing-preserved c).After-take in
    let i = c.loop-firing.invariant in
    let t = takes_next (state_of c.settle.new.self) (state_of c.loop-firing.self) (state_of c.take.new.self) (take c.loop-firing.firing-index c.args.firings.now) i.takes c.firing-item.result c.in-Ok.field-0 (answer_is a _ c.in-Ok.is) in
    record {
      kept = c.take.ensures.kept;
      takes = rw (next_place c.args.firings.now c.loop-firing.firing-index c.firing-item.result c.loop-firing-test.true c.firing-item.is) t.0;
      settled = t.1;
    }

pub returns-clause-answer : goal.returns-clause-answer
returns-clause-answer c =
    let a = (goal.at.returns-clause-answer c).After-may_take in
    let i = c.loop-firing.invariant in
    let h : length c.args.firings.now ≤ c.loop-firing.firing-index = omega arith in (
      are_firings a,
      fits_before a (c.may_take.ensures.fits c.if-not-may_take.false),
      takes_after (state_of c.args.self.now) (state_of c.settle.new.self) (state_of c.loop-firing.self) c.args.firings.now c.settle.ensures.applies
          (subst (λ (fs : List Firing). TakesAll (state_of c.settle.new.self) fs (state_of c.loop-firing.self)) (lists.take_all c.loop-firing.firing-index c.args.firings.now h) i.takes),
      i.settled,
    )

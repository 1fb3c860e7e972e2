use Rattle.std.proofs.Common.{◌≡◌, ◌∙◌, ap, subst, refl, Err, inl}
use Rattle.std.specs.Prelude.{Result}
use Rattle.u_machine.specs.Calls.{Settles}
use Rattle.u_machine.specs.Taking.{AreFirings, TakeAllAnswer}
use Rattle.u_machine.specs.declared.answer.ListRefusal.{ListRefusal}
use Rattle.u_machine.specs.declared.answer.ListRefusal.TheVariants as lists
use Rattle.u_machine.proofs.States.{Applies-refl}
use Rattle.u_machine.proofs.Replies.{take_all_after, nothing_taken}
use Rattle.u_replica.specs.Merging.{all_of}
use Rattle.u_replica.proofs.MergeLaws.{merged, none_other, merged_full, merged_no_memory, merge_refused, are_firings}
use Rattle.u_replica.proofs.merging.take_other.Goals as goal
use Rattle.u_replica.proofs.merging.take_other.Goals.{After-has_room_for, After-take_all-taken}

-- what an earlier call began is applied
settles_is : (c : After-has_room_for) → Settles c.args.machine.now c.settle.new.self
settles_is c = record { applies = c.settle.ensures.applies; settled = c.in_ok-settle.ensures.ok; still = λ st. (c.settle.ensures.still st).1 }

others_firings : (c : After-has_room_for) → AreFirings c.settle.new.self.job (all_of c.args.other.now)
others_firings c = are_firings c.args.machine.now c.args.other.now c.settle.new.self c.holds.ensures.is c.holds-2.ensures.is c.requires c.settle.ensures.applies.grows.job

-- the answer, from before
answered : (c : After-take_all-taken) (r : Result (Unit {0}) ListRefusal) → c.take_all-taken.result ≡ r → TakeAllAnswer c.args.machine.now c.deref.result.now r c.take_all-taken.new.self
answered c r e =
    let settled : Settles c.args.machine.now c.settle.new.self =
    record { applies = c.settle.ensures.applies; settled = c.in_ok-settle.ensures.ok; still = λ st. (c.settle.ensures.still st).1 } in
    take_all_after c.args.machine.now c.settle.new.self c.take_all-taken.new.self c.deref.result.now settled r
    (subst (λ r. TakeAllAnswer c.settle.new.self c.deref.result.now r c.take_all-taken.new.self) e c.take_all-taken.ensures)

pub returns-in_err-settle : goal.returns-in_err-settle
returns-in_err-settle c =
    merge_refused c.args.machine.now c.args.other.now c.settle.new.self c.holds.ensures.is c.holds-2.ensures.is c.requires c.from_residual.result c.from_residual.ensures.1
    (inl (record { applies = c.settle.ensures.applies; unsettled = λ st. let w = c.settle.ensures.still st in absurd (let e = rw c.in_err-settle.was at w.0 in cc) }))

pub returns-then-not-has_room_for : goal.returns-then-not-has_room_for
returns-then-not-has_room_for c =
    let a = (goal.at.returns-then-not-has_room_for c).After-has_room_for in
    let mid = c.settle.new.self in
    let itself : Settles mid mid = record { applies = Applies-refl mid; settled = c.in_ok-settle.ensures.ok; still = λ _. refl } in
    merged_full c.args.machine.now c.args.other.now mid c.holds.ensures.is c.holds-2.ensures.is c.requires (all_of c.args.other.now) refl
    (take_all_after c.args.machine.now mid mid (all_of c.args.other.now) (settles_is a) (Err lists.Full) (others_firings a, c.has_room_for.ensures.long c.if-not-has_room_for.true, itself))

pub returns-in_err-all : goal.returns-in_err-all
returns-in_err-all c =
    let a = (goal.at.returns-in_err-all c).After-has_room_for in
    let mid = c.settle.new.self in
    merge_refused c.args.machine.now c.args.other.now mid c.holds.ensures.is c.holds-2.ensures.is c.requires c.from_residual-in_err-all.result c.from_residual-in_err-all.ensures.1
    (nothing_taken c.args.machine.now mid mid (all_of c.args.other.now) (settles_is a) (others_firings a) (c.has_room_for.ensures.fits c.if-not-has_room_for.false))

pub returns-in-Ok : goal.returns-in-Ok
returns-in-Ok c =
    let a = (goal.at.returns-in-Ok c).After-take_all-taken in
    merged c.args.machine.now c.args.other.now c.take_all-taken.new.self c.holds.ensures.is c.holds-2.ensures.is c.requires c.deref.result.now c.in-Ok.field-0 (c.deref.ensures.value ∙ c.in_ok-all.ensures) c.holds-3.ensures.is c.holds-3.ensures.promise
    (answered a _ c.in-Ok.is)

pub unreachable-requires : goal.unreachable-requires
unreachable-requires c =
    let a = (goal.at.unreachable-requires c).After-take_all-taken in
    none_other c.args.machine.now c.args.other.now c.take_all-taken.new.self c.holds.ensures.is c.holds-2.ensures.is c.requires c.deref.result.now c.in-NotAFiring.field-0 (c.deref.ensures.value ∙ c.in_ok-all.ensures)
    (answered a _ (c.in-Err.is ∙ ap Err c.in-NotAFiring.is))

pub returns-in-Full : goal.returns-in-Full
returns-in-Full c =
    let a = (goal.at.returns-in-Full c).After-take_all-taken in
    merged_full c.args.machine.now c.args.other.now c.take_all-taken.new.self c.holds.ensures.is c.holds-2.ensures.is c.requires c.deref.result.now (c.deref.ensures.value ∙ c.in_ok-all.ensures)
    (answered a _ (c.in-Err.is ∙ ap Err c.in-Full.is))

pub returns : goal.returns
returns c =
    let a = (goal.at.returns c).After-take_all-taken in
    merged_no_memory c.args.machine.now c.args.other.now c.take_all-taken.new.self c.holds.ensures.is c.holds-2.ensures.is c.requires c.deref.result.now (c.deref.ensures.value ∙ c.in_ok-all.ensures)
    (answered a _ (c.in-Err.is ∙ ap Err c.in-NoMemory.is))

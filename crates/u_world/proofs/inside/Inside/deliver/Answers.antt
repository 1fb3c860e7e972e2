use Rattle.std.proofs.Common.{sym, subst, arith, inr}
use Rattle.u_delta.specs.declared.message.Message.{Message}
use Rattle.u_world.specs.Acts.{Receives}
use Rattle.u_world.specs.Inside.{world_of}
use Rattle.u_world.specs.Worlds.{IsSent}
use Rattle.u_world.specs.Happenings.{Delivers}
use Rattle.u_world.proofs.Places.{looked_up}
use Rattle.u_world.proofs.Moves.{put, one_changed}
use Rattle.u_world.proofs.Answered.{was_sent}
use Rattle.u_world.proofs.inside.Inside.deliver.Goals as goal

pub answer-requires : goal.answer-requires
answer-requires c =
    let w = world_of c.args.self.now in
    let m = c.in-Some.message.now in
    let q = c.in-Some.ensures.lookup in
    let at = looked_up w.messages c.deref.result.now c.args.place m _ c.deref.ensures.value q.0 q.1 in
    (subst (λ (m : Message). IsSent w m) c.in-Ask.is (was_sent w c.args.place m c.requires at.1)).asked

pub overflow_sub-from : goal.overflow_sub-from
overflow_sub-from c =
    let w = world_of c.args.self.now in
    let m = c.in-Some.message.now in
    let q = c.in-Some.ensures.lookup in
    let at = looked_up w.messages c.deref.result.now c.args.place m _ c.deref.ensures.value q.0 q.1 in
    let has = (subst (λ (m : Message). IsSent w m) c.in-Delta.is (was_sent w c.args.place m c.requires at.1)).receiver in
    omega (arith, has.0, c.from.ensures)

pub index_mut-requires : goal.index_mut-requires
index_mut-requires c =
    let w = world_of c.args.self.now in
    let m = c.in-Some.message.now in
    let q = c.in-Some.ensures.lookup in
    let at = looked_up w.messages c.deref.result.now c.args.place m _ c.deref.ensures.value q.0 q.1 in
    let has = (subst (λ (m : Message). IsSent w m) c.in-Delta.is (was_sent w c.args.place m c.requires at.1)).receiver in
    omega (arith, has.0, has.1, c.from.ensures)

pub returns-in-Ask : goal.returns-in-Ask
returns-in-Ask c =
    let w = world_of c.args.self.now in
    let m = c.in-Some.message.now in
    let q = c.in-Some.ensures.lookup in
    let at = looked_up w.messages c.deref.result.now c.args.place m _ c.deref.ensures.value q.0 q.1 in
    inr (at.0, (m, at.1, subst (λ (m : Message). Delivers m c.answer.result w (world_of c.answer.new.self)) (sym c.in-Ask.is) c.answer.ensures))

pub returns-in-Delta : goal.returns-in-Delta
returns-in-Delta c =
    let w = world_of c.args.self.now in
    let m = c.in-Some.message.now in
    let q = c.in-Some.ensures.lookup in
    let d = c.in-Delta.delta in
    let at = looked_up w.messages c.deref.result.now c.args.place m _ c.deref.ensures.value q.0 q.1 in
    let has = (subst (λ (m : Message). IsSent w m) c.in-Delta.is (was_sent w c.args.place m c.requires at.1)).receiver in
    let done = one_changed w d.receiver c.from.result (Receives d c.receive.result) c.index_mut.result.now c.receive.new.replica has c.from.ensures c.index_mut.ensures.value c.receive.ensures.answer c.receive.ensures.holds in
    inr (at.0, (m, at.1, subst (λ (m : Message). Delivers m c.receive.result w (put w c.from.result c.receive.new.replica)) (sym c.in-Delta.is) done))

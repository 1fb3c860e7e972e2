use Rattle.std.proofs.Common.{subst, List}
use Rattle.u_rule.specs.declared.firing.Firing.{Firing}
use Rattle.u_delta.specs.declared.message.Message.{Message}
use Rattle.u_delta.specs.Messages.{IsMessageOf}
use Rattle.u_world.specs.Acts.{TakesList}
use Rattle.u_world.specs.Inside.{world_of}
use Rattle.u_world.proofs.Moves.{put, one_changed}
use Rattle.u_world.proofs.Answered.{arrived}
use Rattle.u_world.proofs.inside.Inside.arrive.Goals as goal

pub returns-in-Ok-Delta : goal.returns-in-Ok-Delta
returns-in-Ok-Delta c =
    let w = world_of c.args.self.now in
    let d = c.in-Ok-Delta.delta in
    let r = c.take_all.result in
    let before = c.index_mut-replica.result.now in
    let after = c.take_all.new.replica in
    let took = subst (λ (fs : List Firing). TakesList fs r before after) c.as_slice.ensures c.take_all.ensures.answer in
    let done = one_changed w c.args.number c.from.result (TakesList d.firings r) before after c.requires c.from.ensures c.index_mut-replica.ensures.value took c.take_all.ensures.holds in
    arrived c.args.number c.args.bytes.now r w (put w c.from.result after) (d, subst (λ (m : Message). IsMessageOf c.args.bytes.now m) c.in-Ok-Delta.field-0-is c.in-Ok-Delta.ensures.answer, done)

use Rattle.std.proofs.Common.{rules, refl, ◌≡◌, ◌<◌, ◌+◌}
use Rattle.u_world.specs.Inside.{world_of}
use Rattle.u_world.specs.WorldState.{Has}
use Rattle.u_world.proofs.Answered.{restarted, not_again}
use Rattle.u_world.proofs.inside.Inside.restart.Goals as goal

pub returns-in-Ok : goal.returns-in-Ok
returns-in-Ok c =
    let a = c.args in
    let w = world_of a.self.now in
    let has : Has w a.number = c.if-not-has.ensures.0 refl in
    let life = c.in-Some.life in
    let next : life ≡ c.index.result.now.life + 1 = search rules in
    let small : life < 18446744073709551616 = search rules in
    restarted w c.requires a.number c.from-place.result a.keep life c.index.result.now c.index_mut.result.now c.start_again.new.replica c.in-Ok.replica c.index-2.result.now c.front-bytes.result.now c.in-Ok.field-0-1 has c.from-place.ensures c.index.ensures c.index_mut.ensures.value c.index-2.ensures next small c.front-bytes.ensures c.in-Ok.ensures.answer c.start_again.ensures.life c.start_again.ensures.holds

pub returns-in-Err : goal.returns-in-Err
returns-in-Err c =
    let a = c.args in
    let w = world_of a.self.now in
    let has : Has w a.number = c.if-not-has.ensures.0 refl in
    let life = c.in-Some.life in
    let next : life ≡ c.index.result.now.life + 1 = search rules in
    let small : life < 18446744073709551616 = search rules in
    not_again w c.requires a.number c.from-place.result a.keep life c.index.result.now c.index-2.result.now c.front-bytes.result.now c.in-Err.error c.of_restore.result has c.from-place.ensures c.index.ensures c.index-2.ensures next small c.front-bytes.ensures c.in-Err.ensures.whole c.in-Err.ensures.front c.of_restore.ensures

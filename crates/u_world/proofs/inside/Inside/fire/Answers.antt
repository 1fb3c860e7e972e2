use Rattle.std.proofs.Common.{inr, refl}
use Rattle.u_machine.specs.Calls.{FireAnswer}
use Rattle.u_world.specs.Refusals.{of_fire}
use Rattle.u_world.specs.Acts.{Answers}
use Rattle.u_world.specs.Inside.{world_of}
use Rattle.u_world.specs.WorldState.{Has}
use Rattle.u_world.proofs.Moves.{one_changed}
use Rattle.u_world.proofs.inside.Inside.fire.Goals as goal

pub returns : goal.returns
returns c =
    let a = c.args in
    let has : Has (world_of a.self.now) a.number = c.if-not-has.ensures.0 refl in
    inr (has, one_changed (world_of a.self.now) a.number c.from.result (Answers of_fire (λ r m n. FireAnswer m a.pick r n) c.fire.result) c.index_mut.result.now c.fire.new.replica has c.from.ensures c.index_mut.ensures.value c.fire.ensures.answer c.fire.ensures.holds)

use Rattle.std.proofs.Common.{take}
use Rattle.u_world.specs.Inside.{world_of}
use Rattle.u_world.specs.Worlds.{IsWorld}
use Rattle.u_world.specs.Runs.{EventSteps}
use Rattle.u_world.proofs.world.World.run.Given as goal

abbrev pub invariant-loop-place : goal.invariant-loop-place
invariant-loop-place l = record {
  steps : EventSteps l.fn.self (take l.place l.events) (world_of l.self-inside.inside);
  is : IsWorld (world_of l.self-inside.inside);
}

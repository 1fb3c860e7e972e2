use Rattle.std.proofs.Common.{◌≡◌}
use Rattle.u_world.specs.Inside.{AllHold}
use Rattle.u_world.specs.WorldState.{fresh_replicas, no_saves}
use Rattle.u_world.proofs.inside.Inside.new.Given as goal

abbrev pub invariant-loop-place : goal.invariant-loop-place
invariant-loop-place l = record {
  replicas : l.replicas.items ≡ fresh_replicas l.fn.job l.fn.limit l.place;
  saves : l.saves.items ≡ no_saves l.place;
  hold : AllHold l.replicas.items;
}

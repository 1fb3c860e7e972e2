use Rattle.std.proofs.Common.{[], take}
use Rattle.u_pictures.specs.Living.{Lives, Agree}
use Rattle.u_pictures.proofs.living.live.Given as goal

abbrev pub invariant-loop-place : goal.invariant-loop-place
invariant-loop-place l = record {
  lives : Lives 1 [] l.initial.world (take l.place l.events) l.happenings.items l.sent.items l.world;
  agree : Agree l.sent.items l.world.messages;
}

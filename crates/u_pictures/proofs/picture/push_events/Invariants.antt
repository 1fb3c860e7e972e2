use Rattle.std.proofs.Common.{◌≡◌, ◌++◌, take}
use Rattle.u_pictures.specs.Dot.{text}
use Rattle.u_pictures.specs.WorldPicture.{events_shown}
use Rattle.u_pictures.proofs.picture.push_events.Given as goal

abbrev pub invariant-loop-place : goal.invariant-loop-place
invariant-loop-place l = l.out.items ≡ l.initial.out.items ++ text (events_shown 1 (take l.place l.happenings))

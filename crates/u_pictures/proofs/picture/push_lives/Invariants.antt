use Rattle.std.proofs.Common.{◌≡◌, ◌++◌}
use Rattle.u_pictures.specs.Dot.{text}
use Rattle.u_pictures.specs.WorldPicture.{lives_shown}
use Rattle.u_pictures.proofs.picture.push_lives.Given as goal

abbrev pub invariant-loop-before : goal.invariant-loop-before
invariant-loop-before l = l.out.items ≡ l.initial.out.items ++ text (lives_shown l.last l.before)

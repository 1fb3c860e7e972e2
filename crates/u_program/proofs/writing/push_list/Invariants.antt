use Rattle.std.proofs.Common.{◌≡◌, ◌++◌, take, map}
use Rattle.u_base.specs.Spaced.{spaced}
use Rattle.u_program.specs.Text.{destination_word}
use Rattle.u_program.proofs.writing.push_list.Given as goal

abbrev pub invariant-loop-destination : goal.invariant-loop-destination
invariant-loop-destination l = l.out.items ≡ l.initial.out.items ++ spaced (map destination_word (take l.destination-index l.to))

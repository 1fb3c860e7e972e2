use Rattle.std.proofs.Common.{◌≡◌, length, []}
use Rattle.u_program.specs.Reading.{destinations_at}
use Rattle.u_program.proofs.ListLaws.{onto_read}
use Rattle.u_program.proofs.reading.destinations.Given as goal

abbrev pub invariant-loop-word : goal.invariant-loop-word
invariant-loop-word l = onto_read l.to.items (destinations_at l.version l.slashed l.below l.words) ≡ onto_read [] (destinations_at l.version l.slashed 0 l.initial.words)

abbrev pub decreases-loop-word : goal.decreases-loop-word
decreases-loop-word l = length l.words

use Rattle.std.proofs.Common.{◌≡◌, length}
use Rattle.u_program.specs.Reading.{kind_among}
use Rattle.u_program.proofs.reading.kind_among.Given as goal

abbrev pub invariant-loop-kind : goal.invariant-loop-kind
invariant-loop-kind l = kind_among l.rest l.word ≡ kind_among l.kinds l.word

abbrev pub decreases-loop-kind : goal.decreases-loop-kind
decreases-loop-kind l = length l.rest

use Rattle.std.proofs.Common.{◌≡◌, length}
use Rattle.u_source.specs.Marks.{keyword_among}
use Rattle.u_source.proofs.mark.keyword_among.Given as goal

abbrev pub invariant-loop-mark : goal.invariant-loop-mark
invariant-loop-mark l = keyword_among l.rest l.word ≡ keyword_among l.marks l.word

abbrev pub decreases-loop-mark : goal.decreases-loop-mark
decreases-loop-mark l = length l.rest

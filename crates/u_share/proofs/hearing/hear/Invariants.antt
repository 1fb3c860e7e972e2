use Rattle.std.proofs.Common.{◌≡◌, ◌≤◌, ◌+◌, ◌++◌, [], List, ℕ, length}
use Rattle.std.specs.Io.KnownBytes.{Appends}
use Rattle.u_share.specs.Headline.{member, Goes}
use Rattle.u_share.proofs.hearing.hear.Given as goal

abbrev pub invariant-loop-last : goal.invariant-loop-last
invariant-loop-last g l =
    (front : List ℕ) × (told : List ℕ) × (l.bytes ≡ front ++ l.rest)
    × Goes (member l.fn.machine l.fn.splitter.begun.items l.fn.splitter.ended) front [] told (member l.machine l.splitter.begun.items l.splitter.ended)
    × Appends (g.N.Write.contents l.fn.notices) (g.N.Write.contents l.notices) told
    × (l.splitter.ended + length l.rest ≤ l.fn.splitter.ended + length l.bytes)

abbrev pub decreases-loop-last : goal.decreases-loop-last
decreases-loop-last g l = length l.rest

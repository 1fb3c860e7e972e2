use Rattle.std.proofs.Common.{◌≡◌, ◌+◌, ◌≤◌, ◌++◌, map, reverse, vec_len, vec_capacity}
use Rattle.u_fleet.specs.Fleets.{list_of, end_of}
use Rattle.u_fleet.proofs.closing.close_all.Given as goal

abbrev pub invariant-loop-outlet : goal.invariant-loop-outlet
invariant-loop-outlet g l = (map list_of l.pairs.items ++ reverse l.ended.published.items ≡ map list_of l.initial.pairs.items) × (map end_of l.pairs.items ++ reverse l.ended.ends.items ≡ map end_of l.initial.pairs.items) × (vec_len l.ended.published + vec_len l.pairs ≤ vec_capacity l.ended.published) × (vec_len l.ended.ends + vec_len l.pairs ≤ vec_capacity l.ended.ends)

abbrev pub decreases-loop-outlet : goal.decreases-loop-outlet
decreases-loop-outlet g l = vec_len l.pairs

use Rattle.std.proofs.Common.{◌≡◌, ◌≤◌, All, map, length, vec_len, vec_capacity}
use Rattle.u_fleet.specs.Fleets.{seat_of, IsSilent, AreCounted}
use Rattle.u_fleet.proofs.making.open_all.Given as goal

abbrev pub invariant-loop-seat : goal.invariant-loop-seat
invariant-loop-seat g l =
    (goal.iterator-loop-seat g).can_next l.seat-iterator ×
    (goal.iterator-loop-seat g).is_finite l.seat-iterator × (map seat_of l.pairs.items ≡ l.yielded) × All IsSilent l.pairs.items × AreCounted l.pairs.items
    × (vec_len l.pairs ≡ length l.yielded) × (vec_len l.fn.seats ≤ vec_capacity l.pairs)

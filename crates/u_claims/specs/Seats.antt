-- What clauses say of a board and its seats.
use Rattle.std.specs.Prelude.{◌≡◌, ℕ, ◌+◌, List, slice_get, Some}
use Rattle.u_claims.specs.declared.rule.Hand.{Hand}
use Rattle.u_claims.specs.declared.seats.Board.{Board}
use Rattle.u_claims.specs.declared.seats.ClaimSeat.{ClaimSeat}
use Rattle.u_claims.specs.Held.{hand, none_held}

-- the number of the seat, and the buckets that it holds
abbrev pub view_of : ClaimSeat → Hand
view_of seat = seat.seat.me.0

-- the seat is one of the board's
abbrev pub IsSeatOf : Board → ClaimSeat → Type 0
IsSeatOf board seat = seat.seat.table_id ≡ board.table.shared.table_id

-- the seat is one of so many, has that number, and holds nothing
abbrev pub IsFresh : ℕ → ℕ → ClaimSeat → Type 0
IsFresh seats number seat = view_of seat ≡ hand seats number none_held

-- the seats of the list, of so many, have the numbers 1, 2, and so on, and hold nothing
abbrev pub AreNumbered : ℕ → List ClaimSeat → Type 0
AreNumbered seats all = (k : ℕ) (seat : ClaimSeat) → slice_get all k ≡ Some seat → IsFresh seats (k + 1) seat

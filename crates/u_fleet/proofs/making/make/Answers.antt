use Rattle.u_claims.specs.Seats.{IsSeatOf}
use Rattle.u_fleet.specs.Fleets.{seat_of}
use Rattle.u_fleet.proofs.Pairs.{all_of_map}
use Rattle.u_fleet.proofs.making.make.Goals as goal

pub returns-clause-new : goal.returns-clause-new
returns-clause-new g c k d small = (all_of_map seat_of (IsSeatOf c.in_ok-board.board) c.in_ok-pairs.pairs.items _ c.in_ok-pairs.ensures.seats c.in_ok-board.ensures.seats k d small, c.in_ok-pairs.ensures.silent k d small)

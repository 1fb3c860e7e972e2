use Rattle.std.proofs.Common.{◌≡◌, [], All, vec_len}
use Rattle.u_claims.specs.Held.{newcomer}
use Rattle.u_claims.specs.Seats.{IsSeatOf, AreNumbered}
use Rattle.u_claims.proofs.board.number_all.Given as goal

abbrev pub invariant-loop-drawn : goal.invariant-loop-drawn
invariant-loop-drawn l = (l.first.table_id ≡ l.board.table.shared.table_id) × (l.first.me ≡ (newcomer l.fn.seats, []))
    × (vec_len l.all ≡ l.drawn) × All (IsSeatOf l.board) l.all.items × AreNumbered l.fn.seats l.all.items

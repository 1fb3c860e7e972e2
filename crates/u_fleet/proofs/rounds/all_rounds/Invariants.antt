use Rattle.std.proofs.Common.{◌≡◌, []}
use Rattle.u_claims.specs.Seats.{IsSeatOf}
use Rattle.u_outlet.specs.Ends.{published, pending}
use Rattle.u_fleet.specs.Workers.{Lives, IsWorkerOf}
use Rattle.u_fleet.proofs.rounds.all_rounds.Given as goal

abbrev pub invariant-loop-round : goal.invariant-loop-round
invariant-loop-round g l =
    Lives g.J.Named.job l.life (published l.pair.0)
    × (pending l.pair.0 ≡ [])
    × (l.pair.1.number ≡ l.initial.pair.1.number)
    × IsSeatOf l.setting.board.now l.pair.1.seat
    × IsWorkerOf l.setting.plan l.pair.1.number
    × (l.life.replica.machine.limit ≡ l.setting.plan.limit)

-- Workers may cross threads.
use denote.RattleType.{RattleType}
use denote.Struct.Declared.{shape}
use denote.Param.Send.{IsSend, sendable, recorded_send, struct_send}
use Rattle.std.proofs.Crossing.{crosses}
use Rattle.std.proofs.vec.Vec.TheSendSync as vec
use Rattle.u_claims.proofs.seats.ClaimSeat.TheSendSync as seat
use Rattle.u_outlet.proofs.Crossing.{inlet_send}
use Rattle.u_outlet.specs.declared.named.Named as named
use Rattle.u_fleet.proofs.plan.End.TheSendSync as end
use Rattle.u_fleet.specs.contracts.worker.Worker as worker

-- its fields: number, seat, inlets, places, end
worker_field_send : (J : RattleType) (g : named.Ghosts J.Denot) → IsSend (worker.the_field J g).row
worker_field_send J g =
    struct_send (shape (worker.the_type J g)) (
      search sendable,
      (
        seat.the_field_send,
        (
          search (inlet_send, vec.the_send, crosses, sendable) depth 60 fits 20000,
          (
            search (vec.the_send, crosses, sendable) depth 60 fits 20000,
            (
              end.the_field_send,
              tt,
            ),
          ),
        ),
      ),
    )

pub worker_send : (J : RattleType) (g : named.Ghosts J.Denot) → IsSend (worker.the_row J g)
worker_send J g = recorded_send (worker.the_field J g).row _ _ (worker.the_type J g).to_one (worker_field_send J g)

use Rattle.u_claims.specs.Seats.{IsSeatOf}
use Rattle.u_tests_core.proofs.thread_tests.play.Given as goal

abbrev pub invariant-loop-step : goal.invariant-loop-step
invariant-loop-step l = IsSeatOf l.board l.seat

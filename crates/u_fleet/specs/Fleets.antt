-- What holds of the workers of a fleet, each with its outlet, before and after their threads.
use Rattle.std.specs.Prelude.{◌≡◌, ℕ, ◌<◌, ◌+◌, List, [], length, vec_len, slice_index_or}
use Rattle.left_right.specs.declared.Absorb as absorb
use Rattle.u_check.specs.Jobs.{JobParts}
use Rattle.u_rule.specs.declared.firing.Firing.{Firing}
use Rattle.u_claims.specs.Seats.{IsSeatOf}
use Rattle.u_claims.specs.declared.seats.Board.{Board}
use Rattle.u_claims.specs.declared.seats.ClaimSeat.{ClaimSeat}
use Rattle.u_outlet.specs.Ends.{published, pending}
use Rattle.u_outlet.specs.declared.ends.OutletOf.{OutletOf}
use Rattle.u_fleet.specs.Workers.{IsWorkerOf}
use Rattle.u_fleet.specs.Headline.{HasEnded}
use Rattle.u_fleet.specs.declared.gate.Turn.{Turn}
use Rattle.u_fleet.specs.declared.plan.End.{End}
use Rattle.u_fleet.specs.declared.plan.FleetPlan.{FleetPlan}
use Rattle.u_fleet.specs.declared.worker.Worker.{Worker}

-- an outlet and the worker that has it
abbrev pub Pair : (J P : Type 0) → absorb.Ghosts (List Firing) (List Firing) (List Firing) → Type 0
Pair J P g = OutletOf (List Firing) (List Firing) (List Firing) P g × Worker J

module _ {J P : Type 0} {g : absorb.Ghosts (List Firing) (List Firing) (List Firing)} where
  -- the outlet, and the worker's number and seat: all but what it knows of the others and how it ended
  abbrev pub self_of : Pair J P g → OutletOf (List Firing) (List Firing) (List Firing) P g × ℕ × ClaimSeat
  self_of pair = (pair.0, pair.1.number, pair.1.seat)

  -- the worker's seat
  abbrev pub seat_of : Pair J P g → ClaimSeat
  seat_of pair = pair.1.seat

  -- what the worker published
  abbrev pub list_of : Pair J P g → List Firing
  list_of pair = published pair.0

  -- how it ended
  abbrev pub end_of : Pair J P g → End
  end_of pair = pair.1.end

  -- the outlet has nothing published and nothing pending
  abbrev pub IsSilent : Pair J P g → Type 0
  IsSilent pair = (published pair.0 ≡ []) × (pending pair.0 ≡ [])

  -- the worker has a seat of the board, and its outlet is silent
  abbrev pub IsNew : Board → Pair J P g → Type 0
  IsNew board pair = IsSeatOf board pair.1.seat × IsSilent pair

  -- and the worker is one of the plan's
  abbrev pub MayRun : FleetPlan → Board → Pair J P g → Type 0
  MayRun plan board pair = IsNew board pair × IsWorkerOf plan pair.1.number

  -- the workers have the numbers 1, 2, and so on
  abbrev pub AreCounted : List (Pair J P g) → Type 0
  AreCounted pairs = (k : ℕ) (d : Pair J P g) → k < length pairs → (slice_index_or pairs k d).1.number ≡ k + 1

  -- of so many workers, the worker has an inlet for each other one, and a place for each inlet
  abbrev pub IsLinked : ℕ → Pair J P g → Type 0
  IsLinked workers pair = (vec_len pair.1.inlets + 1 ≡ workers) × (vec_len pair.1.places ≡ vec_len pair.1.inlets)

  -- the worker has its number still; and its list and its end are those of a worker of the plan
  abbrev pub HasWorked : (may : ℕ → ℕ → Turn → Type 0) → JobParts → FleetPlan → (old new : Pair J P g) → Type 0
  HasWorked may job plan old new = (new.1.number ≡ old.1.number) × HasEnded may job plan.limit plan.rounds old.1.number (published new.0) new.1.end

  -- and so each worker of a list
  abbrev pub HaveWorked : (may : ℕ → ℕ → Turn → Type 0) → JobParts → FleetPlan → (old new : List (Pair J P g)) → Type 0
  HaveWorked may job plan old new =
      (i : ℕ) (d : Pair J P g) → i < length old → HasWorked may job plan (slice_index_or old i d) (slice_index_or new i d)

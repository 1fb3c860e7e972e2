-- Lists of events, one after another.
use Rattle.std.specs.Prelude.{◌≡◌, ℕ, List, [], ◌∷◌, take, Result, Ok, Err, slice_get, Some}
use Rattle.u_world.specs.declared.event.Event.{Event}
use Rattle.u_world.specs.declared.refused.Refused.{Refused}
use Rattle.u_world.specs.declared.refused.Refused.TheVariants.{BadEvent, Full, NoMemory}
use Rattle.u_world.specs.declared.refused.WorldError.{WorldError}
use Rattle.u_world.specs.declared.refused.WorldError.TheVariants as errors
use Rattle.u_world.specs.WorldState.{WorldState}
use Rattle.u_world.specs.Happenings.{EventAnswer, EventStep}

-- the events happen, one after another
abbrev pub EventSteps : WorldState → List Event → WorldState → Type 0
EventSteps old [] new = new ≡ old
EventSteps old (e ∷ es) new = (mid : WorldState) × EventStep old e mid × EventSteps mid es new

-- the events before the place happen, and the one there is refused so; those behind it are not looked at
pub record StopsAt (old : WorldState) (es : List Event) (place : ℕ) (refused : Refused) (new : WorldState) : Type 0 where
  pub mid : WorldState
  pub event : Event
  pub at : slice_get es place ≡ Some event
  pub before : EventSteps old (take place es) mid
  pub last : EventAnswer mid event (Err refused) new

-- all events happen, or the first one that is refused is named
abbrev pub EventsAnswer : WorldState → List Event → Result (Unit {0}) WorldError → WorldState → Type 0
EventsAnswer old es (Ok u) new = EventSteps old es new
EventsAnswer old es (Err (errors.BadEvent place)) new = StopsAt old es place BadEvent new
EventsAnswer old es (Err (errors.Full place)) new = StopsAt old es place Full new
EventsAnswer old es (Err (errors.NoMemory place)) new = StopsAt old es place NoMemory new

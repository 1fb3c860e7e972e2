-- How a machine goes on that takes sound firings: those of its job that some run could make.
use Rattle.u_rule.specs.declared.firing.Firing.{Firing}
use Rattle.u_machine.specs.State.{State, Taken}
use Rattle.u_machine.specs.Calls.{Grows}
use Rattle.u_machine.specs.declared.answer.ListRefusal.{ListRefusal}
use Rattle.u_machine.specs.declared.answer.ListRefusal.TheVariants.{NotAFiring, Full, NoMemory}
use Rattle.u_outlet.specs.Sound.{IsSound}
use Rattle.u_fleet.specs.Headline.{MoreThan}

-- nothing is taken
abbrev pub TookNone : State → Type 0
TookNone m = (f : Firing) → Taken m f → ⊥

-- all that the machine took is sound
abbrev pub TookSound : State → Type 0
TookSound m = (f : Firing) → Taken m f → IsSound m.job f

-- nothing is lost, and where all that was taken is sound it stays so
pub record Gains (old new : State) : Type 0 where
  pub grows : Grows old new
  pub sound : TookSound old → TookSound new

-- what a machine that took sound firings says of its job as it has no room: more are sound than may be taken
abbrev pub MayBeFull : State → Type 0
MayBeFull old = TookSound old → MoreThan old.job old.limit

-- why sound firings are not taken: there is no room, or no memory
abbrev pub MayRefuse : State → ListRefusal → Type 0
MayRefuse old (NotAFiring place) = ⊥
MayRefuse old Full = MayBeFull old
MayRefuse old NoMemory = Unit {0}

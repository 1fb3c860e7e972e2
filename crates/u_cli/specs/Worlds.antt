-- What `world` tells of a job and a plan: how many replicas there are, their events, and how many firings a replica
-- takes.
use Rattle.std.specs.Prelude.{◌≡◌, ℕ, zero, suc, ◌+◌, ◌-◌, ◌⊎◌, List, [], ◌∷◌, ◌++◌, Ok, Err, codes, length}
use Rattle.u_check.specs.Jobs.{JobParts}
use Rattle.u_machine.specs.State.{State, IsMachine}
use Rattle.u_machine.specs.Calls.{RunAnswer}
use Rattle.u_machine.specs.declared.answer.Ran.{Ran}
use Rattle.u_replica.specs.ReplicaState.{ReplicaState}
use Rattle.u_world.specs.declared.event.Event.{Event}
use Rattle.u_world.specs.declared.event.Event.TheVariants as events
use Rattle.u_world.specs.declared.refused.WorldError.TheVariants as errors
use Rattle.u_world.specs.WorldState.{WorldState, At, fresh_world}
use Rattle.u_world.specs.Runs.{EventSteps, EventsAnswer}
use Rattle.u_world.specs.Random.{random_list}
use Rattle.u_world.specs.Scripts.{IsScriptOf, IsBadLine}
use Rattle.u_cli.specs.declared.worlds.Events.{Events}
use Rattle.u_cli.specs.declared.worlds.Events.TheVariants.{Random, Script}
use Rattle.u_cli.specs.declared.worlds.WorldPlan.{WorldPlan}
use Rattle.u_pictures.specs.declared.happening.Happening.{Happening}
use Rattle.u_pictures.specs.declared.living.Sent.{Sent}
use Rattle.u_pictures.specs.Living.{Lives}
use Rattle.u_pictures.specs.WorldPicture.{picture_text}
use Rattle.u_commands.specs.Outputs.{numbered}
use Rattle.u_commands.specs.Runs.{ReportsMachine, RunRefused, ending_of}
use Rattle.u_commands.specs.declared.command_error.CommandError.{CommandError}
use Rattle.u_commands.specs.declared.command_error.CommandError.TheVariants as faults

-- `replica K firings N parked P entries E`
unfoldable pub replica_line : ReplicaState → List ℕ
replica_line r =
    numbered (codes "replica ") r.number
    ++ (numbered (codes " firings ") (length r.machine.log)
    ++ (numbered (codes " parked ") (length r.machine.parked)
    ++ (numbered (codes " entries ") (length r.machine.history) ++ (10 ∷ []))))

-- a line for each replica
abbrev pub replica_lines : List ReplicaState → List ℕ
replica_lines [] = []
replica_lines (r ∷ rs) = replica_line r ++ replica_lines rs

-- replica 1 merges so many others, in the order of their numbers
abbrev pub merges : ℕ → List Event
merges zero = []
merges (suc k) = merges k ++ (events.Merge 1 (k + 2) ∷ [])

-- no event of the list is one that cannot be done
abbrev pub AreDoable : WorldState → List Event → Type 0
AreDoable w es = (place : ℕ) (new : WorldState) → EventsAnswer w es (Err (errors.BadEvent place)) new → ⊥

-- one of the events finds a replica full, or there is no memory
abbrev pub EventsRefused : WorldState → List Event → CommandError → Type 0
EventsRefused w es faults.Full = (place : ℕ) × (new : WorldState) × EventsAnswer w es (Err (errors.Full place)) new
EventsRefused w es faults.NoMemory = Unit {0}
EventsRefused w es fault = ⊥

-- the bytes are no script
abbrev pub IsNoScript : List ℕ → CommandError → Type 0
IsNoScript bytes (faults.ScriptLineNotAllowed n) = IsBadLine bytes n
IsNoScript bytes faults.NoMemory = Unit {0}
IsNoScript bytes fault = ⊥

-- these are the events of a plan with so many replicas
abbrev pub AreEvents : Events → ℕ → List Event → Type 0
AreEvents (Random seed count) replicas es = es ≡ random_list seed replicas count
AreEvents (Script script) replicas es = IsScriptOf script.now es

abbrev pub AreEventsOf : WorldPlan → List Event → Type 0
AreEventsOf plan es = AreEvents plan.events plan.replicas es

-- why there are none
abbrev pub LackEvents : Events → CommandError → Type 0
LackEvents (Random seed count) fault = fault ≡ faults.NoMemory
LackEvents (Script script) fault = IsNoScript script.now fault

abbrev pub LacksEvents : WorldPlan → CommandError → Type 0
LacksEvents plan fault = LackEvents plan.events fault

-- the event of line n can't happen, which is never so of random events
abbrev pub IsImpossible : WorldState → List Event → ℕ → Type 0
IsImpossible w es n = (place : ℕ) × (n ≡ place + 1) × (new : WorldState) × EventsAnswer w es (Err (errors.BadEvent place)) new

-- why not all of the events happen
abbrev pub EventsStop : WorldState → List Event → CommandError → Type 0
EventsStop w es faults.Full = (place : ℕ) × (new : WorldState) × EventsAnswer w es (Err (errors.Full place)) new
EventsStop w es (faults.ScriptLineImpossible n) = IsImpossible w es n
EventsStop w es faults.NoMemory = Unit {0}
EventsStop w es fault = ⊥

-- the new replicas of the job that a plan begins with
abbrev pub begun : JobParts → WorldPlan → WorldState
begun job plan = fresh_world job plan.firings plan.replicas

-- this holds of the plan's events
abbrev pub HasEvents : WorldPlan → (List Event → Type 0) → Type 0
HasEvents plan P = (es : List Event) × AreEventsOf plan es × P es

-- the world of the job after these events
abbrev pub Happens : JobParts → WorldPlan → WorldState → Type 0
Happens job plan w = HasEvents plan (λ es. EventSteps (begun job plan) es w)

-- why there is no such world: there are no events, or they stop
abbrev pub NotHappened : JobParts → WorldPlan → CommandError → Type 0
NotHappened job plan fault =
    LacksEvents plan fault ⊎ HasEvents plan (λ es. EventsStop (begun job plan) es fault)

-- the first replica of a world, once it merged the others
pub record Gathers (w : WorldState) (first : ReplicaState) : Type 0 where
  pub gathered : WorldState
  pub merged : EventSteps w (merges (length w.replicas - 1)) gathered
  pub at : At gathered.replicas 1 first

-- the report and the status of a machine that fires what it can, so many at most
pub record EndsAlone (old : State) (firings : ℕ) (report : List ℕ) (status : ℕ) : Type 0 where
  pub end : Ran
  pub machine : State
  pub is_machine : IsMachine machine
  pub ran : RunAnswer old firings (Ok end) machine
  pub reported : ReportsMachine machine (ending_of end) report status

-- The lines of a world's replicas, and behind them the report and the status of the first one, once it merged
-- the others and fired what it could, so many times at most.
pub record TellsEnd (w : WorldState) (firings : ℕ) (written : List ℕ) (status : ℕ) : Type 0 where
  pub first : ReplicaState
  pub gathers : Gathers w first
  pub report : List ℕ
  pub ends : EndsAlone first.machine firings report status
  pub is : written ≡ replica_lines w.replicas ++ report

-- a replica is full as the first one merges the others, or as it fires in the end; or there is no memory
abbrev pub EndsRefused : WorldState → ℕ → CommandError → Type 0
EndsRefused w firings fault =
    EventsRefused w (merges (length w.replicas - 1)) fault
    ⊎ ((first : ReplicaState) × Gathers w first × RunRefused first.machine firings fault)

-- what is told of a world of the job after the events
pub record TellsWorld (job : JobParts) (plan : WorldPlan) (written : List ℕ) (status : ℕ) : Type 0 where
  pub after : WorldState
  pub happened : Happens job plan after
  pub tells : TellsEnd after plan.firings written status

-- why nothing is told of it: there is no such world, or a replica is full as the first one merges or fires
abbrev pub WorldRefused : JobParts → WorldPlan → CommandError → Type 0
WorldRefused job plan fault =
    NotHappened job plan fault
    ⊎ ((after : WorldState) × Happens job plan after × EndsRefused after plan.firings fault)

-- The picture of what the plan's events did, one after another, among new replicas of the job; and the status of what
-- `world` tells after them.
pub record DrawsWorld (job : JobParts) (plan : WorldPlan) (text : List ℕ) (status : ℕ) : Type 0 where
  pub es : List Event
  pub are : AreEventsOf plan es
  pub happenings : List Happening
  pub sent : List Sent
  pub after : WorldState
  pub lives : Lives 1 [] (begun job plan) es happenings sent after
  pub is : text ≡ picture_text plan.replicas happenings
  pub written : List ℕ
  pub told : TellsEnd after plan.firings written status

-- why it is not drawn: there are no events, or they stop, or the first replica is full in the end
abbrev pub WorldNotDrawn : JobParts → WorldPlan → CommandError → Type 0
WorldNotDrawn job plan fault =
    NotHappened job plan fault
    ⊎ HasEvents plan (λ es. (happenings : List Happening) × (sent : List Sent) × (after : WorldState)
    × Lives 1 [] (begun job plan) es happenings sent after × EndsRefused after plan.firings fault)

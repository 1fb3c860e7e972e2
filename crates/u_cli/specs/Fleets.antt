-- What `fleet` tells of a job, how many workers there are, and how many rounds each has.
use Rattle.std.specs.Prelude.{◌≡◌, ℕ, List}
use Rattle.u_check.specs.Jobs.{JobParts}
use Rattle.u_rule.specs.declared.firing.Firing.{Firing}
use Rattle.u_machine.specs.State.{State, IsMachine, NothingReady}
use Rattle.u_machine.specs.Headline.{IsWhole}
use Rattle.u_history.specs.declared.report.Ending.TheVariants.{Quiet}
use Rattle.u_fleet.specs.Headline.{MoreThan, IsReport}
use Rattle.u_fleet.specs.declared.gate.Turn.{Turn}
use Rattle.u_fleet.specs.declared.gate.Turn.TheVariants.{Go}
use Rattle.u_fleet.specs.declared.plan.End.{End}
use Rattle.u_fleet.specs.declared.plan.FleetPlan.{FleetPlan}
use Rattle.u_fleet.specs.declared.plan.FleetFault.{FleetFault}
use Rattle.u_fleet.specs.declared.plan.FleetFault.TheVariants as fleet_faults
use Rattle.u_commands.specs.Runs.{ReportsMachine}
use Rattle.u_commands.specs.declared.command_error.CommandError.{CommandError}
use Rattle.u_commands.specs.declared.command_error.CommandError.TheVariants as faults

-- a round has 100 firings at most, and a worker takes 100,000 at most
abbrev pub fleet_plan : ℕ → ℕ → FleetPlan
fleet_plan workers rounds = record { workers = workers; rounds = rounds; budget = 100; limit = 100000 }

-- the gate lets each worker go on
abbrev pub goes : ℕ → ℕ → Turn → Type 0
goes worker round turn = turn ≡ Go

-- What is told of a fleet of the job: the report of a machine that took exactly what the workers published, each firing
-- once, so its counts are exact. Nothing is ready in it, so its history is whole.
pub record TellsFleet (job : JobParts) (workers rounds : ℕ) (report : List ℕ) (status : ℕ) : Type 0 where
  pub machine : State
  pub published : List (List Firing)
  pub ends : List End
  pub is : IsMachine machine
  pub fleet : IsReport goes job (fleet_plan workers rounds) machine published ends
  pub ready : NothingReady machine
  pub whole : IsWhole machine
  pub reported : ReportsMachine machine Quiet report status

-- the fault that is told of a fleet without a report
abbrev pub fleet_fault : FleetFault → CommandError
fleet_fault fleet_faults.NoThread = faults.NoThread
fleet_fault fleet_faults.NoReader = faults.NoReader
fleet_fault fleet_faults.Full = faults.Full
fleet_fault fleet_faults.NoMemory = faults.NoMemory

-- why nothing is told of a job's fleet: more firings of the job are sound than a worker takes, or the surroundings fail
abbrev pub FleetRefused : JobParts → CommandError → Type 0
FleetRefused job faults.Full = MoreThan job 100000
FleetRefused job faults.NoMemory = Unit {0}
FleetRefused job faults.NoThread = Unit {0}
FleetRefused job faults.NoReader = Unit {0}
FleetRefused job fault = ⊥

-- What a fleet promises, in the words of those who use it.
--
-- A fleet runs one job in several threads. Each worker has a replica of its own. It applies firings, publishes
-- what it applied, pulls what the others published, and may be stopped, or start again from what it saved, after
-- any of its rounds. No schedule of the threads and no such event changes what is reported: the report has the
-- published lists, each of them one run of the job, and a machine that took what they have and nothing else.
use Rattle.std.specs.Prelude.{◌≡◌, ℕ, ◌+◌, List, [], length, ◌<◌, Contains, All, slice_index_or}
use Rattle.u_base.specs.Firing.{Derivation, Distinct, Held, Whole, Same}
use Rattle.u_check.specs.Jobs.{JobParts}
use Rattle.u_rule.specs.Rule.{own_of}
use Rattle.u_rule.specs.declared.firing.Firing.{Firing}
use Rattle.u_machine.specs.State.{State, Taken, IsSettled, NothingReady}
use Rattle.u_machine.specs.Headline.{IsWhole}
use Rattle.u_outlet.specs.Sound.{IsSound}
use Rattle.u_fleet.specs.declared.gate.Turn.{Turn}
use Rattle.u_fleet.specs.declared.gate.Turn.TheVariants.{Stop}
use Rattle.u_fleet.specs.declared.plan.FleetPlan.{FleetPlan}
use Rattle.u_fleet.specs.declared.plan.End.{End}
use Rattle.u_fleet.specs.declared.plan.End.TheVariants.{Done, Stopped, Full, NoMemory}

-- each of the list is sound
abbrev pub AreSound : JobParts → List Firing → Type 0
AreSound job fs = (f : Firing) → Contains fs f → IsSound job f

-- more than so many firings are sound
abbrev pub MoreThan : JobParts → ℕ → Type 0
MoreThan job limit = (fs : List Firing) × Distinct fs × AreSound job fs × (limit < length fs)

-- the list has each sound firing of the job, and holds the whole history
pub record IsWholeList (job : JobParts) (fs : List Firing) : Type 0 where
  pub held : Same (Held (own_of job) fs) (Whole (own_of job))
  pub all : (f : Firing) → IsSound job f → Contains fs f

-- how a worker may end, with all that it has published: its list is whole; the gate may have stopped it after a
-- round of the plan; more firings are sound than it may take; or there was no memory
abbrev pub EndsWith : (may : ℕ → ℕ → Turn → Type 0) → JobParts → (limit rounds worker : ℕ) → List Firing → End → Type 0
EndsWith may job limit rounds worker published Done = IsWholeList job published
EndsWith may job limit rounds worker published Stopped = (round : ℕ) × (round < rounds) × may worker round Stop
EndsWith may job limit rounds worker published Full = MoreThan job limit
EndsWith may job limit rounds worker published NoMemory = Unit {0}

-- what a worker leaves: all that it published is one run after another of the job, and so one run, and it ended so
pub record HasEnded (may : ℕ → ℕ → Turn → Type 0) (job : JobParts) (limit rounds worker : ℕ) (published : List Firing) (end : End) : Type 0 where
  pub run : Derivation (own_of job) published
  pub ends : EndsWith may job limit rounds worker published end

-- one of the lists has the firing
abbrev pub IsPublished : List (List Firing) → Firing → Type 0
IsPublished lists f = (fs : List Firing) × Contains lists fs × Contains fs f

-- each of the lists is one run of the job
abbrev pub AreRuns : JobParts → List (List Firing) → Type 0
AreRuns job lists = All (λ fs. Derivation (own_of job) fs) lists

-- each worker was stopped
abbrev pub AreStopped : List End → Type 0
AreStopped ends = (end : End) → Contains ends end → end ≡ Stopped

-- the machine took exactly what is published, parks none of it, and is settled
pub record TookPublished (job : JobParts) (lists : List (List Firing)) (m : State) : Type 0 where
  pub job_is : m.job ≡ job
  pub taken : Same (Taken m) (IsPublished lists)
  pub parked : m.parked ≡ []
  pub settled : IsSettled m

-- There is a published list and an end for each worker of the plan, and they are those of a worker.
pub record HaveEnded (may : ℕ → ℕ → Turn → Type 0) (job : JobParts) (plan : FleetPlan) (lists : List (List Firing)) (ends : List End) : Type 0 where
  pub one_list : length lists ≡ plan.workers
  pub one_end : length ends ≡ plan.workers
  pub each : (k : ℕ) → k < plan.workers → HasEnded may job plan.limit plan.rounds (k + 1) (slice_index_or lists k []) (slice_index_or ends k Done)

-- The headline of a fleet, for every gate and every schedule. There is a published list and an end for each
-- worker. Each list is one run of the job, and has the whole history if its worker is done; a worker is stopped
-- only if the gate may say so, and is full only if more firings are sound than it may take. Every published firing
-- is sound. The machine took exactly the published firings. If some worker is done, nothing is ready in the
-- machine, and its history is whole; and else all workers are stopped.
pub record IsReport (may : ℕ → ℕ → Turn → Type 0) (job : JobParts) (plan : FleetPlan) (m : State) (lists : List (List Firing)) (ends : List End) : Type 0 where
  pub ended : HaveEnded may job plan lists ends
  pub sound : (f : Firing) → IsPublished lists f → IsSound job f
  pub took : TookPublished job lists m
  pub done : Contains ends Done → NothingReady m × IsWhole m
  pub none_done : (Contains ends Done → ⊥) → AreStopped ends

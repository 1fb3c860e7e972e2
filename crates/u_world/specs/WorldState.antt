-- What a world is: replicas of one job, all messages that they sent, and what each of them saved last.
use Rattle.std.specs.Prelude.{◌≡◌, ℕ, zero, suc, ◌-◌, ◌≤◌, List, [], ◌∷◌, ◌++◌, length, slice_get, slice_set, Some, refl}
use Rattle.std.specs.Coded.{Coded, code_by, coded×, coded_ℕ, coded_list}
use Rattle.u_name.specs.Context.{IsBetween}
use Rattle.u_check.specs.Jobs.{JobParts}
use Rattle.u_check.specs.contracts.job.Job as job_row
use Rattle.u_delta.specs.declared.message.Message.{Message}
use Rattle.u_delta.specs.contracts.message.Message as message_row
use Rattle.u_replica.specs.ReplicaState.{ReplicaState, replica_code, fresh, HoldsAlways}

-- the replicas in the order of their numbers, the messages in the order in which they were sent, and
-- the bytes of the last checkpoint of each replica, none where it saved nothing
pub record WorldState : Type 0 where
  pub job : JobParts
  pub limit : ℕ
  pub replicas : List ReplicaState
  pub messages : List Message
  pub saves : List (List ℕ)

abbrev pub world : JobParts → ℕ → List ReplicaState → List Message → List (List ℕ) → WorldState
world job limit replicas messages saves = record { job = job; limit = limit; replicas = replicas; messages = messages; saves = saves }

-- a world is stored as the tuple of its parts
abbrev pub world_code : Coded WorldState
world_code =
    code_by (JobParts × (ℕ × (List ReplicaState × (List Message × List (List ℕ)))))
    (coded× job_row.the_row.coded
    (coded× coded_ℕ (coded× (coded_list replica_code) (coded× (coded_list message_row.the_row.coded) (coded_list (coded_list coded_ℕ))))))
    (λ w. (w.job, (w.limit, (w.replicas, (w.messages, w.saves))))) (λ p. world p.0 p.1.0 p.1.1.0 p.1.1.1.0 p.1.1.1.1) (λ _. refl)

-- x has that number in the list: numbers begin with 1
abbrev pub At : {X : Type 0} → List X → ℕ → X → Type 0
At xs k x = (1 ≤ k) × (slice_get xs (k - 1) ≡ Some x)

-- there is a replica with that number
abbrev pub Has : WorldState → ℕ → Type 0
Has w k = IsBetween 1 k (length w.replicas)

-- new replicas of the job, numbered from 1
abbrev pub fresh_replicas : JobParts → ℕ → ℕ → List ReplicaState
fresh_replicas job limit zero = []
fresh_replicas job limit (suc n) = fresh_replicas job limit n ++ (fresh job limit (suc n) ∷ [])

-- none of so many replicas saved anything
abbrev pub no_saves : ℕ → List (List ℕ)
no_saves zero = []
no_saves (suc n) = no_saves n ++ ([] ∷ [])

-- a world in which nothing has happened
abbrev pub fresh_world : JobParts → (limit n : ℕ) → WorldState
fresh_world job limit n = world job limit (fresh_replicas job limit n) [] (no_saves n)

-- the replica with that number alone changes
pub record ChangesAt (k : ℕ) (R : ReplicaState → ReplicaState → Type 0) (old new : List ReplicaState) : Type 0 where
  pub before : ReplicaState
  pub after : ReplicaState
  pub at : At old k before
  pub how : R before after
  pub holds : HoldsAlways after
  pub list : new ≡ slice_set old (k - 1) after

pub record Changes (k : ℕ) (R : ReplicaState → ReplicaState → Type 0) (old new : WorldState) : Type 0 where
  pub replicas : ChangesAt k R old.replicas new.replicas
  pub others : new ≡ world old.job old.limit new.replicas old.messages old.saves

-- one message more is sent
abbrev pub Sends : Message → WorldState → WorldState → Type 0
Sends m old new = new ≡ world old.job old.limit old.replicas (old.messages ++ (m ∷ [])) old.saves

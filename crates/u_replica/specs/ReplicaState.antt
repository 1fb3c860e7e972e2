-- What a replica is: a machine with a number, a life and marks.
use Rattle.std.specs.Prelude.{◌≡◌, ℕ, ◌^◌, ◌≤◌, ◌<◌, List, [], ◌∷◌, refl}
use Rattle.std.specs.Coded.{Coded, code_by, coded×, coded_ℕ, coded_list}
use Rattle.u_name.specs.Context.{IsBetween}
use Rattle.u_check.specs.Jobs.{JobParts}
use Rattle.u_rule.specs.Rule.{own_of}
use Rattle.u_machine.specs.State.{State, state, state_code, IsMachine}
use Rattle.u_machine.specs.Headline.{KeepsItsPromise}
use Rattle.u_delta.specs.declared.message.Mark.{Mark}
use Rattle.u_delta.specs.contracts.message.Mark as mark_row
use Rattle.u_delta.specs.declared.message.Ask.{Ask}
use Rattle.u_replica.specs.Marking.{AreMarks, fresh_marks, mark_of}

pub record ReplicaState : Type 0 where
  pub machine : State
  pub number : ℕ
  pub life : ℕ
  pub marks : List Mark

abbrev pub replica : State → ℕ → ℕ → List Mark → ReplicaState
replica machine number life marks = record { machine = machine; number = number; life = life; marks = marks }

-- a state is stored as the tuple of its parts
abbrev pub replica_code : Coded ReplicaState
replica_code =
    code_by (State × (ℕ × (ℕ × List Mark)))
    (coded× state_code (coded× coded_ℕ (coded× coded_ℕ (coded_list mark_row.the_row.coded))))
    (λ r. (r.machine, (r.number, (r.life, r.marks)))) (λ p. replica p.0 p.1.0 p.1.1.0 p.1.1.1) (λ _. refl)

-- What holds of each replica: its machine is one, its number is 1 to 8, its lives begin with 1, and its
-- marks count no more than they may.
pub record IsReplica (r : ReplicaState) : Type 0 where
  pub machine : IsMachine r.machine
  pub number : IsBetween 1 r.number 8
  pub born : 1 ≤ r.life
  pub life : r.life < 2 ^ 64
  pub marks : AreMarks r.marks

-- its machine keeps the promise of one machine, and it is a replica
pub record HoldsAlways (r : ReplicaState) : Type 0 where
  pub is : IsReplica r
  pub promise : KeepsItsPromise r.machine

-- a new replica: it holds the start alone, lives its first life, and knows nothing of any other
abbrev pub fresh : JobParts → ℕ → ℕ → ReplicaState
fresh job limit number = replica (state job limit [] [] ((own_of job).start ∷ [])) number 1 fresh_marks

-- the machine alone changes
abbrev pub ChangesMachine : ReplicaState → ReplicaState → Type 0
ChangesMachine old new = new ≡ replica new.machine old.number old.life old.marks

-- the number of another replica
abbrev pub IsPeer : ReplicaState → ℕ → Type 0
IsPeer r peer = IsBetween 1 peer 8 × (peer ≡ r.number → ⊥)

-- what the replica asks the peer for
abbrev pub ask_of : ReplicaState → ℕ → Ask
ask_of r peer = let m = mark_of r.marks peer in record { asker = r.number; asked = peer; life = m.life; count = m.count }

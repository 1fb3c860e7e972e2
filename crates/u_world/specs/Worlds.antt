-- What holds of each world, whatever happened in it.
use Rattle.std.specs.Prelude.{◌≡◌, ℕ, ◌≤◌, ◌⊎◌, List, [], ◌++◌, length, take, Contains}
use Rattle.u_name.specs.Context.{IsBetween}
use Rattle.u_rule.specs.declared.firing.Firing.{Firing}
use Rattle.u_delta.specs.declared.message.Ask.{Ask}
use Rattle.u_delta.specs.declared.message.Delta.{Delta}
use Rattle.u_delta.specs.declared.message.Mark.{Mark}
use Rattle.u_delta.specs.declared.message.Message.{Message}
use Rattle.u_delta.specs.declared.message.Message.TheVariants as messages
use Rattle.u_machine.specs.State.{State, Taken}
use Rattle.u_machine.specs.Taking.{AreFirings}
use Rattle.u_replica.specs.Marking.{mark_of}
use Rattle.u_replica.specs.Merging.{all_of}
use Rattle.u_replica.specs.CheckpointText.{checkpoint_text}
use Rattle.u_replica.specs.ReplicaState.{ReplicaState, IsReplica}
use Rattle.u_replica.specs.Restoring.{MaySave}
use Rattle.u_world.specs.WorldState.{WorldState, At, Has}

-- The mark is true of the peer: it is of no later life. Where it is of the peer's life, the peer's log is
-- as long as it counts, and the replica took that many first firings of the log.
pub record IsTrueMark (m : Mark) (own peer : ReplicaState) : Type 0 where
  pub life : m.life ≤ peer.life
  pub count : m.life ≡ peer.life → m.count ≤ length peer.machine.log
  pub has : m.life ≡ peer.life → (f : Firing) → Contains (take m.count peer.machine.log) f → Taken own.machine f

-- the mark that the one replica keeps of the other is true
abbrev pub IsHonest : ReplicaState → ReplicaState → Type 0
IsHonest own peer = IsTrueMark (mark_of own.marks peer.number) own peer

-- the list stands in the log from that place on
pub record StandsAt (place : ℕ) (fs log : List Firing) : Type 0 where
  pub before : List Firing
  pub rest : List Firing
  pub whole : log ≡ before ++ (fs ++ rest)
  pub long : length before ≡ place

-- the delta is of no later life than its sender lives, and where it is of that life it is what the
-- sender's log has from its start on
pub record IsTrueDelta (d : Delta) (sender : ReplicaState) : Type 0 where
  pub life : d.life ≤ sender.life
  pub part : d.life ≡ sender.life → StandsAt d.start d.firings sender.machine.log

-- a replica of the world, with that number
pub record IsMember (w : WorldState) (k : ℕ) (r : ReplicaState) : Type 0 where
  pub is : IsReplica r
  pub number : r.number ≡ k
  pub job : r.machine.job ≡ w.job
  pub limit : r.machine.limit ≡ w.limit

-- an ask of one replica of the world to another
pub record IsSentAsk (w : WorldState) (a : Ask) : Type 0 where
  pub asker : Has w a.asker
  pub asked : Has w a.asked
  pub apart : a.asker ≡ a.asked → ⊥

-- a delta of one replica of the world to another
pub record IsSentDelta (w : WorldState) (d : Delta) : Type 0 where
  pub sender : Has w d.sender
  pub receiver : Has w d.receiver
  pub apart : d.sender ≡ d.receiver → ⊥
  pub firings : AreFirings w.job d.firings
  pub part : (r : ReplicaState) → At w.replicas d.sender r → IsTrueDelta d r

abbrev pub IsSent : WorldState → Message → Type 0
IsSent w (messages.Ask a) = IsSentAsk w a
IsSent w (messages.Delta d) = IsSentDelta w d

-- nothing was saved, or the checkpoint of a machine of the world's job
pub record IsSaved (w : WorldState) (bytes : List ℕ) : Type 0 where
  pub saver : State
  pub may : MaySave w.job saver
  pub limit : saver.limit ≡ w.limit
  pub text : (bytes ≡ []) ⊎ (bytes ≡ checkpoint_text w.job.program.version (all_of saver))

-- 1 to 8 replicas of one job, whose marks are true of each other; the deltas among the messages are parts
-- of their senders' logs; and what was saved are checkpoints.
pub record IsWorld (w : WorldState) : Type 0 where
  pub count : IsBetween 1 (length w.replicas) 8
  pub save_count : length w.saves ≡ length w.replicas
  pub members : (k : ℕ) (r : ReplicaState) → At w.replicas k r → IsMember w k r
  pub honest : (k j : ℕ) (r p : ReplicaState) → (k ≡ j → ⊥) → At w.replicas k r → At w.replicas j p → IsHonest r p
  pub sent : (m : Message) → Contains w.messages m → IsSent w m
  pub saved : (k : ℕ) (bytes : List ℕ) → At w.saves k bytes → IsSaved w bytes

-- What a replica does on a list of calls.
use Rattle.std.specs.Prelude.{◌≡◌, ℕ, List, [], ◌∷◌, Result, Err, Contains}
use Rattle.u_name.specs.Context.{IsBetween}
use Rattle.u_machine.specs.declared.answer.ListRefusal.{ListRefusal}
use Rattle.u_machine.specs.declared.answer.ListRefusal.TheVariants as unlisted
use Rattle.u_machine.specs.Obeying as machines
use Rattle.u_machine.specs.declared.commands.Reply.{Reply}
use Rattle.u_replica.specs.declared.answer.MergeRefusal.{MergeRefusal}
use Rattle.u_replica.specs.declared.answer.MergeRefusal.TheVariants as unmerged
use Rattle.u_replica.specs.declared.calls.Call.{Call}
use Rattle.u_replica.specs.declared.calls.Call.TheVariants as calls
use Rattle.u_replica.specs.declared.calls.Answer.{Answer}
use Rattle.u_replica.specs.declared.calls.Answer.TheVariants as answers
use Rattle.u_replica.specs.Marking.{mark_of, IsNoLess}
use Rattle.u_replica.specs.ReplicaState.{ReplicaState, IsReplica, ChangesMachine}
use Rattle.u_replica.specs.Receiving.{ReceiveAnswer}
use Rattle.u_replica.specs.Merging.{MergeAnswer}

-- the call has that answer, and leaves that state
abbrev pub Does : ReplicaState → Call → Answer → ReplicaState → Type 0
Does old (calls.Machine c) answer new = (r : Reply) × (answer ≡ answers.Machine r) × machines.Does old.machine c r new.machine × ChangesMachine old new
Does old (calls.Receive d) answer new = (r : Result (Unit {0}) ListRefusal) × (answer ≡ answers.Receive r) × ReceiveAnswer old d r new
Does old (calls.Merge other) answer new =
    (r : Result (Unit {0}) MergeRefusal) × (answer ≡ answers.Merge r)
    × MergeAnswer old.machine other.now.machine r new.machine × ChangesMachine old new

-- the calls have these answers, one after another, and each leaves a replica
abbrev pub Obeys : ReplicaState → List Call → List Answer → ReplicaState → Type 0
Obeys old [] answers new = (answers ≡ []) × (new ≡ old)
Obeys old (c ∷ cs) answers new =
    (a : Answer) × (more : List Answer) × (mid : ReplicaState) × (answers ≡ a ∷ more) × Does old c a mid × IsReplica mid
    × Obeys mid cs more new

-- the call was not refused for want of memory
abbrev pub IsMet : Answer → Type 0
IsMet (answers.Machine r) = machines.IsMet r
IsMet (answers.Receive (Err unlisted.NoMemory)) = ⊥
IsMet (answers.Merge (Err unmerged.NoMemory)) = ⊥
IsMet a = Unit {0}

abbrev pub AreMet : List Answer → Type 0
AreMet given = (a : Answer) → Contains given a → IsMet a

-- nothing is lost: more may be taken, applied and held, and no mark counts less
pub record Extends (old new : ReplicaState) : Type 0 where
  pub machine : machines.Extends old.machine new.machine
  pub number : new.number ≡ old.number
  pub life : new.life ≡ old.life
  pub marks : (peer : ℕ) → IsBetween 1 peer 8 → IsNoLess (mark_of old.marks peer) (mark_of new.marks peer)

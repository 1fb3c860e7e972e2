-- What a machine does on a list of calls.
use Rattle.std.specs.Prelude.{◌≡◌, List, [], ◌∷◌, Result, Ok, Err, Contains}
use Rattle.std.specs.declared.alloc.AllocError.{AllocError}
use Rattle.u_rule.specs.declared.firing.Firing.{Firing}
use Rattle.u_machine.specs.declared.commands.Command.{Command}
use Rattle.u_machine.specs.declared.commands.Command.TheVariants as calls
use Rattle.u_machine.specs.declared.commands.Reply.{Reply}
use Rattle.u_machine.specs.declared.commands.Reply.TheVariants as replies
use Rattle.u_machine.specs.declared.answer.Step.{Step}
use Rattle.u_machine.specs.declared.answer.StepIn.{StepIn}
use Rattle.u_machine.specs.declared.answer.Ran.{Ran}
use Rattle.u_machine.specs.declared.answer.Took.{Took}
use Rattle.u_machine.specs.declared.answer.Refusal.{Refusal}
use Rattle.u_machine.specs.declared.answer.TakeRefusal.{TakeRefusal}
use Rattle.u_machine.specs.declared.answer.ListRefusal.{ListRefusal}
use Rattle.u_machine.specs.declared.answer.Refusal.TheVariants as refusals
use Rattle.u_machine.specs.declared.answer.TakeRefusal.TheVariants as untaken
use Rattle.u_machine.specs.declared.answer.ListRefusal.TheVariants as unlisted
use Rattle.u_machine.specs.State.{State, Taken, IsMachine, IsSettled}
use Rattle.u_machine.specs.Calls.{Grows, Applies, FireAnswer, FireInAnswer, TakeAnswer, RunAnswer}
use Rattle.u_machine.specs.Taking.{TakeAllAnswer}

-- what was begun is applied, or some of it where there is no memory
abbrev pub SettleAnswer : State → Result (Unit {0}) AllocError → State → Type 0
SettleAnswer old (Ok u) new = Applies old new × IsSettled new
SettleAnswer old (Err e) new = Applies old new

-- the call has that answer, and leaves that state
abbrev pub Does : State → Command → Reply → State → Type 0
Does old (calls.Fire pick) reply new = (r : Result Step Refusal) × (reply ≡ replies.Fire r) × FireAnswer old pick r new
Does old (calls.FireIn buckets pick) reply new =
    (r : Result StepIn Refusal) × (reply ≡ replies.FireIn r) × FireInAnswer old buckets pick r new
Does old (calls.Take f) reply new = (r : Result Took TakeRefusal) × (reply ≡ replies.Take r) × TakeAnswer old f r new
Does old (calls.TakeAll fs) reply new = (r : Result (Unit {0}) ListRefusal) × (reply ≡ replies.TakeAll r) × TakeAllAnswer old fs.items r new
Does old calls.Settle reply new = (r : Result (Unit {0}) AllocError) × (reply ≡ replies.Settle r) × SettleAnswer old r new
Does old (calls.Run budget) reply new = (r : Result Ran Refusal) × (reply ≡ replies.Run r) × RunAnswer old budget r new

-- the calls have these answers, one after another, and each leaves a machine
abbrev pub Obeys : State → List Command → List Reply → State → Type 0
Obeys old [] rs new = (rs ≡ []) × (new ≡ old)
Obeys old (c ∷ cs) rs new = (r : Reply) × (more : List Reply) × (mid : State) × (rs ≡ r ∷ more) × Does old c r mid × IsMachine mid × Obeys mid cs more new

-- the call was not refused for want of memory
abbrev pub IsMet : Reply → Type 0
IsMet (replies.Fire (Err refusals.NoMemory)) = ⊥
IsMet (replies.FireIn (Err refusals.NoMemory)) = ⊥
IsMet (replies.Take (Err untaken.NoMemory)) = ⊥
IsMet (replies.TakeAll (Err unlisted.NoMemory)) = ⊥
IsMet (replies.Settle (Err e)) = ⊥
IsMet (replies.Run (Err refusals.NoMemory)) = ⊥
IsMet r = Unit {0}

abbrev pub AreMet : List Reply → Type 0
AreMet rs = (r : Reply) → Contains rs r → IsMet r

-- nothing is lost: more firings may be taken and applied, and more entries may have entered
pub record Extends (old new : State) : Type 0 where
  pub grows : Grows old new
  pub taken : (f : Firing) → Taken old f → Taken new f

-- What each step of a member answers: the words of its private functions, which no caller of `share` reads.
use Rattle.std.specs.Prelude.{◌≡◌, ℕ, ◌+◌, ◌≤◌, ◌++◌, List, [], ◌∷◌, Bool, true, false, IsTrue, Option, Some, None, Result, Ok, Err, length, take}
use Rattle.std.specs.Io.KnownBytes.{Appends, Consumes, IsAtEnd, Keeps}
use Rattle.u_base.specs.Pieces.{pieces}
use Rattle.u_rule.specs.Rule.{own_of}
use Rattle.u_rule.specs.FiringText.{firing_text}
use Rattle.u_rule.specs.declared.firing.Firing.{Firing}
use Rattle.u_machine.specs.State.{State, IsPick}
use Rattle.u_machine.specs.Calls.{Applies, Takes, Fires}
use Rattle.u_machine.specs.declared.answer.Ran.{Ran}
use Rattle.u_machine.specs.declared.answer.Ran.TheVariants as ran
use Rattle.u_share.specs.Lines.{longest, text_of, IsLineOf, IsSeenAs, IsTold}
use Rattle.u_share.specs.Headline.{Streams, streams, Passes, Member, Gains, Goes, IsQuietAndWhole, IsLast, HasNoRoomFor, IsFull, IsNoRoomForLine, IsNextNoRoom, WritesFront, WritesAt, StopsSo}
use Rattle.u_share.specs.declared.line_fault.LineFault.{LineFault}
use Rattle.u_share.specs.declared.line_fault.LineFault.TheVariants.{NotOfThisJob}
use Rattle.u_share.specs.declared.fault.ShareFault.{ShareFault}
use Rattle.u_share.specs.declared.fault.ShareFault.TheVariants as faults
use Rattle.u_share.specs.declared.ended.Ended.{Ended}
use Rattle.u_share.specs.declared.ended.Ended.TheVariants as ended

-- no newline stands in the bytes, which are what is kept of a line
abbrev pub IsBegun : List ℕ → Type 0
IsBegun begun = (pieces 10 begun ≡ ([], begun)) × (length begun ≤ longest + 1)

-- the text was written, or a front of it, or there was no memory and nothing was
abbrev pub Tells : Option (List ℕ) → List ℕ → Result (Unit {0}) ShareFault → Option (List ℕ) → Type 0
Tells old text (Ok u) new = Appends old new text
Tells old text (Err faults.NotWritten) new = WritesFront old new text
Tells old text (Err faults.NoMemory) new = Keeps old new
Tells old text (Err fault) new = ⊥

-- one line

-- no firing is taken
abbrev pub Stays : State → State → Type 0
Stays old new = Gains old (λ f. ⊥) new

-- the firing is taken, or was taken before; or it is none of the job; or there is no room for it
abbrev pub FiringAnswer : State → Firing → Result (Option LineFault) ShareFault → State → Type 0
FiringAnswer old f (Ok None) new = IsTrue ((own_of old.job).is_firing f) × Gains old (λ g. f ≡ g) new
FiringAnswer old f (Ok (Some NotOfThisJob)) new = ((own_of old.job).is_firing f ≡ false) × Stays old new
FiringAnswer old f (Err faults.Full) new = IsTrue ((own_of old.job).is_firing f) × Stays old new × HasNoRoomFor new f
FiringAnswer old f (Err faults.NoMemory) new = Unit {0}
FiringAnswer old f result new = ⊥

-- the firing of the line is taken, if there is one, and it is said whether the line is skipped
abbrev pub LineAnswer : State → List ℕ → Result (Option LineFault) ShareFault → State → Type 0
LineAnswer old line (Ok seen) new = IsSeenAs old.job line seen × Gains old (IsLineOf old.job line) new
LineAnswer old line (Err faults.Full) new = Stays old new × IsNoRoomForLine new line
LineAnswer old line (Err faults.NoMemory) new = Unit {0}
LineAnswer old line (Err fault) new = ⊥

-- the same, and what is to be told of the line is written
abbrev pub TakeLineAnswer : State → List ℕ → ℕ → Option (List ℕ) → Result (Unit {0}) ShareFault → State → Option (List ℕ) → Type 0
TakeLineAnswer old line n before (Ok u) new after =
    (text : List ℕ) × IsTold old.job n line text × Gains old (IsLineOf old.job line) new × Appends before after text
TakeLineAnswer old line n before (Err faults.Full) new after = Stays old new × IsNoRoomForLine new line × Keeps before after
TakeLineAnswer old line n before (Err faults.NotWritten) new after =
    (text : List ℕ) × IsTold old.job n line text × Gains old (IsLineOf old.job line) new × WritesFront before after text
TakeLineAnswer old line n before (Err faults.NoMemory) new after = Keeps before after
TakeLineAnswer old line n before (Err fault) new after = ⊥

-- the bytes of one read

-- why it stops at one of their lines
abbrev pub IsStopAtLine : Member → List ℕ → ShareFault → Type 0
IsStopAtLine m rest faults.Full = IsNextNoRoom m rest
IsStopAtLine m rest faults.NotReadable = ⊥
IsStopAtLine m rest fault = Unit {0}

-- the member goes on up to the rest of the bytes, and stops there
pub record StopsAtLine (old : Member) (bytes told : List ℕ) (fault : ShareFault) : Type 0 where
  pub front : List ℕ
  pub rest : List ℕ
  pub mid : Member
  pub cut : bytes ≡ front ++ rest
  pub goes : Goes old front [] told mid
  pub stop : IsStopAtLine mid rest fault

-- the lines that end within the bytes are taken, or one of them stops the member
abbrev pub HearAnswer : {A : Type 0} → Member → List ℕ → Option (List ℕ) → Result A ShareFault → Member → Option (List ℕ) → Type 0
HearAnswer old bytes before (Ok x) new after = (told : List ℕ) × Goes old bytes [] told new × Appends before after told
HearAnswer old bytes before (Err fault) new after = (told : List ℕ) × StopsAtLine old bytes told fault × WritesAt fault before after told

-- firings

-- the firing's line
abbrev pub line_of : Firing → List ℕ
line_of f = firing_text f ++ (10 ∷ [])

-- the least ready firing is fired, and this is its line; or nothing is ready; or it has no room
abbrev pub FireNextAnswer : State → Result Bool ShareFault → State → List ℕ → Type 0
FireNextAnswer old (Ok true) new line = (f : Firing) × IsPick old 0 f × Takes old f new × (line ≡ line_of f)
FireNextAnswer old (Ok false) new line = Applies old new × IsQuietAndWhole new
FireNextAnswer old (Err faults.Full) new line = Applies old new × IsFull new
FireNextAnswer old (Err faults.NoMemory) new line = Unit {0}
FireNextAnswer old (Err fault) new line = ⊥

-- the text was written, but for what the piece has
pub record Prints (old new : Option (List ℕ)) (text piece : List ℕ) : Type 0 where
  pub out : List ℕ
  pub written : Appends old new out
  pub is : text ≡ out ++ piece

-- a line goes behind a piece, of which a part may be written
abbrev pub PutAnswer : Option (List ℕ) → List ℕ → Result (Unit {0}) ShareFault → Option (List ℕ) → List ℕ → Type 0
PutAnswer before text (Ok u) after piece = Prints before after text piece
PutAnswer before text (Err faults.NotWritten) after piece = WritesFront before after text
PutAnswer before text (Err faults.NoMemory) after piece = WritesFront before after text
PutAnswer before text (Err fault) after piece = ⊥

-- gs were fired one after another, each the least that was ready, and a front of their lines was written
abbrev pub FiresUnwritten : State → Option (List ℕ) → Option (List ℕ) → Type 0
FiresUnwritten old before after = (gs : List Firing) × (new : State) × Fires old gs new × WritesFront before after (text_of gs)

-- how often it fired, and where it ended
abbrev pub EndsBurst : ℕ → ℕ → Ran → State → Type 0
EndsBurst count times ran.Quiet new = IsQuietAndWhole new
EndsBurst count times ran.Paused new = count ≡ times

-- gs were fired, each the least that was ready, and their lines were written, but for what the piece has
abbrev pub BurstWith : List ℕ → State → ℕ → Option (List ℕ) → Result Ran ShareFault → State → Option (List ℕ) → Type 0
BurstWith piece old times before (Ok end) new after =
    (gs : List Firing) × Fires old gs new × Prints before after (text_of gs) piece × EndsBurst (length gs) times end new
BurstWith piece old times before (Err faults.Full) new after =
    (gs : List Firing) × Fires old gs new × Prints before after (text_of gs) piece × IsFull new
BurstWith piece old times before (Err faults.NotWritten) new after = FiresUnwritten old before after
BurstWith piece old times before (Err faults.NoMemory) new after = FiresUnwritten old before after
BurstWith piece old times before (Err fault) new after = ⊥

-- and all of the lines were
abbrev pub BurstAnswer : State → ℕ → Option (List ℕ) → Result Ran ShareFault → State → Option (List ℕ) → Type 0
BurstAnswer = BurstWith []

-- some firings were fired and printed, or none
abbrev pub LeadAnswer : State → Option (List ℕ) → Result (Unit {0}) ShareFault → State → Option (List ℕ) → Type 0
LeadAnswer old before (Ok u) new after = (gs : List Firing) × Fires old gs new × Appends before after (text_of gs)
LeadAnswer old before (Err fault) new after = (times : ℕ) × BurstAnswer old times before (Err fault) new after

-- turns

-- nothing is taken, whether something is ready or not
abbrev pub QuietAnswer : State → Result Bool ShareFault → State → Type 0
QuietAnswer old (Ok b) new = Stays old new
QuietAnswer old (Err faults.NoMemory) new = Unit {0}
QuietAnswer old (Err fault) new = ⊥

-- so many bytes of the chunk were read, none only at the end; or a read failed
abbrev pub ReadAnswer : Option (List ℕ) → Result ℕ ShareFault → List ℕ → Option (List ℕ) → Type 0
ReadAnswer old (Ok n) chunk new = (n ≤ length chunk) × Consumes old new (take n chunk) × (n ≡ 0 → IsAtEnd new)
ReadAnswer old (Err faults.NotReadable) chunk new = Keeps old new
ReadAnswer old (Err fault) chunk new = ⊥

-- the member went on so
pub record GoesOn (old new : Member) (before after : Streams) : Type 0 where
  pub bytes : List ℕ
  pub fired : List Firing
  pub told : List ℕ
  pub goes : Goes old bytes fired told new
  pub passes : Passes Appends before after bytes fired told

-- the member went on so, and reads no more
pub record EndsSo (old new : Member) (before after : Streams) (end : Ended) : Type 0 where
  pub bytes : List ℕ
  pub fired : List Firing
  pub told : List ℕ
  pub last : List ℕ
  pub goes : Goes old bytes fired told new
  pub passes : Passes Appends before after bytes fired (told ++ last)
  pub ends : IsLast new after.reader end last

-- whatever the writer holds, it stays: lines were read and taken; or the input ended; or the member stopped
abbrev pub HeardAnswer : Member → Option (List ℕ) → Option (List ℕ) → Result Bool ShareFault → Member → Option (List ℕ) → Option (List ℕ) → Type 0
HeardAnswer old from before (Ok false) new left after = (w : Option (List ℕ)) → GoesOn old new (streams from w before) (streams left w after)
HeardAnswer old from before (Ok true) new left after = (w : Option (List ℕ)) → EndsSo old new (streams from w before) (streams left w after) ended.Input
HeardAnswer old from before (Err fault) new left after = (w : Option (List ℕ)) → StopsSo old (streams from w before) (streams left w after) fault

-- a turn
abbrev pub TurnAnswer : Member → Streams → Result (Option Ended) ShareFault → Member → Streams → Type 0
TurnAnswer old before (Ok None) new after = GoesOn old new before after
TurnAnswer old before (Ok (Some end)) new after = EndsSo old new before after end
TurnAnswer old before (Err fault) new after = StopsSo old before after fault

-- all turns
abbrev pub ListenAnswer : Member → Streams → Result Ended ShareFault → Member → Streams → Type 0
ListenAnswer old before (Ok end) new after = EndsSo old new before after end
ListenAnswer old before (Err fault) new after = StopsSo old before after fault

-- all turns, and then all that was ready was fired
abbrev pub PartAnswer : Member → Streams → Result Ended ShareFault → Member → Streams → Type 0
PartAnswer old before (Ok end) new after = EndsSo old new before after end × IsQuietAndWhole new.machine
PartAnswer old before (Err fault) new after = StopsSo old before after fault

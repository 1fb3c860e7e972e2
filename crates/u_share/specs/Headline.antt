-- What a member promises, whatever it reads.
--
-- Let the lines be those of all bytes that it read, cut at each newline, wherever the reads cut them. What is
-- said of lines stands in Lines.antt.
use Rattle.std.specs.Prelude.{◌≡◌, ℕ, ◌+◌, ◌≤◌, List, [], ◌++◌, ◌∷◌, ◌⊎◌, ◌↔◌, Option, Result, Ok, Err, Contains, length, take}
use Rattle.std.specs.Io.KnownBytes.{Appends, Consumes, IsAtEnd}
use Rattle.u_base.specs.Pieces.{lines, pieces}
use Rattle.u_base.specs.Firing.{Enabled, Whole, Distinct, EachPlace, IsNextFrom}
use Rattle.u_check.specs.Jobs.{JobParts}
use Rattle.u_rule.specs.Rule.{own_of}
use Rattle.u_rule.specs.FiringReading.{IsFiringOf}
use Rattle.u_rule.specs.declared.firing.Firing.{Firing}
use Rattle.u_machine.specs.State.{State, state, Taken, IsQuiet, IsReady, count_of}
use Rattle.u_machine.specs.Headline.{IsWhole}
use Rattle.u_machine.specs.Calls.{firing_le}
use Rattle.u_share.specs.Lines.{first_of, text_of, IsLineOf, IsAmong, AreTold, open_notice}
use Rattle.u_share.specs.declared.fault.ShareFault.{ShareFault}
use Rattle.u_share.specs.declared.fault.ShareFault.TheVariants as faults
use Rattle.u_share.specs.declared.ended.Ended.{Ended}
use Rattle.u_share.specs.declared.ended.Ended.TheVariants as ended

-- what the reader has left, and what the writer and that of notices hold, where it is known
pub record Streams : Type 0 where
  pub reader : Option (List ℕ)
  pub writer : Option (List ℕ)
  pub notices : Option (List ℕ)

abbrev pub streams : Option (List ℕ) → Option (List ℕ) → Option (List ℕ) → Streams
streams reader writer notices = record { reader = reader; writer = writer; notices = notices }

-- the bytes were read, and the lines of the firings and the notices were written, as Writes says
pub record Passes (Writes : Option (List ℕ) → Option (List ℕ) → List ℕ → Type 0) (old new : Streams) (bytes : List ℕ) (fired : List Firing) (told : List ℕ) : Type 0 where
  pub reader : Consumes old.reader new.reader bytes
  pub writer : Writes old.writer new.writer (text_of fired)
  pub notices : Writes old.notices new.notices told

-- its machine; what is kept of the line that is open; and how many lines ended
pub record Member : Type 0 where
  pub machine : State
  pub begun : List ℕ
  pub ended : ℕ

abbrev pub member : State → List ℕ → ℕ → Member
member machine begun ended = record { machine = machine; begun = begun; ended = ended }

-- the machine takes those of M besides, and no other firing
pub record Gains (old : State) (M : Firing → Type 0) (new : State) : Type 0 where
  pub job : new.job ≡ old.job
  pub limit : new.limit ≡ old.limit
  pub taken : (f : Firing) → Taken new f ↔ (Taken old f ⊎ M f)

-- the firing was taken, or is one of the job among the lines
abbrev pub IsKnownFrom : State → List (List ℕ) → Firing → Type 0
IsKnownFrom old lines f = Taken old f ⊎ IsAmong old.job lines f

-- f is fired behind the n of `done`: once `read n` of the lines were read, it is the least that is ready
abbrev pub WasNext : State → List (List ℕ) → (ℕ → ℕ) → List Firing → Firing → Type 0
WasNext old lines read done f =
    IsNextFrom (own_of old.job) firing_le (IsKnownFrom old (take (read (length done)) lines)) done f

-- Each of the firings was the least that was ready, and was not known, as it was fired; and no fewer lines were
-- read by then than when those before it were.
abbrev pub AreFired : State → List (List ℕ) → List Firing → Type 0
AreFired old lines fired =
    (read : ℕ → ℕ) × ((n : ℕ) → read n ≤ read (n + 1)) × ((n : ℕ) → read n ≤ length lines) × EachPlace (WasNext old lines read) fired

-- The member read these bytes, fired these firings, and told this: it took the firings of the lines that
-- ended, and its own; and what is open, and how many lines ended, is by all bytes together.
pub record Goes (old : Member) (bytes : List ℕ) (fired : List Firing) (told : List ℕ) (new : Member) : Type 0 where
  pub gains : Gains old.machine (λ f. IsAmong old.machine.job (lines (old.begun ++ bytes)) f ⊎ Contains fired f) new.machine
  pub fires : AreFired old.machine (lines (old.begun ++ bytes)) fired
  pub tells : AreTold old.machine.job (old.ended + 1) (lines (old.begun ++ bytes)) told
  pub begun : new.begun ≡ first_of (pieces 10 (old.begun ++ bytes)).1
  pub ended : new.ended ≡ old.ended + length (lines (old.begun ++ bytes))

-- a machine of the job that has taken nothing
abbrev pub blank : JobParts → ℕ → State
blank job limit = state job limit [] [] ((own_of job).start ∷ [])

-- a member that has read nothing
abbrev pub newcomer : JobParts → ℕ → Member
newcomer job limit = member (blank job limit) [] 0

-- the firings that some run of the job makes
abbrev pub IsTrueFiring : JobParts → Firing → Type 0
IsTrueFiring job f = Enabled (own_of job) (Whole (own_of job)) f

-- each line is empty, or the text of a firing that some run of the job makes
abbrev pub AreTrueLines : JobParts → List (List ℕ) → Type 0
AreTrueLines job ls = (line : List ℕ) → Contains ls line → (line ≡ []) ⊎ ((f : Firing) × IsFiringOf line f × IsTrueFiring job f)

-- nothing is ready, and the history is whole
abbrev pub IsQuietAndWhole : State → Type 0
IsQuietAndWhole m = IsQuiet m × IsWhole m

-- The machine took the firings of the job among the lines, and those that the member fired; it fired none
-- twice and each is true. Nothing is ready, and its history is the whole one of the job: it applied
-- exactly the true firings, and parks exactly those of the lines that are false.
pub record HasWhole (job : JobParts) (limit : ℕ) (bytes : List ℕ) (fired : List Firing) (m : State) : Type 0 where
  pub of : m.job ≡ job
  pub taken : (f : Firing) → Taken m f ↔ (IsAmong job (lines bytes) f ⊎ Contains fired f)
  pub fires : AreFired (blank job limit) (lines bytes) fired
  pub once : Distinct fired
  pub trues : (f : Firing) → Contains fired f → IsTrueFiring job f
  pub quiet : IsQuietAndWhole m
  pub applied : (f : Firing) → Contains m.log f ↔ IsTrueFiring job f
  pub parked : (f : Firing) → Contains m.parked f ↔ (IsAmong job (lines bytes) f × (IsTrueFiring job f → ⊥))
  pub clean : AreTrueLines job (lines bytes) → m.parked ≡ []

-- what is told last: of a line without a newline, where the input ended
abbrev pub IsLast : Member → Option (List ℕ) → Ended → List ℕ → Type 0
IsLast m left ended.Quiet last = last ≡ []
IsLast m left ended.Input last = IsAtEnd left × (last ≡ open_notice m.begun m.ended)

-- a member that ended with a machine: what it read, fired and told
pub record Shares (job : JobParts) (limit : ℕ) (before after : Streams) (m : State) (end : Ended) : Type 0 where
  pub bytes : List ℕ
  pub fired : List Firing
  pub told : List ℕ
  pub last : List ℕ
  pub has : HasWhole job limit bytes fired m
  pub tells : AreTold job 1 (lines bytes) told
  pub passes : Passes Appends before after bytes fired (told ++ last)
  pub ends : IsLast (member m (pieces 10 bytes).1 (length (lines bytes))) after.reader end last

-- the machine has as many firings as it may, and f is not one of them
pub record HasNoRoomFor (m : State) (f : Firing) : Type 0 where
  pub full : count_of m ≡ m.limit
  pub new : Taken m f → ⊥

-- something is ready for which there is no room
abbrev pub IsFull : State → Type 0
IsFull m = (f : Firing) × IsReady m f × HasNoRoomFor m f

-- the line is the text of a firing of the job for which the machine has no room
abbrev pub IsNoRoomForLine : State → List ℕ → Type 0
IsNoRoomForLine m line = (f : Firing) × IsLineOf m.job line f × HasNoRoomFor m f

-- the next line of the bytes is such a line
abbrev pub IsNextNoRoom : Member → List ℕ → Type 0
IsNextNoRoom m bytes = (line : List ℕ) × (others : List (List ℕ)) × (lines (m.begun ++ bytes) ≡ line ∷ others) × IsNoRoomForLine m.machine line

-- Why a member stops before the rest of what it read. It is full only where the next line has no room, or where there
-- is no rest and what is ready has none; and a read fails only where there is no rest.
abbrev pub IsStop : Member → List ℕ → ShareFault → Type 0
IsStop m rest faults.Full = ((rest ≡ []) × IsFull m.machine) ⊎ IsNextNoRoom m rest
IsStop m rest faults.NotReadable = rest ≡ []
IsStop m rest fault = Unit {0}

-- what is told last at a fault: nothing where a read failed; else maybe of the open line, if the input had ended
abbrev pub IsLastAt : Member → List ℕ → Option (List ℕ) → ShareFault → List ℕ → Type 0
IsLastAt m rest left faults.NotReadable last = last ≡ []
IsLastAt m rest left fault last = (last ≡ []) ⊎ ((rest ≡ []) × IsLast m left ended.Input last)

-- a front of the text was written
pub record WritesFront (old new : Option (List ℕ)) (text : List ℕ) : Type 0 where
  pub front : List ℕ
  pub rest : List ℕ
  pub is : text ≡ front ++ rest
  pub written : Appends old new front

-- what is written at a fault: all of the text, or a front of it where a write failed or memory ran out
abbrev pub WritesAt : ShareFault → Option (List ℕ) → Option (List ℕ) → List ℕ → Type 0
WritesAt faults.Full old new text = Appends old new text
WritesAt faults.NotReadable old new text = Appends old new text
WritesAt fault old new text = WritesFront old new text

-- a member that stopped: it went on up to the rest of what it read
pub record StopsSo (old : Member) (before after : Streams) (fault : ShareFault) : Type 0 where
  pub bytes : List ℕ
  pub rest : List ℕ
  pub fired : List Firing
  pub told : List ℕ
  pub last : List ℕ
  pub mid : Member
  pub goes : Goes old bytes fired told mid
  pub stop : IsStop mid rest fault
  pub ends : IsLastAt mid rest after.reader fault last
  pub passes : Passes (WritesAt fault) before after (bytes ++ rest) fired (told ++ last)

-- the machine, or why there is none
abbrev pub ShareAnswer : JobParts → ℕ → Streams → Result (State × Ended) ShareFault → Streams → Type 0
ShareAnswer job limit before (Ok p) after = Shares job limit before after p.0 p.1
ShareAnswer job limit before (Err fault) after = StopsSo (newcomer job limit) before after fault

-- Two members of one job that ended quiet, whatever they read: they hold the same history, and applied as many firings.
abbrev pub Agree : State → State → Type 0
Agree a b = IsQuietAndWhole a → IsQuietAndWhole b → b.job ≡ a.job → (b.history ≡ a.history) × (length b.log ≡ length a.log)

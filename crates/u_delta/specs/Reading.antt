-- What the steps of reading a message answer.
use Rattle.std.specs.Prelude.{◌≡◌, ℕ, suc, ◌≤◌, List, [], ◌∷◌, ◌++◌, length, map, Result, MatchResult}
use Rattle.std.specs.List.{AllByRecursion}
use Rattle.u_base.specs.Pieces.{PiecesAndRest}
use Rattle.u_rule.specs.declared.firing.Firing.{Firing}
use Rattle.u_rule.specs.FiringText.{firing_text}
use Rattle.u_rule.specs.FiringReading.{IsFiring}
use Rattle.u_delta.specs.declared.read_error.ReadError.{ReadError}
use Rattle.u_delta.specs.declared.read_error.ReadError.TheVariants.{BadLine, TooLong, Truncated, NoMemory}
use Rattle.u_delta.specs.declared.message.Delta.{Delta}
use Rattle.u_delta.specs.declared.message.Message.{Message}
use Rattle.u_delta.specs.declared.head.Opening.{Opening}
use Rattle.u_delta.specs.declared.head.Head.TheVariants as heads
use Rattle.u_delta.specs.Lines.{IsShort, lines_behind, Begins, AreAllowed}
use Rattle.u_delta.specs.MessageText.{message_lines}
use Rattle.u_delta.specs.HeadReading.{opening_line, IsHead}
use Rattle.u_delta.specs.Messages.{IsMessage, IsMessageLines, IsErrorIn}

-- no line stands at the front: an error behind any lines that begin a message and are none
abbrev pub IsNoLine : List ℕ → ℕ → ReadError → Type 0
IsNoLine bytes number error =
    (ls : List (List ℕ)) → AreAllowed IsMessageLines ls → (IsMessageLines ls → ⊥) → number ≡ suc (length ls)
    → IsErrorIn (lines_behind ls bytes) error

-- something stands there: an error behind a message's lines, with which no message goes on
abbrev pub IsNoEnd : List ℕ → ℕ → ReadError → Type 0
IsNoEnd bytes number error =
    (ls : List (List ℕ)) → AreAllowed IsMessageLines ls → IsMessageLines ls
    → ((l : List ℕ) → Begins IsMessageLines (ls ++ (l ∷ [])) → ⊥) → number ≡ suc (length ls) → IsErrorIn (lines_behind ls bytes) error

-- the line is no firing's, or a growth was refused
abbrev pub IsNoFiring : List ℕ → ℕ → ReadError → Type 0
IsNoFiring line number (BadLine n) = (n ≡ number) × ((f : Firing) → IsFiring f → line ≡ firing_text f → ⊥)
IsNoFiring line number (TooLong n) = ⊥
IsNoFiring line number Truncated = ⊥
IsNoFiring line number NoMemory = Unit {0}

-- the first line and the lines of some firings
abbrev pub begun_lines : Opening → List Firing → List (List ℕ)
begun_lines o fs = opening_line o ∷ map firing_text fs

abbrev pub delta_of : Opening → List Firing → Delta
delta_of o fs = record { sender = o.sender; receiver = o.receiver; life = o.life; start = o.start; firings = fs }

-- a delta of which the first line and these firings were read
pub record IsBegun (o : Opening) (fs : List Firing) : Type 0 where
  pub head : IsHead (heads.Delta o)
  pub firings : AllByRecursion IsFiring fs
  pub short : AllByRecursion IsShort (begun_lines o fs)
  pub few : length fs ≤ o.count

-- the lines of the text are those of this message, and nothing stands behind them
abbrev pub IsReadAs : PiecesAndRest → Message → Type 0
IsReadAs text m = IsMessage m × (text ≡ (message_lines m, []))

-- what is answered for a text that was cut into its lines
abbrev pub IsAnswer : PiecesAndRest → Result Message ReadError → Type 0
IsAnswer text result = MatchResult result (λ m. IsReadAs text m) (λ error. IsErrorIn text error)

-- Which messages there are, and what is answered for the bytes of one.
use Rattle.std.specs.Prelude.{◌≡◌, ℕ, ◌^◌, ◌≤◌, ◌<◌, List, length}
use Rattle.std.specs.List.{AllByRecursion}
use Rattle.u_name.specs.Context.{IsBetween}
use Rattle.u_base.specs.Pieces.{PiecesAndRest, pieces}
use Rattle.u_rule.specs.FiringReading.{IsFiring}
use Rattle.u_delta.specs.declared.message.Ask.{Ask}
use Rattle.u_delta.specs.declared.message.Delta.{Delta}
use Rattle.u_delta.specs.declared.message.Message.{Message}
use Rattle.u_delta.specs.declared.message.Message.TheVariants as messages
use Rattle.u_delta.specs.declared.read_error.ReadError.{ReadError}
use Rattle.u_delta.specs.declared.read_error.ReadError.TheVariants.{BadLine, TooLong, Truncated, NoMemory}
use Rattle.u_delta.specs.Lines.{IsBadLine, IsTooLong, IsTruncated}
use Rattle.u_delta.specs.MessageText.{message_lines, message_text}

-- two replicas, 1 to 8, that differ
abbrev pub ArePeers : ℕ → ℕ → Type 0
ArePeers r s = IsBetween 1 r 8 × IsBetween 1 s 8 × (r ≡ s → ⊥)

pub record IsAsk (a : Ask) : Type 0 where
  pub peers : ArePeers a.asker a.asked
  pub life : a.life < 2 ^ 64
  pub count : a.count < 2 ^ 64

-- what the first line of a delta says
pub record IsOpening (sender receiver life start count : ℕ) : Type 0 where
  pub peers : ArePeers sender receiver
  pub born : 1 ≤ life
  pub life_fits : life < 2 ^ 64
  pub start_fits : start < 2 ^ 64
  pub few : count ≤ 4096

pub record IsPart (d : Delta) : Type 0 where
  pub opening : IsOpening d.sender d.receiver d.life d.start (length d.firings)
  pub firings : AllByRecursion IsFiring d.firings

abbrev pub IsMessage : Message → Type 0
IsMessage (messages.Ask a) = IsAsk a
IsMessage (messages.Delta d) = IsPart d

-- the parts of each firing that it brings are in their ranges
abbrev pub BringsFirings : Message → Type 0
BringsFirings (messages.Ask a) = Unit {0}
BringsFirings (messages.Delta d) = AllByRecursion IsFiring d.firings

-- the lines are those of a message
pub record IsMessageLines (ls : List (List ℕ)) : Type 0 where
  pub message : Message
  pub valid : IsMessage message
  pub there : message_lines message ≡ ls

-- the bytes are the text of this message
abbrev pub IsMessageOf : List ℕ → Message → Type 0
IsMessageOf bytes m = IsMessage m × (bytes ≡ message_text m)

-- why the lines, and what stands behind them, are no message
abbrev pub IsErrorIn : PiecesAndRest → ReadError → Type 0
IsErrorIn text (BadLine n) = IsBadLine IsMessageLines text n
IsErrorIn text (TooLong n) = IsTooLong IsMessageLines text n
IsErrorIn text Truncated = IsTruncated IsMessageLines text
IsErrorIn text NoMemory = Unit {0}

-- why the bytes are no message's text
abbrev pub IsReadErrorOf : List ℕ → ReadError → Type 0
IsReadErrorOf bytes error = IsErrorIn (pieces 10 bytes) error

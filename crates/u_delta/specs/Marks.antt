-- What a delta brings: the part of a log that a mark leaves out.
use Rattle.std.specs.Prelude.{◌≡◌, ℕ, List, length, take, drop, nat_eq, nat_le, ◌&&◌, if◌then◌else◌}
use Rattle.u_rule.specs.declared.firing.Firing.{Firing}
use Rattle.u_delta.specs.declared.message.Mark.{Mark}
use Rattle.u_delta.specs.declared.message.Delta.{Delta}

-- a delta has at most so many firings
unfoldable pub most_firings : ℕ
most_firings = 4096

-- behind the firings of the mark, where it is of this life and the log is that long; else at the front
abbrev pub starts_at : List Firing → ℕ → Mark → ℕ
starts_at log life mark = if nat_eq mark.life life && nat_le mark.count (length log) then mark.count else 0

-- the log from there on, as far as a delta goes
abbrev pub part_from : List Firing → ℕ → List Firing
part_from log start = take most_firings (drop start log)

-- what the sender with this log and life answers to a receiver with this mark
pub record IsDelta (log : List Firing) (sender receiver life : ℕ) (mark : Mark) (delta : Delta) : Type 0 where
  pub sender_is : delta.sender ≡ sender
  pub receiver_is : delta.receiver ≡ receiver
  pub life_is : delta.life ≡ life
  pub start_is : delta.start ≡ starts_at log life mark
  pub firings_are : delta.firings ≡ part_from log (starts_at log life mark)

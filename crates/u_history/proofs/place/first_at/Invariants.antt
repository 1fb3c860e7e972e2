use Rattle.std.proofs.Common.{ℕ, ◌≤◌, ◌<◌, ◌-◌, length, get_or}
use Rattle.u_rule.specs.declared.entry.Entry.{Entry}
use Rattle.u_history.specs.Outcomes.{lent}
use Rattle.u_history.specs.Places.{IsBefore}
use Rattle.u_history.proofs.place.first_at.Given as goal

abbrev pub invariant-loop-low : goal.invariant-loop-low
invariant-loop-low l = record {
  order : l.low ≤ l.high;
  within : l.high ≤ length l.entries;
  before : (k : ℕ) (d : Entry) → k < l.low → IsBefore l.place (get_or (lent l.entries) k d);
  behind : (k : ℕ) (d : Entry) → l.high ≤ k → k < length l.entries → IsBefore l.place (get_or (lent l.entries) k d) → ⊥;
}

abbrev pub decreases-loop-low : goal.decreases-loop-low
decreases-loop-low l = l.high - l.low

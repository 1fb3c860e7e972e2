-- Lines of a checkpoint in any order, among which a machine finds those of the firings that it fires.
use Rattle.std.specs.Prelude.{◌≡◌, ℕ, ◌<◌, ◌^◌, List, Contains, Some, length, map}
use Rattle.std.specs.List.{slice_get}
use Rattle.std.specs.Borrow.{Bor}
use Rattle.u_base.specs.Pieces.{lines}
use Rattle.u_rule.specs.declared.firing.Firing.{Firing}
use Rattle.u_rule.specs.FiringText.{firing_text}
use Rattle.u_rule.specs.FiringReading.{IsFiring}
use Rattle.u_machine.specs.State.{State, IsPick, IsSettled}
use Rattle.u_machine.specs.Calls.{Takes, Runs}
use Rattle.u_replica.specs.FiredLines.{AreFired}

-- what the borrowed lines are
abbrev pub texts : List (Bor (List ℕ)) → List (List ℕ)
texts ls = map (λ (l : Bor (List ℕ)). l.now) ls

-- the line at the place is the text
abbrev pub IsLineAt : List (Bor (List ℕ)) → ℕ → List ℕ → Type 0
IsLineAt ls place text = slice_get (texts ls) place ≡ Some text

-- one of the lines is that of the firing which the machine fires next, and it was fired
pub record FiresListedLine (old : State) (ls : List (List ℕ)) (new : State) : Type 0 where
  pub firing : Firing
  pub there : Contains ls (firing_text firing)
  pub valid : IsFiring firing
  pub picked : IsPick old 0 firing
  pub takes : Takes old firing new
  pub logged : Contains new.log firing
  pub settled : IsSettled new

-- these firings were fired, each the next one of the machine, and the lines have each of their texts
pub record FiresAmong (old : State) (ls : List (List ℕ)) (more : List Firing) (new : State) : Type 0 where
  pub runs : Runs old more new
  pub there : (f : Firing) → Contains more f → Contains ls (firing_text f)
  pub valid : (f : Firing) → Contains more f → IsFiring f
  pub settled : IsSettled new

-- Firings whose lines the bytes have were fired. So many lines are passed at the front: those of firings
-- that are applied.
pub record FiresListed (old : State) (bytes rest : List ℕ) (count : ℕ) (new : State) : Type 0 where
  pub more : List Firing
  pub fires : FiresAmong old (lines bytes) more new
  pub passed : List Firing
  pub counted : count ≡ length passed
  pub few : count < 2 ^ 32
  pub are : AreFired bytes rest passed
  pub logged : (f : Firing) → Contains passed f → Contains new.log f

-- Guards: the truth values without which a statement does not fire.
--
-- A guard is a statement c, the control, and a truth value. Where a statement with that guard
-- fires, the control gave that value to the very place where it fires: to its context, its block
-- and its initiation. A guard of an arc says the same of the place that the arc delivers to. Guards
-- are found in rounds: a statement has a guard if the guard is known, from earlier rounds, of what
-- the statement depends on.
use Rattle.std.specs.Prelude.{◌≡◌, ℕ, zero, suc, Bool, true, false, not, List, Some, ◌⊎◌}
use Rattle.u_name.specs.Context.{IsBetween}
use Rattle.u_program.specs.declared.program.Kind.{Kind}
use Rattle.u_program.specs.declared.program.Kind.TheVariants.{Pass, Switch, Enter, Next, Last, Leave, Back}
use Rattle.u_program.specs.Parts.{StatementParts}
use Rattle.u_check.specs.Kinds.{ports_of, comes_from_outside, back_named}
use Rattle.u_check.specs.Rules.{statement_at, Arc}
use Rattle.u_determinate.specs.Arcs.{Leads, OnlyArc, ArcFrom}

-- statement n is of that kind
pub record Stands (ss : List StatementParts) (n : ℕ) (k : Kind) : Type 0 where
  pub it : StatementParts
  pub stands : statement_at ss n ≡ Some it
  pub kind : it.kind ≡ k

-- statement m is an `apply` that names statement n, on however many arguments
pub record Applies (ss : List StatementParts) (m n : ℕ) : Type 0 where
  pub it : StatementParts
  pub stands : statement_at ss m ≡ Some it
  pub names : back_named it.kind ≡ Some n

-- Found in k rounds: in none nothing, and in each round what follows from what the one before it
-- found.
abbrev pub Rounds : ((ℕ → Type 0) → ℕ → Type 0) → ℕ → ℕ → Type 0
Rounds F zero n = ⊥
Rounds F (suc k) n = F (Rounds F k) n

-- found in some number of rounds
abbrev pub Reached : ((ℕ → Type 0) → ℕ → Type 0) → ℕ → Type 0
Reached F n = (k : ℕ) × Rounds F k n

-- statement n is a `pass` with one arc to its port, from a statement of which P is known
pub record Passes (ss : List StatementParts) (P : ℕ → Type 0) (n : ℕ) : Type 0 where
  pub stands : Stands ss n Pass
  pub arc : Arc
  pub only : OnlyArc ss n 1 arc
  pub from : P arc.statement

-- statement n is c, or hands on what a statement gives of which P is known
abbrev pub PassedOn : List StatementParts → ℕ → (ℕ → Type 0) → ℕ → Type 0
PassedOn ss c P n = (n ≡ c) ⊎ Passes ss P n

-- What statement n gives is what statement c gives: n is c, or a `pass` behind it. Only a `pass`
-- hands on what it takes: behind a `not` the truth value is the other one.
abbrev pub IsPassed : List StatementParts → ℕ → ℕ → Type 0
IsPassed ss c n = Reached (PassedOn ss c) n

-- the kinds whose values stay in the context and the initiation
abbrev pub stays : Kind → Bool
stays (Enter l) = false
stays Next = false
stays Last = false
stays Leave = false
stays k = true

-- The arc comes from a statement of which P is known, and which sends within its own place. A guard
-- is of one place, so a `next` hands none on: if it did, a port that takes the next turn's value,
-- and another one on the other side of this turn's test, would be taken for one that gets one
-- value, and it gets two.
pub record FromBeside (ss : List StatementParts) (P : ℕ → Type 0) (a : Arc) : Type 0 where
  pub it : StatementParts
  pub stands : statement_at ss a.statement ≡ Some it
  pub kind : stays it.kind ≡ true
  pub has : P a.statement

-- The arc comes from a `switch`, from its list for that truth value, and the value comes from c, by
-- the one arc to the port that takes it. With two arcs there, each from a control of its own,
-- either of the two may have given the value, and neither is known to have.
pub record FromSwitch (ss : List StatementParts) (c : ℕ) (value : Bool) (a : Arc) : Type 0 where
  pub switch : ArcFrom ss a Switch
  pub side : a.on_false ≡ not value
  pub control : Arc
  pub controls : OnlyArc ss a.statement 2 control
  pub source : IsPassed ss c control.statement

-- The arc comes from a `leave` of a loop, and of each `enter` of that loop P is known. Of some of
-- them is not enough: what leaves may have come in by another one, which fires on either side.
pub record FromLeave (ss : List StatementParts) (P : ℕ → Type 0) (a : Arc) : Type 0 where
  pub leave : ArcFrom ss a Leave
  pub has : (n : ℕ) → Stands ss n (Enter leave.it.region) → P n

-- the arc has the guard, where the statements of which P is known have it
abbrev pub ArcOf : List StatementParts → ℕ → Bool → (ℕ → Type 0) → Arc → Type 0
ArcOf ss c value P a = FromBeside ss P a ⊎ (FromSwitch ss c value a ⊎ FromLeave ss P a)

-- Of each arc to some port of statement n, Q is known. Of one arc of two is not enough: the other
-- may deliver.
pub record AtPort (ss : List StatementParts) (Q : Arc → Type 0) (n : ℕ) : Type 0 where
  pub it : StatementParts
  pub stands : statement_at ss n ≡ Some it
  pub takes : comes_from_outside it.kind ≡ false
  pub port : ℕ
  pub exists : IsBetween 1 port (ports_of it.kind)
  pub all : (a : Arc) → Leads ss n port a → Q a

-- Statement n is a `back`, and of each `apply` that names it P is known: a result comes back to the
-- place of the call.
pub record AtBack (ss : List StatementParts) (P : ℕ → Type 0) (n : ℕ) : Type 0 where
  pub back : Stands ss n Back
  pub all : (m : ℕ) → Applies ss m n → P m

-- statement n has the guard, where the statements of which P is known have it
abbrev pub StatementOf : List StatementParts → ℕ → Bool → (ℕ → Type 0) → ℕ → Type 0
StatementOf ss c value P n = AtPort ss (ArcOf ss c value P) n ⊎ AtBack ss P n

-- statement n has the guard
abbrev pub HasGuard : List StatementParts → ℕ → Bool → ℕ → Type 0
HasGuard ss c value n = Reached (StatementOf ss c value) n

-- the arc has the guard
abbrev pub ArcHasGuard : List StatementParts → ℕ → Bool → Arc → Type 0
ArcHasGuard ss c value a = ArcOf ss c value (HasGuard ss c value) a

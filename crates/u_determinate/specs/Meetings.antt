-- What each statement of a determinate program keeps, and the first one that does not.
use Rattle.std.specs.Prelude.{◌≡◌, ℕ, ◌-◌, ◌<◌, ◌≤◌, ◌↔◌, ◌⊎◌, true, false, List, Some, slice_get}
use Rattle.u_program.specs.declared.program.Kind.TheVariants.{Next, Last, Back, End}
use Rattle.u_program.specs.Parts.{StatementParts, BlockParts}
use Rattle.u_check.specs.Rules.{statement_at, Arc, IsEarlier}
use Rattle.u_determinate.specs.Arcs.{Leads}
use Rattle.u_determinate.specs.Guards.{Stands, HasGuard, ArcHasGuard}
use Rattle.u_determinate.specs.Determinate.{Exclude, MayMeet, OneApply, IsDeterminate}
use Rattle.u_determinate.specs.declared.verdict.Meeting.{Meeting}
use Rattle.u_determinate.specs.declared.verdict.Meeting.TheVariants.{Arcs, Ends, Calls, Turns}
use Rattle.u_determinate.specs.declared.verdict.Determinacy.{Determinacy}
use Rattle.u_determinate.specs.declared.verdict.Determinacy.TheVariants.{Determinate, Meets}

-- the place of a kind of meeting in their order
abbrev pub order_of : Meeting → ℕ
order_of Arcs = 0
order_of Ends = 1
order_of Calls = 2
order_of Turns = 3

-- those arcs to statement n that lead to one port may meet
abbrev pub ArcsMeet : List StatementParts → ℕ → Type 0
ArcsMeet ss n = (port : ℕ) (a b : Arc) → Leads ss n port a → Leads ss n port b → MayMeet ss a b

-- number n is no statement's, or the arcs to each port of it may meet
abbrev pub ArcsMayMeet : List StatementParts → ℕ → Type 0
ArcsMayMeet ss n = (s : StatementParts) → statement_at ss n ≡ Some s → ArcsMeet ss n

-- no statement before number n is an `end`
abbrev pub NoEndBefore : List StatementParts → ℕ → Type 0
NoEndBefore ss n = (m : ℕ) → m < n → Stands ss m End → ⊥

-- statement n is no `end`, or the first
abbrev pub IsNoLaterEnd : List StatementParts → ℕ → Type 0
IsNoLaterEnd ss n = Stands ss n End → NoEndBefore ss n

-- statement n is no `back`, or at most one `apply` names it
abbrev pub ReturnsOneCall : List StatementParts → ℕ → Type 0
ReturnsOneCall ss n = Stands ss n Back → OneApply ss n

-- statement n is a `last` of that loop
abbrev pub IsLastOf : List StatementParts → ℕ → ℕ → Type 0
IsLastOf ss region n = (last : Stands ss n Last) × (last.it.region ≡ region)

-- each `last` of that loop and statement m exclude each other
abbrev pub LastsExclude : List StatementParts → ℕ → ℕ → Type 0
LastsExclude ss region m = (n : ℕ) → IsLastOf ss region n → Exclude ss m n

-- statement n is no `next`, or it and each `last` of its loop exclude each other
abbrev pub NextExcludes : List StatementParts → ℕ → Type 0
NextExcludes ss n = (next : Stands ss n Next) → LastsExclude ss next.it.region n

-- what a statement keeps where that does not meet at it
abbrev pub Asks : Meeting → List StatementParts → ℕ → Type 0
Asks Arcs ss n = ArcsMayMeet ss n
Asks Ends ss n = IsNoLaterEnd ss n
Asks Calls ss n = ReturnsOneCall ss n
Asks Turns ss n = NextExcludes ss n

-- in the block of that number, from 1, that meets at the statement of that number
pub record MeetsAt (p : List BlockParts) (meeting : Meeting) (block at : ℕ) : Type 0 where
  pub counts : 1 ≤ block
  pub it : BlockParts
  pub stands : slice_get p (block - 1) ≡ Some it
  pub broken : Asks meeting it.statements at → ⊥

-- it meets there, and at no earlier place
pub record IsFirstMeeting (p : List BlockParts) (meeting : Meeting) (block at : ℕ) : Type 0 where
  pub here : MeetsAt p meeting block at
  pub first : (b a : ℕ) → MeetsAt p meeting b a → IsEarlier b a block at → ⊥

-- and nothing meets whose kind comes before
pub record IsFirstOfAll (p : List BlockParts) (meeting : Meeting) (block at : ℕ) : Type 0 where
  pub here : IsFirstMeeting p meeting block at
  pub first_kind : (k : Meeting) (b a : ℕ) → MeetsAt p k b a → order_of k < order_of meeting → ⊥

-- what is answered: `Determinate` of determinate programs alone, or the first place where it meets
abbrev pub IsAnswer : List BlockParts → Determinacy → Type 0
IsAnswer p Determinate = IsDeterminate p
IsAnswer p (Meets place) = IsFirstOfAll p place.meeting place.block place.at

-- it is `Determinate` exactly of determinate programs
abbrev pub IsExact : List BlockParts → Determinacy → Type 0
IsExact p d = (d ≡ Determinate) ↔ IsDeterminate p

-- one of the two arcs has the control's guard for true, the other the one for false
abbrev pub ArcsOpposed : List StatementParts → ℕ → Arc → Arc → Type 0
ArcsOpposed ss c a b =
    (ArcHasGuard ss c true a × ArcHasGuard ss c false b)
    ⊎ (ArcHasGuard ss c true b × ArcHasGuard ss c false a)

-- the same of two statements
abbrev pub Opposed : List StatementParts → ℕ → ℕ → ℕ → Type 0
Opposed ss c m n =
    (HasGuard ss c true m × HasGuard ss c false n)
    ⊎ (HasGuard ss c true n × HasGuard ss c false m)

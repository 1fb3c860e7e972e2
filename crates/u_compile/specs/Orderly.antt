-- What the rules of the checker ask of statements and of the ends of links, wherever they lie.
use Rattle.std.specs.Prelude.{◌≡◌, ℕ, ◌≤◌, true, List, Some}
use Rattle.u_program.specs.declared.program.Kind.TheVariants.{Begin, Enter, Next, Param, Back, End}
use Rattle.u_program.specs.declared.program.Parameter.{Parameter}
use Rattle.u_program.specs.declared.program.Parameter.TheVariants as parameters
use Rattle.u_program.specs.Limits.{place_of}
use Rattle.u_check.specs.Kinds.{is_param, is_last, is_leave, is_of_loop, back_named}
use Rattle.u_compile.specs.declared.graph.Link.{Link}
use Rattle.u_compile.specs.Drafts.{DraftParts}
use Rattle.u_compile.specs.Graphs.{draft_at}
use Rattle.u_compile.specs.Scoped.{IsOf}

-- some `apply` names statement n
abbrev pub IsNamed : List DraftParts → ℕ → Type 0
IsNamed ds n = (m : ℕ) × (d : DraftParts) × (draft_at ds m ≡ Some d) × (back_named d.kind ≡ Some n)

-- statement n enters that loop
abbrev pub EntersLoop : List DraftParts → ℕ → ℕ → Type 0
EntersLoop ds n l = (d : DraftParts) × (draft_at ds n ≡ Some d) × (d.kind ≡ Enter l)

-- statement n is a `param`
abbrev pub IsParamAt : List DraftParts → ℕ → Type 0
IsParamAt ds n = (d : DraftParts) × (draft_at ds n ≡ Some d) × (is_param d.kind ≡ true)

-- the statements of the parameters behind the first and before this one are `param`
abbrev pub FollowsParams : List DraftParts → Parameter → Type 0
FollowsParams ds parameters.Second = Unit {0}
FollowsParams ds parameters.Third = IsParamAt ds 2
FollowsParams ds parameters.Fourth = IsParamAt ds 2 × IsParamAt ds 3

-- a `param` in that region is statement n
pub record ComesInOrder (ds : List DraftParts) (n region : ℕ) (k : Parameter) : Type 0 where
  pub number : n ≡ place_of k
  pub outer : region ≡ 0
  pub follows : FollowsParams ds k

-- As statement n of a block it stands well: the first one and no other is the `begin`, in the outer region; a `param` stands
-- at the number of its parameter; an `end` lies in no loop, and what makes the turns of loops lies in one; a `next` lies in
-- the loop that its `enter` enters; and a `back` is named by an `apply`.
pub record StandsWell (ds : List DraftParts) (n : ℕ) (x : DraftParts) : Type 0 where
  pub first : n ≡ 1 → x.kind ≡ Begin
  pub begins : x.kind ≡ Begin → (n ≡ 1) × (x.region ≡ 0)
  pub ends : x.kind ≡ End → x.region ≡ 0
  pub turns : is_of_loop x.kind ≡ true → 1 ≤ x.region
  pub next : x.kind ≡ Next → EntersLoop ds x.shares x.region
  pub backs : x.kind ≡ Back → IsNamed ds n
  pub params : (k : Parameter) → x.kind ≡ Param k → ComesInOrder ds n x.region k

-- a `last` alone leads to a `leave`, and to nothing else
pub record LeavesWell (ds : List DraftParts) (from to : ℕ) : Type 0 where
  pub sender : DraftParts
  pub sends : draft_at ds from ≡ Some sender
  pub taker : DraftParts
  pub takes : draft_at ds to ≡ Some taker
  pub same : is_last sender.kind ≡ is_leave taker.kind

-- each statement stands well, and so does each link
pub record IsOrderly (ds : List DraftParts) (ls : List Link) : Type 0 where
  pub stands : (n : ℕ) (d : DraftParts) → draft_at ds n ≡ Some d → StandsWell ds n d
  pub leaves : (l : Link) → IsOf ls l → LeavesWell ds l.from.statement l.to.statement

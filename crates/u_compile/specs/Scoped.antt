-- Graphs whose statements lie in scopes.
--
-- A place is a region and the guards that hold there: of each control around it in that region, the truth value that it
-- gave, the inner ones first. A value may go from a side of a control to what stands around that side, where nothing
-- comes from the other side as well, or to where what comes from the other side is wanted too; and it may go nowhere else.
use Rattle.std.specs.Prelude.{◌≡◌, ℕ, ◌<◌, Bool, true, false, not, ◌⊎◌, List, [], ◌∷◌, Some}
use Rattle.u_program.specs.declared.program.Kind.{Kind}
use Rattle.u_program.specs.declared.program.Kind.TheVariants.{Pass, Switch, Enter, Next, Last, Leave, Back, End}
use Rattle.u_check.specs.Kinds.{comes_from_outside, back_named}
use Rattle.u_compile.specs.declared.graph.Link.{Link}
use Rattle.u_compile.specs.declared.place.Guard.{Guard}
use Rattle.u_compile.specs.declared.graph.Output.{Output}
use Rattle.u_compile.specs.Drafts.{DraftParts}
use Rattle.u_compile.specs.Graphs.{GraphParts, draft_at, enters, is_next}
use Rattle.u_compile.specs.Fanning.{holder}

-- that statement gave that truth value
abbrev pub guard : ℕ → Bool → Guard
guard control value = record { control = control; value = value }

pub record GuardedRegionParts : Type 0 where
  pub region : ℕ
  pub guards : List Guard

abbrev pub place : ℕ → List Guard → GuardedRegionParts
place region guards = record { region = region; guards = guards }

-- x is one of these
abbrev pub IsOf : {A : Type 0} → List A → A → Type 0
IsOf [] x = ⊥
IsOf (y ∷ ys) x = (y ≡ x) ⊎ IsOf ys x

-- Where statements lie, and in which order values come to them.
pub record Layout : Type 0 where
  -- the place of a statement
  pub at : ℕ → GuardedRegionParts
  -- the place that holds a loop
  pub around : ℕ → GuardedRegionParts
  -- the control of a `switch`, and of a loop's turns
  pub control : ℕ → ℕ
  pub test : ℕ → ℕ
  -- what comes before what
  pub order : ℕ → ℕ

-- the place to which a list of statement n sends, by the statement's kind and region
abbrev pub sent_by : Layout → ℕ → Bool → ℕ → Kind → GuardedRegionParts
sent_by y n side region Switch = place (y.at n).region (guard (y.control n) (not side) ∷ (y.at n).guards)
sent_by y n side region (Enter l) = place l []
sent_by y n side region Last = place (y.at n).region []
sent_by y n side region Leave = y.around region
sent_by y n side region k = y.at n

-- each guard of the one is one of the other
abbrev pub AreGuards : List Guard → List Guard → Type 0
AreGuards gs hs = (c : Guard) → IsOf gs c → IsOf hs c

-- what stands at the ends of a link
pub record Ends (ds : List DraftParts) (l : Link) : Type 0 where
  pub from : DraftParts
  pub sends : draft_at ds l.from.statement ≡ Some from
  pub to : DraftParts
  pub takes : draft_at ds l.to.statement ≡ Some to

-- The value goes to the place that it is sent to, or out of sides of controls there; and where it has guards, it comes
-- from something earlier.
pub record GoesWell (y : Layout) (ds : List DraftParts) (l : Link) : Type 0 where
  pub ends : Ends ds l
  pub other : is_next ends.from.kind ≡ false
  pub outside : comes_from_outside ends.to.kind ≡ false
  pub region : (sent_by y l.from.statement l.from.on_false ends.from.region ends.from.kind).region ≡ (y.at l.to.statement).region
  pub guards : AreGuards (y.at l.to.statement).guards (sent_by y l.from.statement l.from.on_false ends.from.region ends.from.kind).guards
  pub earlier : ((sent_by y l.from.statement l.from.on_false ends.from.region ends.from.kind).guards ≡ []) ⊎ (y.order l.from.statement < y.order l.to.statement)

-- One of the two needs that a control gave true, and the other that it gave false.
pub record AreApart (y : Layout) (ds : List DraftParts) (l m : Link) : Type 0 where
  pub ends : Ends ds l
  pub other : Ends ds m
  pub control : ℕ
  pub value : Bool
  pub one : IsOf (sent_by y l.from.statement l.from.on_false ends.from.region ends.from.kind).guards (guard control value)
  pub two : IsOf (sent_by y m.from.statement m.from.on_false other.from.region other.from.kind).guards (guard control (not value))

-- only that output leads to that port
pub record OnlyFrom (ls : List Link) (o : Output) (n j : ℕ) : Type 0 where
  pub link : Link
  pub is : IsOf ls link
  pub from : link.from ≡ o
  pub statement : link.to.statement ≡ n
  pub port : link.to.port ≡ j
  pub only : (l : Link) → IsOf ls l → l.to.statement ≡ n → l.to.port ≡ j → l.from ≡ o

-- statement n hands on what statement c gives: it is c, or a `pass` behind it
pub data HandsOn (g : GraphParts) (c : ℕ) : ℕ → Type 0 where
  it : HandsOn g c c
  pass : (n : ℕ) (o : Output) (d e : DraftParts) → draft_at g.statements n ≡ Some d → d.kind ≡ Pass → draft_at g.statements o.statement ≡ Some e → is_next e.kind ≡ false → enters e.kind ≡ false → OnlyFrom g.links o n 1 → HandsOn g c o.statement → HandsOn g c n

-- the value that chooses a side comes from one statement, and is what the control gives
pub record IsControlled (y : Layout) (g : GraphParts) (n : ℕ) : Type 0 where
  pub from : Output
  pub by : DraftParts
  pub stands : draft_at g.statements from.statement ≡ Some by
  pub other : is_next by.kind ≡ false
  pub alone : enters by.kind ≡ false
  pub only : OnlyFrom g.links from n 2
  pub source : HandsOn g (y.control n) from.statement

-- statement n is a `back`, in the place of statement m and behind it
pub record IsCalled (y : Layout) (ds : List DraftParts) (m n : ℕ) : Type 0 where
  pub back : DraftParts
  pub stands : draft_at ds n ≡ Some back
  pub kind : back.kind ≡ Back
  pub beside : y.at m ≡ y.at n
  pub earlier : y.order m < y.order n

-- The statements and links of a graph lie well. Two links to one port come from one output or are apart.
pub record IsScoped (y : Layout) (g : GraphParts) : Type 0 where
  pub region : (n : ℕ) (d : DraftParts) → draft_at g.statements n ≡ Some d → d.region ≡ (y.at n).region
  pub links : (l : Link) → IsOf g.links l → GoesWell y g.statements l
  pub ports : (l m : Link) → IsOf g.links l → IsOf g.links m → l.to ≡ m.to → (l.from ≡ m.from) ⊎ AreApart y g.statements l m
  pub switches : (n : ℕ) (d : DraftParts) → draft_at g.statements n ≡ Some d → d.kind ≡ Switch → IsControlled y g n
  -- a loop lies in the region that holds it
  pub held : (l : ℕ) → (y.around l).region ≡ holder g.loops l
  -- a procedure begins without guards
  pub begins : (n : ℕ) (d : DraftParts) → draft_at g.statements n ≡ Some d → comes_from_outside d.kind ≡ true → (d.kind ≡ Back) ⊎ ((y.at n).guards ≡ [])
  -- what enters a loop comes from the place that holds it, and before what leaves it
  pub enters_from : (n : ℕ) (d : DraftParts) (l : ℕ) → draft_at g.statements n ≡ Some d → d.kind ≡ Enter l → y.at n ≡ y.around l
  pub leaves_after : (n m : ℕ) (d e : DraftParts) → draft_at g.statements n ≡ Some d → draft_at g.statements m ≡ Some e → d.kind ≡ Leave → e.kind ≡ Enter d.region → y.order m < y.order n
  -- the next turn needs that the test gave true, and the end of the loop that it gave false
  pub nexts : (n : ℕ) (d : DraftParts) → draft_at g.statements n ≡ Some d → d.kind ≡ Next → IsOf (y.at n).guards (guard (y.test d.region) true)
  pub lasts : (n : ℕ) (d : DraftParts) → draft_at g.statements n ≡ Some d → d.kind ≡ Last → IsOf (y.at n).guards (guard (y.test d.region) false)
  -- an `enter` has one `next`
  pub one_next : (m n : ℕ) (d e : DraftParts) → draft_at g.statements m ≡ Some d → draft_at g.statements n ≡ Some e → d.kind ≡ Next → e.kind ≡ Next → d.shares ≡ e.shares → m ≡ n
  -- one `apply` names a `back`, from its place and before it; and one result is the procedure's
  pub one_apply : (k m n : ℕ) (d e : DraftParts) → draft_at g.statements k ≡ Some d → draft_at g.statements m ≡ Some e → back_named d.kind ≡ Some n → back_named e.kind ≡ Some n → k ≡ m
  pub backs : (m n : ℕ) (d : DraftParts) → draft_at g.statements m ≡ Some d → back_named d.kind ≡ Some n → IsCalled y g.statements m n
  pub one_end : (m n : ℕ) (d e : DraftParts) → draft_at g.statements m ≡ Some d → draft_at g.statements n ≡ Some e → d.kind ≡ End → e.kind ≡ End → m ≡ n

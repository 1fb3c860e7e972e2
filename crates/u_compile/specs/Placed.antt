-- Graphs with what was noted of their statements and loops: the layout is what was noted.
use Rattle.std.specs.Prelude.{◌≡◌, ℕ, zero, suc, ◌+◌, ◌<◌, ◌≤◌, ◌⊎◌, Bool, true, false, not, ◌&&◌, ◌==◌, List, [], ◌∷◌, ◌++◌, map, length, Option, Some, None, get_or, cond}
use Rattle.u_program.specs.declared.program.Destination.{Destination}
use Rattle.u_program.specs.declared.program.Kind.{Kind}
use Rattle.u_program.specs.declared.program.Kind.TheVariants.{Switch, Enter, Next, Last, Leave, Apply, Back, End}
use Rattle.u_check.specs.Kinds.{ports_of, back_named, comes_from_outside, is_leave, is_end}
use Rattle.u_compile.specs.declared.graph.Link.{Link}
use Rattle.u_compile.specs.declared.graph.Output.{Output}
use Rattle.u_compile.specs.declared.placed.Test.{Test}
use Rattle.u_compile.specs.Drafts.{DraftParts}
use Rattle.u_compile.specs.Graphs.{GraphParts, graph, link, draft_at, is_next, enters}
use Rattle.u_compile.specs.Fanning.{holder}
use Rattle.u_compile.specs.Scoped.{GuardedRegionParts, place, guard, IsOf, AreGuards, Layout, sent_by, GoesWell, AreApart, IsControlled, IsCalled}
use Rattle.u_compile.specs.Orderly.{StandsWell, IsOrderly}

-- the one of that number, which counts from 1, or else that one
abbrev pub entry : {A : Type 0} → A → List A → ℕ → A
entry d xs zero = d
entry d xs (suc n) = get_or xs n d

-- what is noted of a statement: its place, and of a `switch` the statement that chooses its side
pub record NoteParts : Type 0 where
  pub place : GuardedRegionParts
  pub control : ℕ

abbrev pub note : GuardedRegionParts → ℕ → NoteParts
note place control = record { place = place; control = control }

-- a graph, what is noted of its statements, the places that hold its loops, the tests of their turns that are known, and
-- the number of the statement that is not finished, which is 0 where there is none
pub record PlacedParts : Type 0 where
  pub graph : GraphParts
  pub notes : List NoteParts
  pub arounds : List GuardedRegionParts
  pub tests : List Test
  pub unfinished : ℕ

abbrev pub placed : GraphParts → List NoteParts → List GuardedRegionParts → List Test → ℕ → PlacedParts
placed graph notes arounds tests unfinished = record { graph = graph; notes = notes; arounds = arounds; tests = tests; unfinished = unfinished }

-- the places of its statements, in their order
abbrev pub places_of : PlacedParts → List GuardedRegionParts
places_of p = map (λ (n : NoteParts). n.place) p.notes

-- what is noted of no statement, and the place that holds no loop
abbrev pub no_note : NoteParts
no_note = note (place 0 []) 0

abbrev pub no_place : GuardedRegionParts
no_place = place 0 []

abbrev pub a_test : ℕ → ℕ → Test
a_test region control = record { region = region; control = control }

-- the test of the turns of a loop: 0 where none is known
abbrev pub test_of : List Test → ℕ → ℕ
test_of [] l = 0
test_of (t ∷ ts) l = cond (t.region == l) t.control (test_of ts l)

-- values come to statements in the order of their numbers
abbrev pub layout_of : PlacedParts → Layout
layout_of p = record {
  at = λ n. (entry no_note p.notes n).place;
  around = entry no_place p.arounds;
  control = λ n. (entry no_note p.notes n).control;
  test = test_of p.tests;
  order = λ n. n;
}

-- each link leads to a statement behind the one that it comes from
abbrev pub IsForward : List Link → Type 0
IsForward ls = (l : Link) → IsOf ls l → l.from.statement < l.to.statement

-- some output leads to that port
abbrev pub IsLinked : List Link → ℕ → ℕ → Type 0
IsLinked ls n port = (l : Link) × IsOf ls l × (l.to.statement ≡ n) × (l.to.port ≡ port)

-- so many ports of statement n are linked
abbrev pub AreLinked : List Link → ℕ → ℕ → Type 0
AreLinked ls n ports = (port : ℕ) → 1 ≤ port → port ≤ ports → IsLinked ls n port

-- each port of statement n is linked, unless its value comes from outside
abbrev pub IsFull : List Link → ℕ → DraftParts → Type 0
IsFull ls n d = comes_from_outside d.kind ≡ false → AreLinked ls n (ports_of d.kind)

-- each port of the last statement is
abbrev pub IsLastFull : GraphParts → Type 0
IsLastFull g = (d : DraftParts) → draft_at g.statements (length g.statements) ≡ Some d → IsFull g.links (length g.statements) d

-- each port of each statement is
abbrev pub EachIsFull : GraphParts → Type 0
EachIsFull g = (n : ℕ) (d : DraftParts) → draft_at g.statements n ≡ Some d → IsFull g.links n d

-- All that makes a graph lie well, but for what is wanted of the links of statement k and of the `back` that it names.
pub record IsScopedBut (k : ℕ) (y : Layout) (g : GraphParts) : Type 0 where
  pub region : (n : ℕ) (d : DraftParts) → draft_at g.statements n ≡ Some d → d.region ≡ (y.at n).region
  pub links : (l : Link) → IsOf g.links l → GoesWell y g.statements l
  pub ports : (l m : Link) → IsOf g.links l → IsOf g.links m → l.to ≡ m.to → (l.from ≡ m.from) ⊎ AreApart y g.statements l m
  pub switches : (n : ℕ) (d : DraftParts) → draft_at g.statements n ≡ Some d → d.kind ≡ Switch → (n ≡ k → ⊥) → IsControlled y g n
  pub held : (l : ℕ) → (y.around l).region ≡ holder g.loops l
  pub begins : (n : ℕ) (d : DraftParts) → draft_at g.statements n ≡ Some d → comes_from_outside d.kind ≡ true → (d.kind ≡ Back) ⊎ ((y.at n).guards ≡ [])
  pub enters_from : (n : ℕ) (d : DraftParts) (l : ℕ) → draft_at g.statements n ≡ Some d → d.kind ≡ Enter l → y.at n ≡ y.around l
  pub leaves_after : (n m : ℕ) (d e : DraftParts) → draft_at g.statements n ≡ Some d → draft_at g.statements m ≡ Some e → d.kind ≡ Leave → e.kind ≡ Enter d.region → y.order m < y.order n
  pub nexts : (n : ℕ) (d : DraftParts) → draft_at g.statements n ≡ Some d → d.kind ≡ Next → IsOf (y.at n).guards (guard (y.test d.region) true)
  pub lasts : (n : ℕ) (d : DraftParts) → draft_at g.statements n ≡ Some d → d.kind ≡ Last → IsOf (y.at n).guards (guard (y.test d.region) false)
  pub one_next : (m n : ℕ) (d e : DraftParts) → draft_at g.statements m ≡ Some d → draft_at g.statements n ≡ Some e → d.kind ≡ Next → e.kind ≡ Next → d.shares ≡ e.shares → m ≡ n
  pub one_apply : (j m n : ℕ) (d e : DraftParts) → draft_at g.statements j ≡ Some d → draft_at g.statements m ≡ Some e → back_named d.kind ≡ Some n → back_named e.kind ≡ Some n → j ≡ m
  pub backs : (m n : ℕ) (d : DraftParts) → draft_at g.statements m ≡ Some d → back_named d.kind ≡ Some n → (m ≡ k → ⊥) → IsCalled y g.statements m n
  pub one_end : (m n : ℕ) (d e : DraftParts) → draft_at g.statements m ≡ Some d → draft_at g.statements n ≡ Some e → d.kind ≡ End → e.kind ≡ End → m ≡ n

-- Everything was noted; the statements and links lie well, but for what is wanted of the statement that is not finished;
-- they stand well, wherever they lie; and each port of a statement before the last one is linked.
pub record IsPlaced (p : PlacedParts) : Type 0 where
  pub notes : length p.notes ≡ length p.graph.statements
  pub loops : p.graph.loops ≡ map (λ (a : GuardedRegionParts). a.region) p.arounds
  pub forward : IsForward p.graph.links
  pub scoped : IsScopedBut p.unfinished (layout_of p) p.graph
  pub orderly : IsOrderly p.graph.statements p.graph.links
  pub full : (n : ℕ) (d : DraftParts) → draft_at p.graph.statements n ≡ Some d → n < length p.graph.statements → IsFull p.graph.links n d

-- the two options have one number
abbrev pub names_back : Option ℕ → Option ℕ → Bool
names_back None o = false
names_back (Some b) None = false
names_back (Some b) (Some c) = b == c

-- No statement may be there beside which the other one comes: of a `next` another one of its `enter`, of an `apply` one
-- that names its `back`, of an `end` another one, and of an `enter` one that leaves its loop.
abbrev pub stands_against : DraftParts → DraftParts → Bool
stands_against x d = by x.kind
  where
    by : Kind → Bool
    by (Enter l) = is_leave d.kind && d.region == l
    by Next = is_next d.kind && d.shares == x.shares
    by (Apply b n) = names_back (Some b) (back_named d.kind)
    by End = is_end d.kind
    by k = false

-- the statement of an output, which is no `next`
pub record IsSender (p : PlacedParts) (o : Output) (d : DraftParts) : Type 0 where
  pub stands : draft_at p.graph.statements o.statement ≡ Some d
  pub other : is_next d.kind ≡ false

-- what an output of a statement other than `next` sends arrives there
pub record IsArrived (p : PlacedParts) (o : Output) (at : GuardedRegionParts) : Type 0 where
  pub from : DraftParts
  pub stands : draft_at p.graph.statements o.statement ≡ Some from
  pub other : is_next from.kind ≡ false
  pub arrives : at ≡ sent_by (layout_of p) o.statement o.on_false from.region from.kind

-- what the two outputs send needs different truth values of one control
pub record OneSends (p : PlacedParts) (a b : Output) : Type 0 where
  pub one : GuardedRegionParts
  pub other : GuardedRegionParts
  pub one_arrives : IsArrived p a one
  pub other_arrives : IsArrived p b other
  pub control : ℕ
  pub value : Bool
  pub has : IsOf one.guards (guard control value)
  pub has_not : IsOf other.guards (guard control (not value))

-- of that output and each other one that leads to the port only one sends
abbrev pub MeetsWell : PlacedParts → Output → Destination → List Link → Type 0
MeetsWell p o to ls = (l : Link) → IsOf ls l → l.to ≡ to → (l.from ≡ o) ⊎ OneSends p l.from o

-- What arrives there may come to that statement: it arrives in the statement's place or in sides there.
pub record MayTake (p : PlacedParts) (sent : GuardedRegionParts) (n : ℕ) : Type 0 where
  pub taker : DraftParts
  pub takes : draft_at p.graph.statements n ≡ Some taker
  pub outside : comes_from_outside taker.kind ≡ false
  pub region : sent.region ≡ ((layout_of p).at n).region
  pub guards : AreGuards ((layout_of p).at n).guards sent.guards

-- The value of the output may come to that port: it comes from a statement before that one, and meets no other value.
pub record MayCome (p : PlacedParts) (o : Output) (to : Destination) : Type 0 where
  pub sent : GuardedRegionParts
  pub arrives : IsArrived p o sent
  pub takes : MayTake p sent to.statement
  pub earlier : o.statement < to.statement
  pub meets : MeetsWell p o to p.graph.links

-- no other output leads to that port
abbrev pub IsAlone : List Link → Output → Destination → Type 0
IsAlone ls o to = (l : Link) → IsOf ls l → l.to.statement ≡ to.statement → l.to.port ≡ to.port → l.from ≡ o

-- In that place a statement of that kind lies well: a procedure's own begin without guards, an `enter` lies where its
-- loop does, and `next` and `last` lie in the sides of the test.
pub record LiesWell (p : PlacedParts) (x : DraftParts) (at : GuardedRegionParts) : Type 0 where
  pub begins : comes_from_outside x.kind ≡ true → (x.kind ≡ Back) ⊎ (at.guards ≡ [])
  pub enters : (l : ℕ) → x.kind ≡ Enter l → at ≡ (layout_of p).around l
  pub next : x.kind ≡ Next → IsOf at.guards (guard ((layout_of p).test x.region) true)
  pub last : x.kind ≡ Last → IsOf at.guards (guard ((layout_of p).test x.region) false)

-- no statement stands against that one
abbrev pub AreFree : List DraftParts → DraftParts → Type 0
AreFree ds x = (n : ℕ) (d : DraftParts) → draft_at ds n ≡ Some d → stands_against x d ≡ false

-- a statement that may be added in that place
pub record FitsIn (p : PlacedParts) (x : DraftParts) (at : GuardedRegionParts) : Type 0 where
  pub region : x.region ≡ at.region
  pub lies : LiesWell p x at
  pub against : AreFree p.graph.statements x
  pub stands : StandsWell p.graph.statements (length p.graph.statements + 1) x

-- with one link more
abbrev pub with_link : PlacedParts → Output → ℕ → PlacedParts
with_link p o port = record p { graph = graph p.graph.loops p.graph.statements (p.graph.links ++ (link o (length p.graph.statements) port ∷ [])) }

-- a statement that is not finished when it is added: a `switch` is when a link to its port 2 says what chooses its side,
-- an `apply` when its `back` stands
abbrev pub opens : Kind → Bool
opens Switch = true
opens (Apply b n) = true
opens k = false

-- with one statement more, in that place and with that control, and that statement unfinished then
abbrev pub with_statement : PlacedParts → DraftParts → GuardedRegionParts → ℕ → ℕ → PlacedParts
with_statement p x at control unfinished = placed (graph p.graph.loops (p.graph.statements ++ (x ∷ [])) p.graph.links) (p.notes ++ (note at control ∷ [])) p.arounds p.tests unfinished

-- with one loop more, in that place
abbrev pub with_loop : PlacedParts → GuardedRegionParts → PlacedParts
with_loop p around = placed (graph (p.graph.loops ++ (around.region ∷ [])) p.graph.statements p.graph.links) p.notes (p.arounds ++ (around ∷ [])) p.tests p.unfinished

-- where the test of the turns of a loop is known
abbrev pub with_test : PlacedParts → ℕ → ℕ → PlacedParts
with_test p region control = record p { tests = p.tests ++ (a_test region control ∷ []) }

-- no turn of the loop goes on, and it ends nowhere
abbrev pub IsUntested : List DraftParts → ℕ → Type 0
IsUntested ds l = (n : ℕ) (d : DraftParts) → draft_at ds n ≡ Some d → d.region ≡ l → (d.kind ≡ Next) ⊎ (d.kind ≡ Last) → ⊥

-- where the statement that was not finished is
abbrev pub finished : PlacedParts → PlacedParts
finished p = record p { unfinished = 0 }

-- some `next` goes on from the `enter` with that number
abbrev pub HasNext : List DraftParts → ℕ → Type 0
HasNext ds n = (m : ℕ) × (e : DraftParts) × (draft_at ds m ≡ Some e) × (e.kind ≡ Next) × (e.shares ≡ n)

-- Each `enter` of the one has a `next` among the others: what a loop takes in goes on from turn to turn.
abbrev pub EachGoesOn : List DraftParts → List DraftParts → Type 0
EachGoesOn ds all = (n : ℕ) (d : DraftParts) → draft_at ds n ≡ Some d → enters d.kind ≡ true → HasNext all d.shares

-- What tests of a graph with places come to.
use Rattle.std.proofs.Common.{length, arith, ◌≤◌, ◌+◌, ◌≡◌, ℕ, zero, suc, ◌<◌, ◌⊎◌, inl, inr, refl, sym, ap, ◌∙◌, subst, true, false, not, List, [], ◌∷◌, Some, None, Ok, Err, Result}
use Rattle.std.specs.Prelude.{IfOk, MatchResult}
use Rattle.u_program.specs.declared.program.Destination.{Destination}
use Rattle.u_program.specs.declared.program.Kind.TheVariants.{Switch, Next, Last, Back}
use Rattle.u_program.specs.Parts.{BlockParts}
use Rattle.u_check.specs.Kinds.{comes_from_outside, back_named}
use Rattle.u_determinate.specs.Determinate.{IsDeterminateBlock}
use Rattle.u_compile.specs.declared.graph.Link.{Link}
use Rattle.u_compile.specs.declared.graph.Output.{Output}
use Rattle.u_compile.specs.declared.place.Guard.{Guard}
use Rattle.u_compile.specs.Drafts.{DraftParts}
use Rattle.u_compile.specs.Graphs.{GraphParts, draft_at, link, enters}
use Rattle.u_compile.specs.Scoped.{GuardedRegionParts, place, guard, sent_by, IsOf, AreGuards, HandsOn, it, IsControlled, IsCalled, Layout, IsScoped}
use Rattle.u_compile.specs.Orderly.{IsOrderly}
use Rattle.u_compile.specs.Kept.{KeepsItself}
use Rattle.u_compile.specs.Placed.{PlacedParts, NoteParts, note, entry, layout_of, IsSender, IsArrived, OneSends, MeetsWell, MayTake, MayCome, IsAlone, AreFree, IsUntested, stands_against, IsPlaced, finished, IsLinked, IsFull, IsLastFull, EachIsFull, HasNext, EachGoesOn}
use Rattle.u_compile.proofs.ScopedSteps.{same_or_not, less}
use Rattle.u_compile.proofs.PlacedLaws.{finished_placed, is_scoped}

-- no statement stands against one, where the first and the others do not
pub free_more : (d : DraftParts) (ds : List DraftParts) (x : DraftParts) → stands_against x d ≡ false → AreFree ds x → AreFree (d ∷ ds) x
free_more d ds x h rest zero e at = cc
free_more d ds x h rest (suc zero) e at = let q : d ≡ e = cc in subst (λ (v : DraftParts). stands_against x v ≡ false) q h
free_more d ds x h rest (suc (suc n)) e at = rest (suc n) e at

pub free_none : (x : DraftParts) → AreFree [] x
free_none x zero e at = cc
free_none x (suc n) e at = cc

pub untested_more : (d : DraftParts) (ds : List DraftParts) (l : ℕ) → (d.region ≡ l → (d.kind ≡ Next) ⊎ (d.kind ≡ Last) → ⊥) → IsUntested ds l → IsUntested (d ∷ ds) l
untested_more d ds l h rest zero e at r k = cc
untested_more d ds l h rest (suc zero) e at r k =
    let q : e ≡ d = cc in
    h (ap (λ (v : DraftParts). v.region) (sym q) ∙ r) (subst (λ (v : DraftParts). (v.kind ≡ Next) ⊎ (v.kind ≡ Last)) q k)
untested_more d ds l h rest (suc (suc n)) e at r k = rest (suc n) e at r k

pub untested_none : (l : ℕ) → IsUntested [] l
untested_none l zero e at r k = cc
untested_none l (suc n) e at r k = cc

-- each guard is one of the others, where the first is and those behind it are
pub guards_more : (c : Guard) (gs hs : List Guard) → IsOf hs c → AreGuards gs hs → AreGuards (c ∷ gs) hs
guards_more c gs hs one all d (inl e) = subst (λ (v : Guard). IsOf hs v) e one
guards_more c gs hs one all d (inr i) = all d i

pub guards_none : (hs : List Guard) → AreGuards [] hs
guards_none hs d i = absurd i

pub meets_more : (p : PlacedParts) (o : Output) (to : Destination) (l : Link) (ls : List Link) → (l.to ≡ to → (l.from ≡ o) ⊎ OneSends p l.from o) → MeetsWell p o to ls → MeetsWell p o to (l ∷ ls)
meets_more p o to l ls h all m (inl e) q =
    subst (λ (v : Link). (v.from ≡ o) ⊎ OneSends p v.from o) e (h (ap (λ (v : Link). v.to) e ∙ q))
meets_more p o to l ls h all m (inr i) q = all m i q

pub meets_none : (p : PlacedParts) (o : Output) (to : Destination) → MeetsWell p o to []
meets_none p o to m i q = absurd i

pub alone_more : (l : Link) (ls : List Link) (o : Output) (to : Destination) → (l.to.statement ≡ to.statement → l.to.port ≡ to.port → l.from ≡ o) → IsAlone ls o to → IsAlone (l ∷ ls) o to
alone_more l ls o to h all m (inl e) q r =
    subst (λ (v : Link). v.from ≡ o) e (h (ap (λ (v : Link). v.to.statement) e ∙ q) (ap (λ (v : Link). v.to.port) e ∙ r))
alone_more l ls o to h all m (inr i) q r = all m i q r

pub arrived : (p : PlacedParts) (o : Output) (d : DraftParts) (at : GuardedRegionParts) → IsSender p o d → at ≡ sent_by (layout_of p) o.statement o.on_false d.region d.kind → IsArrived p o at
arrived p o d at s e = record { from = d; stands = s.stands; other = s.other; arrives = e }

-- of two outputs that send to opposite sides only one sends
pub one_sends : (p : PlacedParts) (a b : Output) (one other : GuardedRegionParts) (c : Guard) → IsArrived p a one → IsArrived p b other → IsOf one.guards c → IsOf other.guards (guard c.control (not c.value)) → OneSends p a b
one_sends p a b one other c h k i j = record {
  one = one;
  other = other;
  one_arrives = h;
  other_arrives = k;
  control = c.control;
  value = c.value;
  has = i;
  has_not = j;
}

pub may_take : (p : PlacedParts) (sent : GuardedRegionParts) (n : ℕ) (d : DraftParts) (at : NoteParts) → draft_at p.graph.statements n ≡ Some d → at ≡ entry (note (place 0 []) 0) p.notes n → comes_from_outside d.kind ≡ false → sent.region ≡ at.place.region → AreGuards at.place.guards sent.guards → MayTake p sent n
may_take p sent n d at stands e outside region guards = record {
  taker = d;
  takes = stands;
  outside = outside;
  region = region ∙ ap (λ (v : NoteParts). v.place.region) e;
  guards = subst (λ (v : NoteParts). AreGuards v.place.guards sent.guards) e guards;
}

pub may_come : (p : PlacedParts) (o : Output) (to : Destination) (sent : GuardedRegionParts) → IsArrived p o sent → MayTake p sent to.statement → o.statement < to.statement → MeetsWell p o to p.graph.links → MayCome p o to
may_come p o to sent h take before meets = record { sent = sent; arrives = h; takes = take; earlier = before; meets = meets }

-- the one output that leads to the port of a `switch` that takes the control says which side
pub controlled : (p : PlacedParts) (n : ℕ) (o : Output) (d : DraftParts) (at : NoteParts) → IsSender p o d → enters d.kind ≡ false → at ≡ entry (note (place 0 []) 0) p.notes n → at.control ≡ o.statement → IsOf p.graph.links (link o n 2) → IsAlone p.graph.links o (record { statement = n; port = 2 }) → IsControlled (layout_of p) p.graph n
controlled p n o d at s alone e c is only = record {
  from = o;
  by = d;
  stands = s.stands;
  other = s.other;
  alone = alone;
  only = record {
    link = link o n 2;
    is = is;
    from = refl;
    statement = refl;
    port = refl;
    only = only;
  };
  source = subst (λ (k : ℕ). HandsOn p.graph k o.statement) (sym c ∙ ap (λ (v : NoteParts). v.control) e) it;
}

pub called : (p : PlacedParts) (m n : ℕ) (d : DraftParts) (one other : NoteParts) → draft_at p.graph.statements n ≡ Some d → d.kind ≡ Back → one ≡ entry (note (place 0 []) 0) p.notes m → other ≡ entry (note (place 0 []) 0) p.notes n → one.place ≡ other.place → m < n → IsCalled (layout_of p) p.graph.statements m n
called p m n d one other stands kind e f same before = record {
  back = d;
  stands = stands;
  kind = kind;
  beside = ap (λ (v : NoteParts). v.place) (sym e) ∙ (same ∙ ap (λ (v : NoteParts). v.place) f);
  earlier = before;
}

-- an `apply` is finished where its `back` stands in its place behind it
pub call_finished : (p : PlacedParts) → IsPlaced p → (b : ℕ) → ((d : DraftParts) → draft_at p.graph.statements p.unfinished ≡ Some d → back_named d.kind ≡ Some b) → IsCalled (layout_of p) p.graph.statements p.unfinished b → IsPlaced (finished p)
call_finished p is b names c = finished_placed p is
    (λ d h k. let none : None ≡ Some b = sym (ap back_named k) ∙ names d h in cc)
    (λ n d h named. let same : b ≡ n = (let q = sym (names d h) ∙ named in cc) in subst (IsCalled (layout_of p) p.graph.statements p.unfinished) same c)

-- and a `switch` where one output says which side
pub switch_finished : (p : PlacedParts) → IsPlaced p → ((d : DraftParts) → draft_at p.graph.statements p.unfinished ≡ Some d → d.kind ≡ Switch) → IsControlled (layout_of p) p.graph p.unfinished → IsPlaced (finished p)
switch_finished p is switch c = finished_placed p is
    (λ d h k. c)
    (λ n d h named. let none : None ≡ Some n = sym (ap back_named (switch d h)) ∙ named in cc)

-- where each statement is finished, what holds for each layout holds
pub determinate_of : {E : Type 0} (r : Result BlockParts E) (p : PlacedParts) → IsPlaced p → p.unfinished ≡ 0 → IfOk r (λ b. (y : Layout) → IsScoped y p.graph → IsDeterminateBlock b) → IfOk r (λ b. IsDeterminateBlock b)
determinate_of (Ok b) p is e h = h (layout_of p) (is_scoped p is e)
determinate_of (Err f) p is e h = h

-- and so does what holds for each layout of a graph each port of which is linked
pub kept_of : {E : Type 0} (r : Result BlockParts E) (p : PlacedParts) → IsPlaced p → p.unfinished ≡ 0 → EachIsFull p.graph → IfOk r (λ b. (y : Layout) → IsScoped y p.graph → EachIsFull p.graph → IsOrderly p.graph.statements p.graph.links → KeepsItself b) → IfOk r (λ b. KeepsItself b)
kept_of (Ok b) p is e full h = h (layout_of p) (is_scoped p is e) full is.orderly
kept_of (Err f) p is e full h = h

-- the graph changed, or it did not
pub either_placed : {T E : Type 0} (r : Result T E) (p : PlacedParts) (g h : GraphParts) → IsPlaced p → IsPlaced (record p { graph = g }) → MatchResult r (λ _. h ≡ g) (λ _. h ≡ p.graph) → IsPlaced (record p { graph = h })
either_placed (Ok x) p g h is well e = subst (λ (v : GraphParts). IsPlaced (record p { graph = v })) (sym e) well
either_placed (Err f) p g h is well e = subst (λ (v : GraphParts). IsPlaced (record p { graph = v })) (sym e) is

-- a `next` of an `enter` is the first statement, or one of the others
pub next_first : (d : DraftParts) (ds : List DraftParts) (n : ℕ) → d.kind ≡ Next → d.shares ≡ n → HasNext (d ∷ ds) n
next_first d ds n k e = (1, d, refl, k, e)

pub next_more : (d : DraftParts) (ds : List DraftParts) (n : ℕ) → HasNext ds n → HasNext (d ∷ ds) n
next_more d ds n (zero, e, at, k, s) = cc
next_more d ds n (suc m, e, at, k, s) = (suc (suc m), e, at, k, s)

pub goes_more : (d : DraftParts) (ds all : List DraftParts) → (enters d.kind ≡ true → HasNext all d.shares) → EachGoesOn ds all → EachGoesOn (d ∷ ds) all
goes_more d ds all h rest zero e at k = cc
goes_more d ds all h rest (suc zero) e at k =
    let q : d ≡ e = cc in
    subst (λ (v : DraftParts). enters v.kind ≡ true → HasNext all v.shares) q h k
goes_more d ds all h rest (suc (suc n)) e at k = rest (suc n) e at k

pub goes_none : (all : List DraftParts) → EachGoesOn [] all
goes_none all zero e at k = cc
goes_none all (suc n) e at k = cc

-- what holds anyway holds of the value, if there is one
pub always_ok : {T E : Type 0} (r : Result T E) (P : Type 0) → P → IfOk r (λ _. P)
always_ok (Ok x) P h = h
always_ok (Err f) P h = tt

pub linked_more : (ls : List Link) (n p : ℕ) → ((q : ℕ) → 1 ≤ q → q < p → IsLinked ls n q) → IsLinked ls n p → (q : ℕ) → 1 ≤ q → q < p + 1 → IsLinked ls n q
linked_more ls n p all one q low high = elim (same_or_not q p) [
  | inl e ↦ subst (IsLinked ls n) (sym e) one
  | inr o ↦ all q low (less q p (omega (arith, high)) o)
]

-- the statement with the number of the last one is full
pub last_full : (g : GraphParts) (ds : List DraftParts) (ls : List Link) (n : ℕ) (d : DraftParts) → ds ≡ g.statements → ls ≡ g.links → n ≡ length g.statements → Some d ≡ draft_at ds n → IsFull ls n d → IsLastFull g
last_full g ds ls n d p q r stands full e at =
    let same : draft_at ds n ≡ Some e = ap (λ (v : List DraftParts). draft_at v n) p ∙ (ap (draft_at g.statements) r ∙ at) in
    let one : d ≡ e = (let s = stands ∙ same in cc) in
    subst (λ (v : List Link). IsFull v (length g.statements) e) q
    (subst (λ (m : ℕ). IsFull ls m e) r
    (subst (λ (v : DraftParts). IsFull ls n v) one full))

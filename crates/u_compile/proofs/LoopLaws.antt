-- Loops that begin and end step by step.
use Rattle.std.proofs.Common.{◌≡◌, ℕ, zero, suc, ◌+◌, ◌≤◌, refl, sym, ap, ◌∙◌, subst, arith, add-one, List, [], ◌∷◌, ◌++◌, length, take, drop, Option, Some, None, append_assoc, pos}
use Rattle.std.specs.Prelude.{slice_get}
use Rattle.std.proofs.lemmas.List.{append-nil}
use Rattle.u_compile.specs.declared.lowering.Start.{Start}
use Rattle.u_compile.specs.declared.tree.Tree.{Tree}
use Rattle.u_compile.specs.Trees.{IsParent}
use Rattle.u_compile.specs.Operands.{LoweringParts, GoesOn}
use Rattle.u_program.specs.declared.program.Constant.TheVariants.{Int}
use Rattle.u_program.specs.declared.program.Kind.TheVariants.{Binary}
use Rattle.u_value.specs.declared.operators.BinaryOperator.TheVariants.{Add}
use Rattle.u_compile.specs.declared.drawing.Scope.{Scope}
use Rattle.u_compile.specs.Drawings.{DrawingParts, Gives, SetsNext}
use Rattle.u_compile.specs.Namings.{KnownParts, IsNamed, HasConstant}
use Rattle.u_compile.specs.Definitions.{with_names}
use Rattle.u_compile.specs.Sides.{IsFramePopped, in_scope, with_frames}
use Rattle.u_compile.specs.declared.lowering.Frame.TheVariants as frames
use Rattle.u_compile.specs.Loops.{AddsTurns, BindsLimit, CarriesStart, CarriesEach, CarriesVariables, CountsOn, IsClock, OpensLoop, OpensTurns, TestsLimit, none, one_more, some_turns}

-- so far the loop carries some of the variables behind so many others, and those from that number on are ahead
pub record CarriesSo (turn waiting number : ℕ) (l m : LoweringParts) : Type 0 where
  pub done : List Start
  pub whole : drop waiting l.starts ≡ done ++ drop number l.starts
  pub each : CarriesEach turn l done m
  pub same : m.starts ≡ l.starts

pub carries_none : (turn waiting : ℕ) (l : LoweringParts) → CarriesSo turn waiting waiting l l
carries_none turn waiting l = record { done = []; whole = refl; each = none; same = refl }

pub drop_one : {A : Type 0} (xs : List A) (n : ℕ) (x : A) → slice_get xs n ≡ Some x → drop n xs ≡ x ∷ drop (suc n) xs
drop_one [] n x e = cc
drop_one (y ∷ xs) zero x e = cc
drop_one (y ∷ xs) (suc n) x e = drop_one xs n x e

pub carries_more : (turn waiting number : ℕ) (l m n : LoweringParts) (s : Start) → CarriesSo turn waiting number l m → slice_get m.starts number ≡ Some s → CarriesStart turn s m n → CarriesSo turn waiting (number + 1) l n
carries_more turn waiting number l m n s so is carries =
    let at : slice_get l.starts number ≡ Some s = subst (λ (ss : List Start). slice_get ss number ≡ Some s) so.same is in
    let next : drop number l.starts ≡ s ∷ drop (number + 1) l.starts = rw add-one (drop_one l.starts number s at) in
    record {
      done = so.done ++ (s ∷ []);
      whole = so.whole ∙ (ap (λ (ss : List Start). so.done ++ ss) next ∙ sym (append_assoc so.done (s ∷ []) (drop (number + 1) l.starts)));
      each = one_more so.done s m n so.each carries;
      same = ap (λ (x : LoweringParts). x.starts) carries.rest ∙ so.same;
    }

drop_all : {A : Type 0} (xs : List A) (n : ℕ) → length xs ≤ n → drop n xs ≡ []
drop_all [] zero h = refl
drop_all [] (suc n) h = refl
drop_all (x ∷ xs) zero h = absurd (omega arith)
drop_all (x ∷ xs) (suc n) h = drop_all xs n (omega arith)

pub carries_all : (turn waiting number : ℕ) (l m : LoweringParts) → CarriesSo turn waiting number l m → length l.starts ≤ number → CarriesEach turn l (drop waiting l.starts) m
carries_all turn waiting number l m so h =
    let all : drop waiting l.starts ≡ so.done = so.whole ∙ (ap (λ (ss : List Start). so.done ++ ss) (drop_all l.starts number h) ∙ append-nil so.done) in
    subst (λ (ss : List Start). CarriesEach turn l ss m) (sym all) so.each

-- the counter goes on
pub counts_on : (turn : ℕ) (l one both noted : LoweringParts) (turns : Scope) (added set : DrawingParts) (value step sum : ℕ) → slice_get l.drawing.scopes turn ≡ Some turns → GoesOn l one → IsNamed one.drawing l.scene.names.bindings l.scene.scope turns.clock value → GoesOn one both → HasConstant both.drawing one.scene.names one.scene.scope (Int (pos 1)) step → Gives both.drawing added (Binary Add) (value ∷ step ∷ []) sum → noted ≡ record both { drawing = added } → SetsNext turn turns.clock sum noted.drawing set → CountsOn turn l (record noted { drawing = set })
counts_on turn l one both noted turns added set value step sum is first named then constant gives same sets = record {
  turns = turns;
  is = is;
  one = one;
  value = value;
  goes_on = first;
  counts = named;
  both = both;
  step = step;
  goes_further = then;
  is_one = constant;
  added = added;
  sum = sum;
  gives = gives;
  sets = subst (λ (x : LoweringParts). SetsNext turn turns.clock sum x.drawing set) same sets;
  rest = ap (λ (x : LoweringParts). record x { drawing = set }) same;
}

-- what has begun stays while it is carried
pub each_starts : (turn : ℕ) (l m : LoweringParts) (ss : List Start) → CarriesEach turn l ss m → m.starts ≡ l.starts
each_starts turn l m ss none = refl
each_starts turn l m ss (one_more rest s k n each carries) = ap (λ (x : LoweringParts). x.starts) carries.rest ∙ each_starts turn l k rest each

pub carries_variables : (turn waiting : ℕ) (l carried : LoweringParts) (k : KnownParts) (ss : List Start) → CarriesEach turn l (drop waiting l.starts) carried → k ≡ carried.scene.names → ss ≡ take waiting carried.starts → CarriesVariables turn waiting l (record (with_names carried k) { starts = ss })
carries_variables turn waiting l carried k ss each same taken = record {
  carried = carried;
  each = each;
  rest = ap (λ (x : KnownParts). record (with_names carried x) { starts = ss }) same ∙ ap (λ (xs : List Start). record carried { starts = xs }) (taken ∙ ap (λ (xs : List Start). take waiting xs) (each_starts turn l carried (drop waiting l.starts) each));
}

-- the variables of a loop have begun
pub opens_loop : (node whole waiting clock turn : ℕ) (limit : Option ℕ) (l ended bound turned carried tested m : LoweringParts) → IsFramePopped l ended (frames.Begun waiting limit) → IsParent ended.scene.tree whole node → IsClock ended.scene.tree (drop waiting ended.starts) node whole clock → BindsLimit node limit ended bound → OpensTurns bound turned bound.scene.scope clock turn → CarriesVariables turn waiting turned carried → TestsLimit turn clock node limit (in_scope carried turn) tested → m ≡ with_frames tested (tested.frames ++ (frames.Test (some_turns bound.scene.scope turn) ∷ [])) → OpensLoop node l m
opens_loop node whole waiting clock turn limit l ended bound turned carried tested m frame parent is binds opens carries tests same =
    let first : ended.scene.scope ≡ l.scene.scope = ap (λ (x : LoweringParts). x.scene.scope) frame.1 in
    let scope : bound.scene.scope ≡ l.scene.scope = bound_scope node limit ended bound binds ∙ first in
    record {
      waiting = waiting;
      limit = limit;
      ended = ended;
      frame = frame;
      whole = whole;
      parent = subst (λ (t : Tree). IsParent t whole node) (ap (λ (x : LoweringParts). x.scene.tree) frame.1) parent;
      clock = clock;
      is_clock = subst (λ (ss : List Start). IsClock l.scene.tree (drop waiting ss) node whole clock) (ap (λ (x : LoweringParts). x.starts) frame.1) (subst (λ (t : Tree). IsClock t (drop waiting ended.starts) node whole clock) (ap (λ (x : LoweringParts). x.scene.tree) frame.1) is);
      bound = bound;
      binds = binds;
      turn = turn;
      turned = turned.drawing;
      turns = subst (λ (s : ℕ). AddsTurns s clock bound.drawing turned.drawing turn) scope opens.turns;
      carried = carried;
      carries = subst (λ (x : LoweringParts). CarriesVariables turn waiting x carried) opens.rest carries;
      tested = tested;
      tests = tests;
      rest = same ∙ ap (λ (s : ℕ). with_frames tested (tested.frames ++ (frames.Test (some_turns s turn) ∷ []))) scope;
    }
  where
    bound_scope : (node : ℕ) (limit : Option ℕ) (a b : LoweringParts) → BindsLimit node limit a b → b.scene.scope ≡ a.scene.scope
    bound_scope node (Some x) a b h = ap (λ (y : LoweringParts). y.scene.scope) h
    bound_scope node None a b h = ap (λ (y : LoweringParts). y.scene.scope) h

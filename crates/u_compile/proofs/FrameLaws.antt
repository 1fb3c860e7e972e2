-- What has begun and not ended at a node of a procedure: of each `if`, where it began, and with which values its sides ended.
use Rattle.std.proofs.Common.{◌≡◌, ℕ, ◌+◌, ◌≤◌, arith, inl, inr, refl, sym, ap, ◌∙◌, subst, Bool, true, false, List, [], ◌∷◌, ◌++◌, length, Some, None}
use Rattle.std.proofs.lemmas.Bool.{false≢true}
use Rattle.std.specs.Prelude.{slice_get}
use Rattle.u_program.specs.Parts.{BlockParts}
use Rattle.u_program.specs.declared.program.Kind.TheVariants.{Pass}
use Rattle.u_source.specs.declared.form.Form.{Form}
use Rattle.u_source.specs.declared.form.Form.TheVariants as forms
use Rattle.u_compile.specs.declared.drawing.Scope.{Scope}
use Rattle.u_compile.specs.declared.drawing.Way.TheVariants.{Side}
use Rattle.u_compile.specs.declared.graph.Output.{Output}
use Rattle.u_compile.specs.declared.lowering.Frame.{Frame}
use Rattle.u_compile.specs.declared.lowering.Frame.TheVariants as frames
use Rattle.u_compile.specs.declared.lowering.Operand.{Operand}
use Rattle.u_compile.specs.declared.lowering.Operand.TheVariants.{Value}
use Rattle.u_compile.specs.declared.lowering.Sides.{Sides}
use Rattle.u_compile.specs.declared.lowering.Turns.{Turns}
use Rattle.u_compile.specs.declared.tree.Tree.{Tree}
use Rattle.u_compile.specs.Scoped.{IsOf}
use Rattle.u_compile.specs.Trees.{HasForm, IsParent, IsWanted}
use Rattle.u_compile.specs.Drawings.{DrawingParts, Chooses}
use Rattle.u_compile.specs.Operands.{SceneParts, LoweringParts, AreOperands, Pops, Operates}
use Rattle.u_compile.specs.Definitions.{TakesParameter}
use Rattle.u_compile.specs.Sides.{Selects, AddsSide, IsLastFrame, IsFramePopped, OpensIf, OpensElse, IsSidePopped, LeavesSide, ClosesSide, ClosesElse, ClosesSides, ClosesIf, some_sides, on_other, noted}
use Rattle.u_compile.specs.Turns.{OpensTurn, ClosesTurn, ClosesTurns}
use Rattle.u_compile.specs.Loops.{TakesNext, StartsVariable, OpensVariables, OpensLoop, Counts, ClosesVariable, ClosesEach, ClosesLoop, EndsLoop, some_turns}
use Rattle.u_compile.specs.Bodies.{Opens, OpensBlock, Closes, ClosesBlock}
use Rattle.u_compile.specs.Steps.{IsItem, IsWhole}
use Rattle.u_compile.specs.Walks.{IsDone, item, whole, is_item, GoesThrough, IsMadeOfNodes}
use Rattle.u_compile.specs.Uses.{Passes, Moment, WaitsLast, IsInside, Tells, HasBegunIf, HasEndedSide, HasChoice, HasSides, Chosen, BeginsElse, IsJoined, EndsIf, side_end}
use Rattle.u_compile.proofs.DrawingLaws.{get_last}
use Rattle.u_compile.proofs.CarriedLaws.{none_noted, some_noted}
use Rattle.u_compile.proofs.GateLaws.{of_append, of_last}
use Rattle.u_compile.proofs.TreeLaws.{wanted_one}
use Rattle.u_compile.proofs.ExtendLaws.{Extends, extends_grown, extends_then, value_extends, stands_extends, fed_extends, inside_extends, of_more}
use Rattle.u_compile.proofs.FollowLaws.{Follows, plain_then, side_grows, chooses_grow}
use Rattle.u_compile.proofs.StillLaws.{goes_still, popped_still, pops_still, pushes_still, operates_still, item_still, parameter_still, variable_still, loop_still, limit_still, each_still, test_still, sides_still}
use Rattle.u_compile.proofs.WalkLaws.{through_within}
use Rattle.u_compile.proofs.BoundLaws.{moment, passes_more, Known, from_operand, known_at, ending, tree_at, passes_follow}

-- What has begun, where something begins or ends.
-- at an item nothing begins and nothing ends
next_stays : (l m : LoweringParts) → TakesNext l m → m.frames ≡ l.frames
next_stays l m t = ap (λ (y : LoweringParts). y.frames) t.rest ∙ ((popped_still t.taken t.named _ t.name.taken).frames ∙ (pops_still l t.taken _ t.pops).frames)

item_stays : (f : Form) (n : ℕ) (l m : LoweringParts) → IsItem f n l m → is_item f ≡ true → m.frames ≡ l.frames
item_stays forms.Next n l m h e = next_stays l m h
item_stays f n l m h e = (item_still f n l m h e (λ q. cc)).frames

pub opening_stays : (n : ℕ) (l m : LoweringParts) (o : OpensLoop n l m) → m.frames ≡ o.ended.frames ++ (frames.Test (some_turns l.scene.scope o.turn) ∷ [])
opening_stays n l m o =
    let carried = ap (λ (y : LoweringParts). y.frames) o.carries.rest ∙ (each_still o.turn _ _ o.carries.carried o.carries.each).frames in
    let tested = (test_still o.turn o.clock n o.limit _ o.tested o.tests).frames ∙ (carried ∙ (limit_still n o.limit o.ended o.bound o.binds).frames) in
    ap (λ (y : LoweringParts). y.frames) o.rest ∙ ap (λ (fs : List Frame). fs ++ (frames.Test (some_turns l.scene.scope o.turn) ∷ [])) tested

-- and where its block ends
counts_stay : (turn w : ℕ) (l m : LoweringParts) → Counts turn w l m → m.frames ≡ l.frames
counts_stay turn w l m (Counts.not never same) = ap (λ (y : LoweringParts). y.frames) same
counts_stay turn w l m (Counts.on is c) = ap (λ (y : LoweringParts). y.frames) c.rest ∙ ((goes_still c.one c.both c.goes_further).frames ∙ (goes_still l c.one c.goes_on).frames)

turn_stays : (turn block number : ℕ) (l m : LoweringParts) → ClosesTurn turn block number l m → m.frames ≡ l.frames
turn_stays turn block number l m (ClosesTurn.other c is never same) = ap (λ (y : LoweringParts). y.frames) same
turn_stays turn block number l m (ClosesTurn.given c v is of next goes) = ap (λ (y : LoweringParts). y.frames) goes.rest
turn_stays turn block number l m (ClosesTurn.kept c v between is of next on named goes) = ap (λ (y : LoweringParts). y.frames) goes.rest ∙ (goes_still l between on).frames

turns_stay : (turn block : ℕ) (l : LoweringParts) (n : ℕ) (m : LoweringParts) → ClosesTurns turn block l n m → m.frames ≡ l.frames
turns_stay turn block l n m ClosesTurns.none = refl
turns_stay turn block l n m (ClosesTurns.one_more number k x before closes) = turn_stays turn block number k m closes ∙ turns_stay turn block l number k before

closing_stays : (turns : Turns) (end block w number : ℕ) (l m : LoweringParts) → ClosesVariable turns end block w number l m → m.frames ≡ l.frames
closing_stays turns end block w number l m (ClosesVariable.other c is never same) = ap (λ (y : LoweringParts). y.frames) same
closing_stays turns end block w number l m (ClosesVariable.kept c is of never same) = ap (λ (y : LoweringParts). y.frames) same
closing_stays turns end block w number l m (ClosesVariable.given c between value last is of given goes named leaves same) = ap (λ (y : LoweringParts). y.frames) same ∙ (goes_still l between goes).frames

closings_stay : (turns : Turns) (end block w : ℕ) (l : LoweringParts) (n : ℕ) (m : LoweringParts) → ClosesEach turns end block w l n m → m.frames ≡ l.frames
closings_stay turns end block w l n m ClosesEach.none = refl
closings_stay turns end block w l n m (ClosesEach.one_more number k x before closes) = closing_stays turns end block w number k m closes ∙ closings_stay turns end block w l number k before

pub ending_stays : (n w : ℕ) (l m : LoweringParts) (c : ClosesLoop n w l m) → m.frames ≡ c.ended.frames
ending_stays n w l m c = ap (λ (y : LoweringParts). y.frames) c.rest ∙ (closings_stay c.turns _ _ _ _ _ c.left c.variables.each ∙ (turns_stay _ _ c.counted _ c.closed c.turn ∙ counts_stay _ _ c.ended c.counted c.counts))

-- where an `if` ends
if_stays : (n : ℕ) (l m : LoweringParts) → ClosesIf n l m → (fs : List Frame) × (f : Frame) × (l.frames ≡ fs ++ (f ∷ [])) × (m.frames ≡ fs)
if_stays n l m (ClosesIf.choice control ended popped s) = (ended.frames, frames.Choice control n, popped.0, (pushes_still s.taken m _ _ s.pushes).frames ∙ (pops_still ended s.taken _ s.pops).frames)
if_stays n l m (ClosesIf.sides s ended popped of closes) = (ended.frames, frames.Sides s, popped.0, (sides_still s ended m closes).frames)

no_end : {A : Type 0} (ys : List A) (y : A) → [] ≡ ys ++ (y ∷ []) → ⊥
no_end [] y e = cc
no_end (z ∷ ys) y e = cc

-- what is last in a list
pub one_end : {A : Type 0} (xs ys : List A) (x y : A) → xs ++ (x ∷ []) ≡ ys ++ (y ∷ []) → x ≡ y
one_end [] [] x y e = cc
one_end [] (z ∷ ys) x y e = absurd (no_end ys y (let f : [] ≡ ys ++ (y ∷ []) = cc in f))
one_end (z ∷ xs) [] x y e = absurd (no_end xs x (let f : [] ≡ xs ++ (x ∷ []) = cc in f))
one_end (z ∷ xs) (w ∷ ys) x y e = one_end xs ys x y (let f : xs ++ (x ∷ []) ≡ ys ++ (y ∷ []) = cc in f)

-- the one operand that is taken
pub one_taken : (l b : LoweringParts) (d : DrawingParts) (v : ℕ) (os : List Operand) → l.operands ≡ b.operands ++ os → AreOperands l.scene d os (v ∷ []) → (o : Operand) × WaitsLast l o × AreOperands l.scene d (o ∷ []) (v ∷ [])
one_taken l b d v [] were are = absurd are
one_taken l b d v (o ∷ []) were are = (o, (b.operands, were), are)
one_taken l b d v (o ∷ (p ∷ os)) were are = absurd are.1

-- what chooses a side still does
pub tells_later : (c d e : DrawingParts) → Extends d e → (v : ℕ) (o : Output) → Chooses c d v o → Tells e v o
tells_later c d e g v o (Chooses.own same is) = Tells.own (value_extends d e g v (o ∷ []) (subst (λ (y : DrawingParts). slice_get y.values v ≡ Some (o ∷ [])) (sym same) is.0))
tells_later c d e g v o (Chooses.pass none adds is) =
    let n = length c.statements + 1 in
    Tells.pass n (stands_extends d e g n Pass adds.stands) (fed_extends d e g n 1 v (omega (arith, adds.one)) adds.fed.0) is

-- and the side is there
pub side_later : (d c e : DrawingParts) (around : ℕ) (o : Output) (b : Bool) (s : ℕ) → AddsSide d c around o b s → Extends c e → IsInside e.scopes around (Side o b) s
side_later d c e around o b s a g =
    let new : Scope = record { region = a.outer.region; around = around; way = Side o b; clock = a.outer.clock } in
    let at : slice_get c.scopes s ≡ Some new = ap (λ (y : DrawingParts). slice_get y.scopes s) a.adds ∙ (ap (λ (k : ℕ). slice_get (d.scopes ++ (new ∷ [])) k) a.number ∙ get_last d.scopes new) in
    inside_extends c e g around (Side o b) s (new, at, refl, refl)

-- what is known of what has begun
abbrev pub Framed : Moment → Frame → Type 0
Framed x (frames.Choice control w) = HasChoice x w control
Framed x (frames.Sides s) = HasSides x s
Framed x f = Unit {0}

abbrev pub AllFramed : Moment → Type 0
AllFramed x = (f : Frame) → IsOf x.at.frames f → Framed x f

-- behind the node
abbrev pub behind : Moment → LoweringParts → Moment
behind x m = record x { node = x.node + 1; at = m }

-- One node more is passed.
module _ (x : Moment) (known : Known x) (reached : GoesThrough x.first x.begun x.node x.at) (m : LoweringParts) (done : IsDone x.node x.at m) (f : Follows m x.whole) where
  here : Passes x.first x.begun x.node x.at m (x.node + 1) m
  here = record { reached = reached; done = done; on = GoesThrough.none }

  abbrev begun_later : (w v : ℕ) → HasBegunIf x w v → HasBegunIf (behind x m) w v
  begun_later w v h = record {
    node = h.node;
    at = h.at;
    next = h.next;
    passes = passes_more x.first x.begun h.node h.at h.next x.node x.at m done h.passes;
    items = h.items;
    block = h.block;
    around = h.around;
    parent = h.parent;
    of = h.of;
    operand = h.operand;
    waits = h.waits;
    from = h.from;
  }

  ended_later : (w around : ℕ) (control : Output) (on : Bool) (v : ℕ) → HasEndedSide x w around control on v → HasEndedSide (behind x m) w around control on v
  ended_later w around control on v h = record {
    node = h.node;
    at = h.at;
    next = h.next;
    passes = passes_more x.first x.begun h.node h.at h.next x.node x.at m done h.passes;
    is = h.is;
    parent = h.parent;
    inside = h.inside;
    operand = h.operand;
    waits = h.waits;
    from = h.from;
  }

  sides_later : (s : Sides) → HasSides x s → HasSides (behind x m) s
  sides_later s h = record {
    value = h.value;
    begun = begun_later s.whole h.value h.begun;
    needs = h.needs;
    scope = h.scope;
    tells = h.tells;
    inside = h.inside;
    first = λ v e. ended_later s.whole s.around s.control true v (h.first v e);
    other = λ v e. ended_later s.whole s.around s.control false v (h.other v e);
  }

  framed_later : (g : Frame) → Framed x g → Framed (behind x m) g
  framed_later (frames.Choice control w) h = record { begun = begun_later w control h.begun; select = h.select }
  framed_later (frames.Sides s) h = sides_later s h
  framed_later g h = tt

  -- what was there is there, or a part of it
  part_framed : m.frames ≡ x.at.frames → AllFramed x → AllFramed (behind x m)
  part_framed same all g h = framed_later g (all g (subst (λ (fs : List Frame). IsOf fs g) same h))

  less_framed : (fs : List Frame) (g : Frame) → x.at.frames ≡ fs ++ (g ∷ []) → m.frames ≡ fs → AllFramed x → AllFramed (behind x m)
  less_framed fs g was same all e h = framed_later e (all e (subst (λ (es : List Frame). IsOf es e) (sym was) (of_more fs (g ∷ []) e (subst (λ (es : List Frame). IsOf es e) same h))))

  -- and one comes behind that
  more_framed : (fs : List Frame) (g : Frame) → ((e : Frame) → IsOf fs e → IsOf x.at.frames e) → m.frames ≡ fs ++ (g ∷ []) → Framed (behind x m) g → AllFramed x → AllFramed (behind x m)
  more_framed fs g was same is all e h = elim (of_append fs (g ∷ []) e (subst (λ (es : List Frame). IsOf es e) same h)) [ inl i ↦ framed_later e (all e (was e i)) | inr i ↦ last i ]
    where
      last : IsOf (g ∷ []) e → Framed (behind x m) e
      last (inl q) = subst (λ (y : Frame). Framed (behind x m) y) q is
      last (inr q) = absurd q

  same_was : (fs : List Frame) → fs ≡ x.at.frames → (e : Frame) → IsOf fs e → IsOf x.at.frames e
  same_was fs same e h = subst (λ (es : List Frame). IsOf es e) same h

  less_was : (fs : List Frame) (g : Frame) → x.at.frames ≡ fs ++ (g ∷ []) → (e : Frame) → IsOf fs e → IsOf x.at.frames e
  less_was fs g was e h = subst (λ (es : List Frame). IsOf es e) (sym was) (of_more fs (g ∷ []) e h)

  changed_framed : (fs : List Frame) (g e : Frame) → x.at.frames ≡ fs ++ (g ∷ []) → m.frames ≡ fs ++ (e ∷ []) → (Framed x g → Framed (behind x m) e) → AllFramed x → AllFramed (behind x m)
  changed_framed fs g e was same is all = more_framed fs e (less_was fs g was) same (is (all g (subst (λ (es : List Frame). IsOf es g) (sym was) (of_last fs g)))) all

  -- an `if` begins
  abbrev begun_here : (h : OpensBlock x.node x.at m) → HasForm x.at.scene.tree x.node forms.NoItems → h.form ≡ forms.If → (b : LoweringParts) (v : ℕ) → Pops x.at b (v ∷ []) → Extends b.drawing x.whole.drawing → HasBegunIf (behind x m) h.whole v
  begun_here h items form b v pops g =
      let o = one_taken x.at b b.drawing v pops.operands pops.were pops.are in
      record {
        node = x.node;
        at = x.at;
        next = m;
        passes = here;
        items = items;
        block = h.block;
        around = h.around;
        parent = h.parent;
        of = subst (λ (g : Form). HasForm x.at.scene.tree h.whole g) form h.of;
        operand = o.0;
        waits = o.1;
        from = from_operand x known b.drawing g o.0 v o.2.0;
      }

  if_framed : (h : OpensBlock x.node x.at m) → HasForm x.at.scene.tree x.node forms.NoItems → h.form ≡ forms.If → OpensIf x.node h.whole x.at m → AllFramed x → AllFramed (behind x m)
  if_framed h items form (OpensIf.choice may taken v pops same) =
      let g : Extends taken.drawing x.whole.drawing = subst (λ (d : DrawingParts). Extends d x.whole.drawing) (ap (λ (y : LoweringParts). y.drawing) same) f.extends in
      more_framed taken.frames (frames.Choice v h.whole) (same_was taken.frames ((pops_still x.at taken _ pops).frames)) (ap (λ (y : LoweringParts). y.frames) same) (record { begun = begun_here h items form taken v pops g; select = may })
  if_framed h items form (OpensIf.sides never taken v pops o) =
      let d = taken.drawing in
      let c = o.chosen in
      let on_to = extends_then c m.drawing x.whole.drawing (extends_grown c m.drawing (side_grows c m.drawing taken.scene.scope o.control true o.side o.adds)) f.extends in
      let g = extends_then d c x.whole.drawing (extends_grown d c (chooses_grow d c v o.control o.chooses)) on_to in
      let s = some_sides h.whole o.control taken.scene.scope o.side in
      let sides : HasSides (behind x m) s = record {
        value = v;
        begun = begun_here h items form taken v pops g;
        needs = never;
        scope = sym (ap (λ (y : LoweringParts). y.scene.scope) pops.goes_on.rest);
        tells = tells_later d c x.whole.drawing on_to v o.control o.chooses;
        inside = side_later c m.drawing x.whole.drawing taken.scene.scope o.control true o.side o.adds f.extends;
        first = λ u q. absurd (none_noted u q);
        other = λ u q. absurd (none_noted u q);
      } in
      more_framed taken.frames (frames.Sides s) (same_was taken.frames ((pops_still x.at taken _ pops).frames)) (ap (λ (y : LoweringParts). y.frames) o.rest) sides

  turn_framed : OpensTurn x.at m → AllFramed x → AllFramed (behind x m)
  turn_framed o = changed_framed o.ended.frames (frames.Test o.turns) (frames.Block o.turns o.enters.control o.enters.side) o.frame.0 (ap (λ (y : LoweringParts). y.frames) o.enters.rest ∙ ap (λ (fs : List Frame). fs ++ (frames.Block o.turns o.enters.control o.enters.side ∷ [])) ((pops_still o.ended o.taken _ o.pops).frames)) (λ h. tt)

  opens_framed : (h : OpensBlock x.node x.at m) (g : Form) → h.form ≡ g → Opens g x.node h.whole x.at m → HasForm x.at.scene.tree x.node forms.NoItems → AllFramed x → AllFramed (behind x m)
  opens_framed h forms.If form opens items = if_framed h items form opens
  opens_framed h forms.Loop form opens items = turn_framed opens
  opens_framed h forms.For form opens items = turn_framed opens
  opens_framed h g form opens items = part_framed (ap (λ (y : LoweringParts). y.frames) opens)

  -- its other side is entered
  else_framed : OpensElse x.at m → AllFramed x → AllFramed (behind x m)
  else_framed (OpensElse.choice control w last same) = part_framed (ap (λ (y : LoweringParts). y.frames) same)
  else_framed (OpensElse.sides o) = changed_framed o.ended.frames (frames.Sides o.sides) (frames.Sides (on_other o.sides o.side)) o.popped.0 (ap (λ (y : LoweringParts). y.frames) o.rest) entered
    where
      entered : HasSides x o.sides → HasSides (behind x m) (on_other o.sides o.side)
      entered h = record {
        value = h.value;
        begun = begun_later o.sides.whole h.value h.begun;
        needs = h.needs;
        scope = h.scope;
        tells = h.tells;
        inside = side_later o.ended.drawing m.drawing x.whole.drawing o.sides.around o.sides.control false o.side o.adds f.extends;
        first = λ v e. ended_later o.sides.whole o.sides.around o.sides.control true v (h.first v e);
        other = λ v e. ended_later o.sides.whole o.sides.around o.sides.control false v (h.other v e);
      }

  -- a side ends
  ended_here : (w : ℕ) (on : Bool) (s : Sides) (ended taken : LoweringParts) (v : ℕ) → HasForm x.at.scene.tree x.node (side_end on) → IsParent x.at.scene.tree w x.node → IsSidePopped w on x.at ended s → Pops ended taken (v ∷ []) → Extends taken.drawing x.whole.drawing → HasSides x s → HasEndedSide (behind x m) s.whole s.around s.control on v
  ended_here w on s ended taken v form parent popped pops g h =
      let scene : ended.scene ≡ x.at.scene = ap (λ (y : LoweringParts). y.scene) popped.popped.1 in
      let were : x.at.operands ≡ taken.operands ++ pops.operands = sym (ap (λ (y : LoweringParts). y.operands) popped.popped.1) ∙ pops.were in
      let are : AreOperands x.at.scene taken.drawing pops.operands (v ∷ []) = subst (λ (y : SceneParts). AreOperands y taken.drawing pops.operands (v ∷ [])) scene pops.are in
      let o = one_taken x.at taken taken.drawing v pops.operands were are in
      record {
        node = x.node;
        at = x.at;
        next = m;
        passes = here;
        is = form;
        parent = subst (λ (k : ℕ). IsParent x.at.scene.tree k x.node) (sym popped.of) parent;
        inside = subst (λ (k : ℕ). IsInside x.whole.drawing.scopes s.around (Side s.control on) k) popped.within (subst (λ (b : Bool). IsInside x.whole.drawing.scopes s.around (Side s.control b) s.side) popped.last h.inside);
        operand = o.0;
        waits = o.1;
        from = from_operand x known taken.drawing g o.0 v o.2.0;
      }

  noted_here : (on : Bool) (s : Sides) (v : ℕ) → HasEndedSide (behind x m) s.whole s.around s.control on v → HasSides x s → HasSides (behind x m) (noted on v s)
  noted_here true s v e h = record {
    value = h.value;
    begun = begun_later s.whole h.value h.begun;
    needs = h.needs;
    scope = h.scope;
    tells = h.tells;
    inside = h.inside;
    first = λ u q. subst (λ (k : ℕ). HasEndedSide (behind x m) s.whole s.around s.control true k) (some_noted v u q) e;
    other = λ u q. ended_later s.whole s.around s.control false u (h.other u q);
  }
  noted_here false s v e h = record {
    value = h.value;
    begun = begun_later s.whole h.value h.begun;
    needs = h.needs;
    scope = h.scope;
    tells = h.tells;
    inside = h.inside;
    first = λ u q. ended_later s.whole s.around s.control true u (h.first u q);
    other = λ u q. subst (λ (k : ℕ). HasEndedSide (behind x m) s.whole s.around s.control false k) (some_noted v u q) e;
  }

  side_framed : (w : ℕ) (on : Bool) → HasForm x.at.scene.tree x.node (side_end on) → IsParent x.at.scene.tree w x.node → ClosesSide w on x.at m → AllFramed x → AllFramed (behind x m)
  side_framed w on form parent (ClosesSide.choice last same) = part_framed (ap (λ (y : LoweringParts). y.frames) same)
  side_framed w on form parent (ClosesSide.sides s ended popped leaves) = left leaves
    where
      left : LeavesSide s on ended m → AllFramed x → AllFramed (behind x m)
      left (LeavesSide.unwanted is same) = changed_framed ended.frames (frames.Sides s) (frames.Sides s) popped.popped.0 (ap (λ (y : LoweringParts). y.frames) same) (sides_later s)
      left (LeavesSide.wanted is taken v pops same) =
          let n = frames.Sides (noted on v s) in
          let g : Extends taken.drawing x.whole.drawing = subst (λ (d : DrawingParts). Extends d x.whole.drawing) (ap (λ (y : LoweringParts). y.drawing) same) f.extends in
          let stack : m.frames ≡ ended.frames ++ (n ∷ []) = ap (λ (y : LoweringParts). y.frames) same ∙ ap (λ (fs : List Frame). fs ++ (n ∷ [])) ((pops_still ended taken _ pops).frames) in
          changed_framed ended.frames (frames.Sides s) n popped.popped.0 stack (λ h. noted_here on s v (ended_here w on s ended taken v form parent popped pops g h) h)

  closes_framed : (g : Form) (w : ℕ) → HasForm x.at.scene.tree x.node forms.Block → IsParent x.at.scene.tree w x.node → Closes g x.node w x.at m → AllFramed x → AllFramed (behind x m)
  closes_framed forms.If w form parent c = side_framed w true form parent c
  closes_framed forms.Loop w form parent c = less_framed c.ended.frames (frames.Block c.turns c.control c.block) c.frame.0 (ending_stays x.node w x.at m c)
  closes_framed forms.For w form parent c = less_framed c.ended.frames (frames.Block c.turns c.control c.block) c.frame.0 (ending_stays x.node w x.at m c)
  closes_framed g w form parent c = part_framed (ap (λ (y : LoweringParts). y.frames) c)

  -- the variables of a loop begin, and it does
  variables_framed : OpensVariables x.node x.at m → AllFramed x → AllFramed (behind x m)
  variables_framed (OpensVariables.counting w around is b) =
      let n = frames.Begun (length x.at.starts) (Some b.limit) in
      let still = ap (λ (y : LoweringParts). y.frames) b.starts.rest ∙ ((popped_still b.taken b.named _ b.name.1).frames ∙ (pops_still x.at b.taken _ b.pops).frames) in
      more_framed b.started.frames n (same_was b.started.frames still) (ap (λ (y : LoweringParts). y.frames) b.rest) tt
  variables_framed (OpensVariables.other w around never same) = more_framed x.at.frames (frames.Begun (length x.at.starts) None) (λ e h. h) (ap (λ (y : LoweringParts). y.frames) same) tt

  whole_framed : (g : Form) (k : LoweringParts) → HasForm x.at.scene.tree x.node g → Operates g x.at k → IsWhole g x.node k m → (g ≡ forms.NoParameters → ⊥) → (g ≡ forms.AddProcedure → ⊥) → AllFramed x → AllFramed (behind x m)
  whole_framed forms.NoItems k is o h a b = let c = subst (λ (y : LoweringParts). OpensBlock x.node y m) o h in opens_framed c c.form refl c.opens is
  whole_framed forms.Block k is o h a b = let c = subst (λ (y : LoweringParts). ClosesBlock x.node y m) o h in closes_framed c.form c.whole is c.parent c.closes
  whole_framed forms.Otherwise k is o h a b = else_framed (subst (λ (y : LoweringParts). OpensElse y m) o h)
  whole_framed forms.Else k is o h a b = let c = subst (λ (y : LoweringParts). ClosesElse x.node y m) o h in side_framed c.whole false is c.parent c.closes
  whole_framed forms.If k is o h a b = let c = if_stays x.node x.at m (subst (λ (y : LoweringParts). ClosesIf x.node y m) o h) in less_framed c.0 c.1 c.2 c.3
  whole_framed forms.NoVariables k is o h a b = variables_framed (subst (λ (y : LoweringParts). OpensVariables x.node y m) o h)
  whole_framed forms.AddVariable k is o h a b = part_framed (variable_still x.node x.at m (subst (λ (y : LoweringParts). StartsVariable x.node y m) o h)).frames
  whole_framed forms.Variables k is o h a b = let c = subst (λ (y : LoweringParts). OpensLoop x.node y m) o h in changed_framed c.ended.frames (frames.Begun c.waiting c.limit) (frames.Test (some_turns x.at.scene.scope c.turn)) c.frame.0 (opening_stays x.node x.at m c) (λ e. tt)
  whole_framed forms.Loop k is o h a b = part_framed (loop_still x.node x.at m (subst (λ (y : LoweringParts). EndsLoop x.node y m) o h)).frames
  whole_framed forms.For k is o h a b = part_framed (loop_still x.node x.at m (subst (λ (y : LoweringParts). EndsLoop x.node y m) o h)).frames
  whole_framed forms.AddParameter k is o h a b = part_framed (parameter_still x.at m x.node (subst (λ (y : LoweringParts). TakesParameter y m x.node) o h)).frames
  whole_framed forms.NoParameters k is o h a b = absurd (a refl)
  whole_framed forms.AddProcedure k is o h a b = absurd (b refl)
  whole_framed g k is o h a b = part_framed (ap (λ (y : LoweringParts). y.frames) h ∙ (operates_still g x.at k o).frames)

  done_framed : (HasForm x.at.scene.tree x.node forms.NoParameters → ⊥) × (HasForm x.at.scene.tree x.node forms.AddProcedure → ⊥) → AllFramed x → AllFramed (behind x m)
  done_framed never = by done
    where
      by : IsDone x.node x.at m → AllFramed x → AllFramed (behind x m)
      by (item g is items h) = part_framed (item_stays g x.node x.at m h items)
      by (whole g k is other o h) = whole_framed g k is o h (λ q. never.0 (subst (λ (e : Form). HasForm x.at.scene.tree x.node e) q is)) (λ q. never.1 (subst (λ (e : Form). HasForm x.at.scene.tree x.node e) q is))

-- what is known of all that has begun and not ended, at each node of a procedure
module _ (t : Tree) (b : BlockParts) (p : IsMadeOfNodes t b) where
  pub all_framed : (n : ℕ) (k : LoweringParts) → GoesThrough p.first p.begun n k → n ≤ p.last → Follows k (ending t b p) → AllFramed (moment p.first p.begun n k (ending t b p))
  all_framed n k GoesThrough.none h f = λ g i. absurd (subst (λ (fs : List Frame). IsOf fs g) p.fresh.frames i)
  all_framed n k (GoesThrough.one_more node l m through done) h f =
      let step = (passes_follow t b p node l k (node + 1) k (record { reached = through; done = done; on = GoesThrough.none }) h).0 in
      let on_to = plain_then l k (ending t b p) step f in
      let known = known_at t b p node l through (omega (arith, h)) on_to in
      let tree = tree_at t b p node l through (omega (arith, h)) in
      let never = p.within node (omega (arith, h)) (through_within p.first p.begun node l through) in
      let x = moment p.first p.begun node l (ending t b p) in
      done_framed x known through k done f (λ q. never.0 (subst (λ (y : Tree). HasForm y node forms.NoParameters) tree q), λ q. never.1 (subst (λ (y : Tree). HasForm y node forms.AddProcedure) tree q)) (all_framed node l through (omega (arith, h)) on_to)

-- what is so where the other side of an `if` is entered, and where its sides end
last_framed : (x : Moment) → AllFramed x → (g : Frame) → IsLastFrame x.at g → Framed x g
last_framed x all g last = all g (subst (λ (fs : List Frame). IsOf fs g) (sym last.1) (of_last last.0 g))

pub has_choice : (x : Moment) → AllFramed x → (control w : ℕ) → IsLastFrame x.at (frames.Choice control w) → HasChoice x w control
has_choice x all control w last = last_framed x all (frames.Choice control w) last

module _ (x : Moment) (m : LoweringParts) (f : Follows m x.whole) (all : AllFramed x) where
  pub else_joins : OpensElse x.at m → BeginsElse x m
  else_joins (OpensElse.choice control w last same) = BeginsElse.choice control w last (has_choice x all control w last) same
  else_joins (OpensElse.sides o) =
      let s = o.sides in
      let last : IsLastFrame x.at (frames.Sides s) = (o.ended.frames, o.popped.0) in
      let scope : m.scene.scope ≡ o.side = ap (λ (y : LoweringParts). y.scene.scope) o.rest in
      BeginsElse.sides s last (record {
        sides = last_framed x all (frames.Sides s) last;
        inside = subst (λ (k : ℕ). IsInside x.whole.drawing.scopes s.around (Side s.control false) k) (sym scope) (side_later o.ended.drawing m.drawing x.whole.drawing s.around s.control false o.side o.adds f.extends);
      })

  joined : (s : Sides) (ended : LoweringParts) → IsFramePopped x.at ended (frames.Sides s) → s.whole ≡ x.node → HasSides x s → IsWanted x.at.scene.tree x.node true → ClosesSides s ended m → IsJoined x s m
  joined s ended popped of h wanted (ClosesSides.unwanted is keeps) =
      let tree : ended.scene.tree ≡ x.at.scene.tree = ap (λ (y : LoweringParts). y.scene.tree) popped.1 in
      absurd (false≢true (wanted_one x.at.scene.tree x.node false true (subst (λ (k : ℕ). IsWanted x.at.scene.tree k false) of (subst (λ (y : Tree). IsWanted y s.whole false) tree is)) wanted))
  joined s ended popped of h wanted (ClosesSides.wanted is k j keeps) =
      let c = j.joins.merges in
      let kept = extends_then k.drawing m.drawing x.whole.drawing (extends_grown k.drawing m.drawing keeps.grows) f.extends in
      let all_kept = extends_then ended.drawing k.drawing x.whole.drawing (extends_grown ended.drawing k.drawing c.grows) kept in
      record {
        sides = h;
        of = of;
        left = j.left;
        right = j.right;
        first = h.first j.left j.first;
        other = h.other j.right j.other;
        ones = c.ones;
        others = c.others;
        has_left = value_extends ended.drawing x.whole.drawing all_kept j.left c.ones c.has_left;
        has_right = value_extends ended.drawing x.whole.drawing all_kept j.right c.others c.has_right;
        value = j.joins.value;
        both = value_extends k.drawing x.whole.drawing kept j.joins.value (c.ones ++ c.others) c.both;
        waits = ap (λ (y : LoweringParts). y.operands) keeps.rest ∙ (ap (λ (y : LoweringParts). y.operands) j.joins.rest ∙ ap (λ (y : LoweringParts). y.operands ++ (Value j.joins.value ∷ [])) popped.1);
      }

  pub if_joins : ((control : ℕ) (ended : LoweringParts) → IsFramePopped x.at ended (frames.Choice control x.node) → Selects control ended m → (c : Chosen control x) × (m.operands ≡ c.selected.takes.before ++ (Value c.selected.value ∷ []))) → ClosesIf x.node x.at m → EndsIf x m
  if_joins chosen (ClosesIf.choice control ended popped selects) = let c = chosen control ended popped selects in EndsIf.choice control (ended.frames, popped.0) c.0 c.1
  if_joins chosen (ClosesIf.sides s ended popped of closes) =
      let has = last_framed x all (frames.Sides s) (ended.frames, popped.0) in
      EndsIf.sides s (ended.frames, popped.0) of has (λ wanted. joined s ended popped of has wanted closes)

-- Arcs are uses: what leads to a port of a whole procedure is the operand that was taken there.
use Rattle.std.proofs.Common.{◌≡◌, ℕ, ◌+◌, ◌≤◌, arith, ◌⊎◌, inl, inr, refl, sym, ap, ◌∙◌, subst, true, false, List, [], ◌∷◌, ◌++◌, length, drop, Option, Some, None}
use Rattle.std.proofs.lemmas.Bool.{false≢true}
use Rattle.std.proofs.lemmas.Option.{slice_get_within}
use Rattle.std.specs.Prelude.{pos, slice_get}
use Rattle.u_program.specs.Parts.{BlockParts}
use Rattle.u_program.specs.declared.program.Constant.{Constant}
use Rattle.u_program.specs.declared.program.Constant.TheVariants.{Int}
use Rattle.u_program.specs.declared.program.Kind.{Kind}
use Rattle.u_program.specs.declared.program.Kind.TheVariants.{Apply, Binary, Unary, Alloc, Fetch, Store, Select, End}
use Rattle.u_value.specs.declared.operators.BinaryOperator.TheVariants as binary
use Rattle.u_value.specs.declared.operators.UnaryOperator.TheVariants as unary
use Rattle.u_source.specs.Sources.{SourceParts}
use Rattle.u_source.specs.declared.form.Form.{Form}
use Rattle.u_source.specs.declared.form.Form.TheVariants as forms
use Rattle.u_scope.specs.declared.checked.Meaning.{Meaning}
use Rattle.u_compile.specs.declared.lowering.Frame.TheVariants as frames
use Rattle.u_compile.specs.declared.lowering.Operand.{Operand}
use Rattle.u_compile.specs.declared.lowering.Operand.TheVariants.{Value}
use Rattle.u_compile.specs.declared.lowering.Start.{Start}
use Rattle.u_compile.specs.declared.lowering.Turns.{Turns}
use Rattle.u_compile.specs.declared.graph.Output.{Output}
use Rattle.u_compile.specs.declared.drawing.Carried.{Carried}
use Rattle.u_compile.specs.declared.drawing.Scope.{Scope}
use Rattle.u_compile.specs.declared.drawing.Way.TheVariants.{Turn}
use Rattle.u_compile.specs.declared.tree.Tree.{Tree}
use Rattle.u_compile.specs.Scoped.{IsOf}
use Rattle.u_compile.specs.Trees.{HasForm, IsParent, IsEither}
use Rattle.u_compile.specs.Drawings.{DrawingParts, IsOfKind, IsFedBy, AreFed, IsEntered, Adds, Chooses, a_carried}
use Rattle.u_compile.specs.Namings.{IsConstant, HasConstant, a_binding, a_constant}
use Rattle.u_compile.specs.Operands.{SceneParts, LoweringParts, IsOperand, AreOperands, Pops, TakesOne, TakesTwo, TakesSwapped, Negates, Differs, Operates, Reads, Writes, TakesCall}
use Rattle.u_compile.specs.Sides.{AddsSide, IsLastFrame, IsFramePopped, IsSelect, OpensIf, OpensElse, Selects, ClosesIf}
use Rattle.u_compile.specs.Turns.{OpensTurn}
use Rattle.u_compile.specs.Loops.{CarriesEach, OpensLoop, CountsOn, Counts, ClosesLoop}
use Rattle.u_compile.specs.Bodies.{IsBlockOf, EndsProcedure, Opens, OpensBlock, Closes, ClosesBlock}
use Rattle.u_compile.specs.Steps.{IsItem, IsWhole}
use Rattle.u_compile.specs.Walks.{IsDone, item, whole, is_item, GoesThrough, AllMade, IsMadeOfNodes, AreLowered}
use Rattle.u_compile.specs.Made.{IsTreeOf, AreMadeOf}
use Rattle.u_compile.specs.Uses.{Begins, HasBegun, Passes, Moment, IsFrom, AreArcs, Takes, Selected, Chosen, JoinsAt, Called, WaitsLast, IsInside, Controls, ControlsOf, OpensWith, ports_from, IsOfName, HasNoted, IsCountedOn, IsNextValue, GoesRoundWith, AllGoRound, RoundsOf, ClosesWith, Uses, EndsBehind, Arrives, ArcsAreUses}
use Rattle.u_compile.proofs.DrawingLaws.{get_goes_on, get_last}
use Rattle.u_compile.proofs.CarriedLaws.{same_number, some_carried, none_noted, some_noted, noted_now, noted_other, none_may}
use Rattle.u_compile.proofs.GateLaws.{of_append}
use Rattle.u_compile.proofs.TreeLaws.{form_one, parent_one}
use Rattle.u_compile.proofs.ExtendLaws.{Extends, extends_grown, extends_then, value_extends, scope_extends, stands_extends, fed_extends, entered_extends, inside_extends, constant_extends, constant_on}
use Rattle.u_compile.proofs.FollowLaws.{Follows, plain_same, plain_then, plain_grown, plain_noted, plain_goes, ended_follows, AreTurns, Root, Traced, each_carried, limit_starts, limit_tested, of_drop, side_grows, chooses_grow, counts_follow, turns_close, loop_left}
use Rattle.u_compile.proofs.RoundLaws.{Round, named_root, turns_round}
use Rattle.u_compile.proofs.BoundLaws.{moment, BoundBefore, bound_later, begins_later, BegunBefore, all_known, Known, from_operand, within_to, ending, ends_follow, passes_follow, tree_at, known_at}
use Rattle.u_compile.proofs.FrameLaws.{one_end, one_taken, tells_later, side_later, AllFramed, all_framed, has_choice, else_joins, if_joins}
use Rattle.u_compile.proofs.NotedLaws.{NextStands, next_uses, next_done, TurnsKnown, all_turns, noted_in}
use Rattle.u_compile.proofs.WalkLaws.{Any, AnyStart, any_grows, any_starts, through_within, named_follows, blocks_of_nodes}

-- those values lead to those ports, one to each
abbrev AllFed : DrawingParts → ℕ → List ℕ → List ℕ → Type 0
AllFed d n [] [] = Unit {0}
AllFed d n (p ∷ ps) (v ∷ vs) = IsFedBy d.links d.values n p v × AllFed d n ps vs
AllFed d n ps vs = ⊥

all_fed : (d e : DrawingParts) → Extends d e → (n port : ℕ) (vs : List ℕ) → n ≤ length d.statements → AreFed d.links d.values n port vs → AllFed e n (ports_from port vs) vs
all_fed d e g n port [] h fed = tt
all_fed d e g n port (v ∷ vs) h fed = (fed_extends d e g n port v h fed.0, all_fed d e g n (port + 1) vs h fed.1)

-- the ports of a statement that was added
added_fed : (c d e : DrawingParts) (kind : Kind) (vs : List ℕ) → Adds c d kind vs → Extends d e → AllFed e (length c.statements + 1) (ports_from 1 vs) vs
added_fed c d e kind vs a g = all_fed d e g (length c.statements + 1) 1 vs (omega (arith, a.one)) a.fed

module _ (x : Moment) (known : Known x) where
  arcs_all : (d : DrawingParts) → Extends d x.whole.drawing → (n : ℕ) (ps : List ℕ) (os : List Operand) (vs : List ℕ) → AreOperands x.at.scene d os vs → AllFed x.whole.drawing n ps vs → AreArcs x n ps os
  arcs_all d g n [] [] [] are fed = tt
  arcs_all d g n (p ∷ ps) (o ∷ os) (v ∷ vs) are fed = (record { value = v; fed = fed.0; from = from_operand x known d g o v are.0 }, arcs_all d g n ps os vs are.1 fed.1)
  arcs_all d g n [] [] (v ∷ vs) are fed = absurd are
  arcs_all d g n [] (o ∷ os) [] are fed = absurd are
  arcs_all d g n [] (o ∷ os) (v ∷ vs) are fed = absurd fed
  arcs_all d g n (p ∷ ps) [] [] are fed = absurd fed
  arcs_all d g n (p ∷ ps) [] (v ∷ vs) are fed = absurd are
  arcs_all d g n (p ∷ ps) (o ∷ os) [] are fed = absurd are

  arcs_from : (d : DrawingParts) → Extends d x.whole.drawing → (n port : ℕ) (os : List Operand) (vs : List ℕ) → AreOperands x.at.scene d os vs → AllFed x.whole.drawing n (ports_from port vs) vs → AreArcs x n (ports_from port os) os
  arcs_from d g n port [] [] are fed = tt
  arcs_from d g n port (o ∷ os) (v ∷ vs) are fed = (record { value = v; fed = fed.0; from = from_operand x known d g o v are.0 }, arcs_from d g n (port + 1) os vs are.1 fed.1)
  arcs_from d g n port [] (v ∷ vs) are fed = absurd are
  arcs_from d g n port (o ∷ os) [] are fed = absurd are

  -- operands that are taken lead to ports of a statement that is added
  takes : (kind : Kind) (ports : List ℕ) (vs : List ℕ) (b : LoweringParts) → Pops x.at b vs → Extends b.drawing x.whole.drawing → (n : ℕ) → IsOfKind x.whole.drawing.statements n kind → AllFed x.whole.drawing n ports vs → Takes kind ports x
  takes kind ports vs b pops g n stands fed = record { before = b.operands; operands = pops.operands; waited = pops.were; statement = n; stands = stands; arcs = arcs_all b.drawing g n ports pops.operands vs pops.are fed }

  -- where `c` is the procedure before the statement is added, and `d` the one behind
  takes_added : (kind : Kind) (ports vs ins : List ℕ) (b : LoweringParts) (c d : DrawingParts) → Pops x.at b vs → Extends b.drawing c → Adds c d kind ins → Extends d x.whole.drawing → (AllFed x.whole.drawing (length c.statements + 1) (ports_from 1 ins) ins → AllFed x.whole.drawing (length c.statements + 1) ports vs) → Takes kind ports x
  takes_added kind ports vs ins b c d pops to adds g fed =
      let n = length c.statements + 1 in
      let grown = extends_then b.drawing c x.whole.drawing to (extends_then c d x.whole.drawing (extends_grown c d adds.grows) g) in
      takes kind ports vs b pops grown n (stands_extends d x.whole.drawing g n kind adds.stands) (fed (added_fed c d x.whole.drawing kind ins adds g))

  one_uses : (kind : Kind) (m : LoweringParts) → TakesOne kind x.at m → Extends m.drawing x.whole.drawing → Takes kind (1 ∷ []) x
  one_uses kind m t g = takes_added kind (1 ∷ []) _ _ t.between t.between.drawing m.drawing t.pops (plain_same t.between t.between refl).extends t.pushes.gives.adds g (λ fed. fed)

  two_uses : (kind : Kind) (m : LoweringParts) → TakesTwo kind x.at m → Extends m.drawing x.whole.drawing → Takes kind (1 ∷ 2 ∷ []) x
  two_uses kind m t g = takes_added kind (1 ∷ 2 ∷ []) _ _ t.between t.between.drawing m.drawing t.pops (plain_same t.between t.between refl).extends t.pushes.gives.adds g (λ fed. fed)

  swapped_uses : (kind : Kind) (m : LoweringParts) → TakesSwapped kind x.at m → Extends m.drawing x.whole.drawing → Takes kind (2 ∷ 1 ∷ []) x
  swapped_uses kind m t g = takes_added kind (2 ∷ 1 ∷ []) _ _ t.between t.between.drawing m.drawing t.pops (plain_same t.between t.between refl).extends t.pushes.gives.adds g (λ fed. (fed.1.0, (fed.0, tt)))

  negates_uses : (m : LoweringParts) → Negates x.at m → Extends m.drawing x.whole.drawing → Takes (Binary binary.Sub) (2 ∷ []) x
  negates_uses m t g = takes_added (Binary binary.Sub) (2 ∷ []) _ _ t.between t.after.drawing m.drawing t.pops (extends_grown t.between.drawing t.after.drawing t.goes_on.grows) t.pushes.gives.adds g (λ fed. fed.1)

  differs_uses : (m : LoweringParts) → Differs x.at m → Extends m.drawing x.whole.drawing → Takes (Binary binary.Eq) (1 ∷ 2 ∷ []) x
  differs_uses m t g =
      let no = t.no in
      let grown = extends_then t.between.drawing no.between.drawing m.drawing (extends_grown t.between.drawing no.between.drawing no.pops.goes_on.grows) (extends_grown no.between.drawing m.drawing no.pushes.gives.adds.grows) in
      two_uses (Binary binary.Eq) t.between t.equal (extends_then t.between.drawing m.drawing x.whole.drawing grown g)

  writes_uses : (m : LoweringParts) → Writes x.at m → Extends m.drawing x.whole.drawing → Takes Store (1 ∷ 2 ∷ 3 ∷ []) x
  writes_uses m t g = takes_added Store (1 ∷ 2 ∷ 3 ∷ []) _ _ t.between t.between.drawing m.drawing t.pops (plain_same t.between t.between refl).extends t.gives.adds g (λ fed. fed)

  reads_uses : (m : LoweringParts) → Reads x.node x.at m → Extends m.drawing x.whole.drawing → Uses forms.Index x
  reads_uses m (Reads.waits is same) g never = absurd (never is)
  reads_uses m (Reads.read not t) g never = two_uses Fetch m t g

  call_uses : (m : LoweringParts) → TakesCall x.at m → Extends m.drawing x.whole.drawing → Called x
  call_uses m t g =
      let c = t.between.drawing in
      let d = t.calls.between in
      let n = length c.statements + 1 in
      let on_to = extends_then d m.drawing x.whole.drawing (extends_grown d m.drawing t.calls.back.adds.grows) g in
      let grown = extends_then c d x.whole.drawing (extends_grown c d t.calls.apply.grows) on_to in
      let fed = added_fed c d x.whole.drawing _ (t.procedure ∷ t.arguments) t.calls.apply on_to in
      record {
        before = t.others;
        callee = t.callee;
        given = t.given;
        waited = t.waited;
        statement = n;
        back = length c.statements + 2;
        count = t.calls.count;
        stands = stands_extends d x.whole.drawing on_to n (Apply (length c.statements + 2) t.calls.count) t.calls.apply.stands;
        arc = record { value = t.procedure; fed = fed.0; from = from_operand x known c grown t.callee t.procedure t.is };
        arcs = arcs_from c grown n 2 t.given t.arguments t.are fed.1;
      }

  -- an `if` that chooses one of two values
  selects_uses : (control w : ℕ) (ended m : LoweringParts) → IsFramePopped x.at ended (frames.Choice control w) → Selects control ended m → Extends m.drawing x.whole.drawing → (c : Selected control x) × (m.operands ≡ c.takes.before ++ (Value c.value ∷ []))
  selects_uses control w ended m popped s g =
      let p = s.pops in
      let n = length s.taken.drawing.statements + 1 in
      let scene : ended.scene ≡ x.at.scene = ap (λ (y : LoweringParts). y.scene) popped.1 in
      let grown = extends_then s.taken.drawing m.drawing x.whole.drawing (extends_grown s.taken.drawing m.drawing s.pushes.gives.adds.grows) g in
      let fed = added_fed s.taken.drawing m.drawing x.whole.drawing Select _ s.pushes.gives.adds g in
      let takes : Takes Select (2 ∷ 3 ∷ []) x = record {
        before = s.taken.operands;
        operands = p.operands;
        waited = sym (ap (λ (y : LoweringParts). y.operands) popped.1) ∙ p.were;
        statement = n;
        stands = stands_extends m.drawing x.whole.drawing g n Select s.pushes.gives.adds.stands;
        arcs = arcs_all s.taken.drawing grown n (2 ∷ 3 ∷ []) p.operands (s.left ∷ s.right ∷ []) (subst (λ (y : SceneParts). AreOperands y s.taken.drawing p.operands (s.left ∷ s.right ∷ [])) scene p.are) fed.1;
      } in
      let selected : Selected control x = record { takes = takes; fed = fed.0; value = s.pushes.value; sends = value_extends m.drawing x.whole.drawing g s.pushes.value _ s.pushes.gives.value } in
      (selected, ap (λ (y : LoweringParts). y.operands) s.pushes.rest)

choice_one : (a b c d : ℕ) → frames.Choice a c ≡ frames.Choice b d → a ≡ b
choice_one a b c d e = cc

block_one : (a b : Turns) (p q : Output) (n k : ℕ) → frames.Block a p n ≡ frames.Block b q k → (a ≡ b) × (n ≡ k)
block_one a b p q n k e = (cc, cc)

loop_rounds : (f : Form) (w : ℕ) (x : Moment) → IsEither f forms.Loop forms.For → RoundsOf f w x → AllGoRound w x
loop_rounds f w x (inl q) h = subst (λ (y : Form). RoundsOf y w x) q h
loop_rounds f w x (inr q) h = subst (λ (y : Form). RoundsOf y w x) q h

module _ (x : Moment) (known : Known x) where
  -- the operand that was taken, as it is in the end
  last_from : (b : LoweringParts) (v : ℕ) (os : List Operand) → x.at.operands ≡ b.operands ++ os → AreOperands x.at.scene b.drawing os (v ∷ []) → Extends b.drawing x.whole.drawing → (o : Operand) × WaitsLast x.at o × IsFrom x o v
  last_from b v os were are g =
      let o = one_taken x.at b b.drawing v os were are in
      (o.0, o.1, from_operand x known b.drawing g o.0 v o.2.0)

  -- a side is chosen: `c` is the procedure then, and `d` the one with the side
  controls : (around : ℕ) (b : LoweringParts) (v : ℕ) (c d : DrawingParts) (o : Output) (s : ℕ) (os : List Operand) → x.at.operands ≡ b.operands ++ os → AreOperands x.at.scene b.drawing os (v ∷ []) → Chooses b.drawing c v o → AddsSide c d around o true s → Extends d x.whole.drawing → Controls around x
  controls around b v c d o s os were are chooses side g =
      let with_side = extends_grown c d (side_grows c d around o true s side) in
      let chosen = extends_grown b.drawing c (chooses_grow b.drawing c v o chooses) in
      let on_to = extends_then c d x.whole.drawing with_side g in
      let last = last_from b v os were are (extends_then b.drawing c x.whole.drawing chosen on_to) in
      record {
        operand = last.0;
        waits = last.1;
        value = v;
        from = last.2;
        control = o;
        tells = tells_later b.drawing c x.whole.drawing on_to v o chooses;
        side = s;
        inside = side_later c d x.whole.drawing around o true s side g;
      }

  if_controls : (w : ℕ) (m : LoweringParts) → OpensIf x.node w x.at m → Extends m.drawing x.whole.drawing → (IsSelect x.at.scene.tree x.node w → ⊥) → Controls x.at.scene.scope x
  if_controls w m (OpensIf.choice may taken v pops same) g never = absurd (never may)
  if_controls w m (OpensIf.sides not taken v pops opens) g never =
      let scope : taken.scene.scope ≡ x.at.scene.scope = ap (λ (y : LoweringParts). y.scene.scope) pops.goes_on.rest in
      controls x.at.scene.scope taken v opens.chosen m.drawing opens.control opens.side pops.operands pops.were pops.are opens.chooses (subst (λ (s : ℕ). AddsSide opens.chosen m.drawing s opens.control true opens.side) scope opens.adds) g

  turn_controls : (m : LoweringParts) → OpensTurn x.at m → Extends m.drawing x.whole.drawing → (turns : Turns) → IsLastFrame x.at (frames.Test turns) → Controls turns.turn x
  turn_controls m o g turns last =
      let e = o.enters in
      let same : o.turns ≡ turns = test_one o.turns turns (one_end o.ended.frames last.0 (frames.Test o.turns) (frames.Test turns) (sym o.frame.0 ∙ last.1)) in
      let scene : o.ended.scene ≡ x.at.scene = ap (λ (y : LoweringParts). y.scene) o.frame.1 in
      let were = sym (ap (λ (y : LoweringParts). y.operands) o.frame.1) ∙ o.pops.were in
      let are : AreOperands x.at.scene o.taken.drawing o.pops.operands (o.value ∷ []) = subst (λ (y : SceneParts). AreOperands y o.taken.drawing o.pops.operands (o.value ∷ [])) scene o.pops.are in
      subst (λ (y : Turns). Controls y.turn x) same (controls o.turns.turn o.taken o.value e.chosen m.drawing e.control e.side o.pops.operands were are e.chooses e.adds g)
    where
      test_one : (a b : Turns) → frames.Test a ≡ frames.Test b → a ≡ b
      test_one a b q = cc

  chosen_uses : AllFramed x → (m : LoweringParts) → Extends m.drawing x.whole.drawing → (control : ℕ) (ended : LoweringParts) → IsFramePopped x.at ended (frames.Choice control x.node) → Selects control ended m → (c : Chosen control x) × (m.operands ≡ c.selected.takes.before ++ (Value c.selected.value ∷ []))
  chosen_uses framed m g control ended popped selects =
      let s = selects_uses x known control x.node ended m popped selects g in
      let chosen : Chosen control x = record { selected = s.0; has = has_choice x framed control x.node (ended.frames, popped.0) } in
      (chosen, s.1)

  if_uses : (m : LoweringParts) → AllFramed x → ClosesIf x.node x.at m → Extends m.drawing x.whole.drawing → Uses forms.If x
  if_uses m framed (ClosesIf.choice control ended popped selects) g c w last =
      let same : control ≡ c = choice_one control c x.node w (one_end ended.frames last.0 (frames.Choice control x.node) (frames.Choice c w) (sym popped.0 ∙ last.1)) in
      subst (λ (k : ℕ). Chosen k x) same (chosen_uses framed m g control ended popped selects).0
  if_uses m framed (ClosesIf.sides s ended popped of closes) g c w last = absurd (other (one_end ended.frames last.0 (frames.Sides s) (frames.Choice c w) (sym popped.0 ∙ last.1)))
    where
      other : frames.Sides s ≡ frames.Choice c w → ⊥
      other e = cc

  item_uses : (f : Form) (m : LoweringParts) → IsItem f x.node x.at m → is_item f ≡ true → Follows m x.whole → Uses f x
  item_uses forms.Index m h e g = reads_uses x known m h g.extends
  item_uses forms.Write m h e g = writes_uses x known m h g.extends
  item_uses forms.Call m h e g = call_uses x known m h g.extends
  item_uses forms.Name m h e g = tt
  item_uses forms.Number m h e g = tt
  item_uses forms.Negative m h e g = tt
  item_uses forms.True m h e g = tt
  item_uses forms.False m h e g = tt
  item_uses forms.NoArguments m h e g = tt
  item_uses forms.Statement m h e g = tt
  item_uses forms.Define m h e g = tt
  item_uses forms.Next m h e g = (next_uses x known m h g).0
  item_uses f m h e g = absurd (false≢true e)

module _ (x : Moment) (known : Known x) where
  name_of : (name scope v : ℕ) → Root (BoundBefore x.first x.begun x.node x.at) x.whole (a_binding scope name v) → IsOfName x name scope v
  name_of name scope v r = record { binding = r.root; named = r.named; bound = r.is; comes = r.comes }

  constant_whole : (l : LoweringParts) → Follows l x.whole → AllMade l → (d : DrawingParts) → Extends d x.whole.drawing → (scope : ℕ) (k : Constant) (v : ℕ) → HasConstant d l.scene.names scope k v → IsConstant x.whole.drawing x.whole.scene.names.bindings scope k v
  constant_whole l f made d g scope k v (HasConstant.noted is) = constant_on x.whole.drawing l.scene.names.bindings x.whole.scene.names.bindings f.bindings scope k v (constant_extends l.drawing x.whole.drawing f.extends l.scene.names.bindings scope k v (made (a_constant scope k v) is))
  constant_whole l f made d g scope k v (HasConstant.made is) = constant_on x.whole.drawing l.scene.names.bindings x.whole.scene.names.bindings f.bindings scope k v (constant_extends d x.whole.drawing g l.scene.names.bindings scope k v is)

  -- the counter of a `for` goes on
  counted_on : (turn : ℕ) (l m : LoweringParts) → l.scene ≡ x.at.scene → Traced (BoundBefore x.first x.begun x.node x.at) l → AllMade l → (c : CountsOn turn l m) → Follows m x.whole → IsCountedOn x c.turns.clock c.sum
  counted_on turn l m scene traced made c f =
      let added : LoweringParts = record c.both { drawing = c.added } in
      let a = c.gives.adds in
      let n = length c.both.drawing.statements + 1 in
      let noted = plain_noted added m c.sets.number c.sum c.sets.notes (none_may c.added.carried c.sets.number c.sum _ c.sets.open_before.1 refl) c.rest in
      let on_to = plain_then added m x.whole noted f in
      let both = plain_then c.both added x.whole (plain_grown c.both added c.added c.both.scene.scope c.both.operands c.both.frames c.both.starts a.grows refl) on_to in
      let first = plain_goes l c.one c.goes_on in
      let one = plain_then c.one c.both x.whole (plain_goes c.one c.both c.goes_further) both in
      let scope : l.scene.scope ≡ x.at.scene.scope = ap (λ (s : SceneParts). s.scope) scene in
      let inner : c.one.scene.scope ≡ x.at.scene.scope = ap (λ (y : LoweringParts). y.scene.scope) c.goes_on.rest ∙ scope in
      let root = named_root (BoundBefore x.first x.begun x.node x.at) AnyStart (bound_later x.first x.begun x.node x.at) any_starts l x.whole c.one.drawing traced (plain_then l c.one x.whole first one) one.extends l.scene.scope c.turns.clock c.value c.counts in
      record {
        statement = n;
        stands = stands_extends c.added x.whole.drawing on_to.extends n (Binary binary.Add) a.stands;
        sends = value_extends c.added x.whole.drawing on_to.extends c.sum _ c.gives.value;
        value = c.value;
        fed = fed_extends c.added x.whole.drawing on_to.extends n 1 c.value (omega (arith, a.one)) a.fed.0;
        counts = subst (λ (k : ℕ). IsOfName x c.turns.clock k c.value) scope (name_of c.turns.clock l.scene.scope c.value root);
        step = c.step;
        stepped = fed_extends c.added x.whole.drawing on_to.extends n 2 c.step (omega (arith, a.one)) a.fed.1.0;
        one = subst (λ (k : ℕ). IsConstant x.whole.drawing x.whole.scene.names.bindings k (Int (pos 1)) c.step) inner (constant_whole c.one one (first.made made) c.both.drawing both.extends c.one.scene.scope (Int (pos 1)) c.step c.is_one);
      }

  -- what goes round, if nothing was counted
  round_uses : (block w number : ℕ) (c : Carried) → ((v : ℕ) → c.next ≡ Some v → HasNoted x number c v) → Round (BoundBefore x.first x.begun x.node x.at) block number c x.whole → GoesRoundWith x block w number c
  round_uses block w number c noted r = record {
    value = r.value;
    is = elim r.is [ inl q ↦ IsNextValue.noted q (noted r.value q) | inr q ↦ IsNextValue.kept q.0 (name_of c.name block r.value q.1) ];
    next = r.next;
    statement = r.statement;
    stands = r.stands;
    fed = r.fed;
  }

  -- and if the counter was
  count_uses : (block w number sum : ℕ) (c : Carried) → c.next ≡ None → HasForm x.at.scene.tree w forms.For → IsCountedOn x c.name sum → Round (BoundBefore x.first x.begun x.node x.at) block number (record c { next = Some sum }) x.whole → GoesRoundWith x block w number c
  count_uses block w number sum c none form is r = record {
    value = r.value;
    is = IsNextValue.counted none form (subst (λ (v : ℕ). IsCountedOn x c.name v) (same r.is) is);
    next = r.next;
    statement = r.statement;
    stands = r.stands;
    fed = r.fed;
  }
    where
      same : (Some sum ≡ Some r.value) ⊎ ((Some sum ≡ None) × Root (BoundBefore x.first x.begun x.node x.at) x.whole (a_binding block c.name r.value)) → sum ≡ r.value
      same (inl q) = some_noted sum r.value q
      same (inr q) = absurd (none_noted sum (sym q.0))

  rounds_counted : (turn block w : ℕ) (l counted : LoweringParts) → l.scene ≡ x.at.scene → Traced (BoundBefore x.first x.begun x.node x.at) l → AllMade l → ((number : ℕ) (c : Carried) → slice_get l.drawing.carried number ≡ Some c → c.turn ≡ turn → (v : ℕ) → c.next ≡ Some v → HasNoted x number c v) → Counts turn w l counted → Follows counted x.whole → ((number : ℕ) (c : Carried) → slice_get counted.drawing.carried number ≡ Some c → c.turn ≡ turn → Round (BoundBefore x.first x.begun x.node x.at) block number c x.whole) → (number : ℕ) (c : Carried) → slice_get l.drawing.carried number ≡ Some c → c.turn ≡ turn → GoesRoundWith x block w number c
  rounds_counted turn block w l counted scene traced made noted (Counts.not never same) f rounds number c at of = round_uses block w number c (noted number c at of) (rounds number c (subst (λ (y : LoweringParts). slice_get y.drawing.carried number ≡ Some c) (sym same) at) of)
  rounds_counted turn block w l counted scene traced made noted (Counts.on form k) f rounds number c at of =
      elim (same_number k.sets.number number) [
        | inl q ↦ here q
        | inr never ↦ round_uses block w number c (noted number c at of) (rounds number c (noted_other k.added counted.drawing k.sets.number k.sum number c never k.sets.notes there) of)
      ]
    where
      there : slice_get k.added.carried number ≡ Some c
      there = get_goes_on k.both.drawing.carried k.added.carried number c k.gives.adds.grows.carried (get_goes_on k.one.drawing.carried k.both.drawing.carried number c k.goes_further.grows.carried (get_goes_on l.drawing.carried k.one.drawing.carried number c k.goes_on.grows.carried at))

      here : k.sets.number ≡ number → GoesRoundWith x block w number c
      here q =
          let free : Carried = a_carried turn k.turns.clock k.sets.open_before.0 None in
          let was : slice_get k.added.carried number ≡ Some free = subst (λ (j : ℕ). slice_get k.added.carried j ≡ Some free) q k.sets.open_before.1 in
          let same : free ≡ c = some_carried free c (sym was ∙ there) in
          let now : slice_get counted.drawing.carried number ≡ Some (record c { next = Some k.sum }) = subst (λ (j : ℕ). slice_get counted.drawing.carried j ≡ Some (record c { next = Some k.sum })) q (noted_now k.added counted.drawing k.sets.number k.sum c k.sets.notes (subst (λ (j : ℕ). slice_get k.added.carried j ≡ Some c) (sym q) there)) in
          let is = subst (λ (y : Carried). IsCountedOn x y.name k.sum) same (counted_on turn l counted scene traced made k f) in
          count_uses block w number k.sum c (ap (λ (y : Carried). y.next) (sym same)) (subst (λ (s : SceneParts). HasForm s.tree w forms.For) scene form) is (rounds number (record c { next = Some k.sum }) now of)

  all_rounds : TurnsKnown x → (w : ℕ) (m : LoweringParts) → HasForm x.at.scene.tree x.node forms.Block → IsParent x.at.scene.tree w x.node → ClosesLoop x.node w x.at m → Follows m x.whole → AllGoRound w x
  all_rounds loops w m form parent c f turns control block last number entry at of =
      let first = ended_follows (BoundBefore x.first x.begun x.node x.at) AnyStart (bound_later x.first x.begun x.node x.at) any_starts x.at c.ended _ c.frame in
      let counts = counts_follow (BoundBefore x.first x.begun x.node x.at) AnyStart (bound_later x.first x.begun x.node x.at) any_starts c.turns.turn w c.ended c.counted c.counts in
      let closing = turns_close (BoundBefore x.first x.begun x.node x.at) AnyStart (bound_later x.first x.begun x.node x.at) any_starts c.turns.turn c.block c.counted _ c.closed c.turn in
      let left = loop_left Any AnyStart any_grows any_starts x.node w x.at m form parent (λ e b h. tt) c (closing.follows.tree ∙ (counts.follows.tree ∙ first.follows.tree)) in
      let closed = plain_then c.closed m x.whole left.follows f in
      let counted = plain_then c.counted c.closed x.whole closing.follows closed in
      let traced = first.traced known.traced in
      let same = block_one c.turns turns c.control control c.block block (one_end c.ended.frames last.0 (frames.Block c.turns c.control c.block) (frames.Block turns control block) (sym c.frame.0 ∙ last.1)) in
      let rounds : (j : ℕ) (y : Carried) → slice_get c.counted.drawing.carried j ≡ Some y → y.turn ≡ c.turns.turn → Round (BoundBefore x.first x.begun x.node x.at) c.block j y x.whole = λ j y is turn. turns_round (BoundBefore x.first x.begun x.node x.at) AnyStart (bound_later x.first x.begun x.node x.at) any_starts c.turns.turn c.block c.counted _ c.closed x.whole (counts.traced traced) c.turn closed j (omega (arith, slice_get_within c.counted.drawing.carried j y is)) y is turn in
      let there : slice_get c.ended.drawing.carried number ≡ Some entry = subst (λ (y : LoweringParts). slice_get y.drawing.carried number ≡ Some entry) (sym c.frame.1) at in
      let turn : entry.turn ≡ c.turns.turn = of ∙ sym (ap (λ (y : Turns). y.turn) same.0) in
      let noted : (j : ℕ) (y : Carried) → slice_get c.ended.drawing.carried j ≡ Some y → y.turn ≡ c.turns.turn → (v : ℕ) → y.next ≡ Some v → HasNoted x j y v = λ j y is. noted_in x loops c.turns c.control c.block (c.ended.frames, c.frame.0) j y (subst (λ (z : LoweringParts). slice_get z.drawing.carried j ≡ Some y) c.frame.1 is) in
      subst (λ (k : ℕ). GoesRoundWith x k w number entry) same.1 (rounds_counted c.turns.turn c.block w c.ended c.counted (ap (λ (y : LoweringParts). y.scene) c.frame.1) traced (first.follows.made known.made) noted c.counts counted rounds number entry there turn)

  rounds_of : TurnsKnown x → (g : Form) (w : ℕ) (m : LoweringParts) → HasForm x.at.scene.tree x.node forms.Block → IsParent x.at.scene.tree w x.node → Closes g x.node w x.at m → Follows m x.whole → RoundsOf g w x
  rounds_of loops forms.Loop w m form parent h f = all_rounds loops w m form parent h f
  rounds_of loops forms.For w m form parent h f = all_rounds loops w m form parent h f
  rounds_of loops g w m form parent h f = tt

  closes_uses : TurnsKnown x → (m : LoweringParts) → HasForm x.at.scene.tree x.node forms.Block → ClosesBlock x.node x.at m → Follows m x.whole → ClosesWith x
  closes_uses loops m form h f = record { whole = h.whole; parent = h.parent; form = h.form; of = h.of; rounds = rounds_of loops h.form h.whole m form h.parent h.closes f }

-- the variables of a loop go into the turns
carried_in : (turn around : ℕ) (l : LoweringParts) (ss : List Start) (m : LoweringParts) → AreTurns l.drawing.scopes around turn → CarriesEach turn l ss m → (e : DrawingParts) → Extends m.drawing e → (s : Start) → IsOf ss s → (loop : ℕ) × IsInside e.scopes around (Turn loop) turn × (w : ℕ) × IsEntered e loop s.value w
carried_in turn around l ss m within CarriesEach.none e g s h = absurd h
carried_in turn around l ss m within (CarriesEach.one_more rest t k x before carries) e g s h =
    elim (of_append rest (t ∷ []) s h) [
      | inl i ↦ carried_in turn around l rest k within before e (extends_then k.drawing m.drawing e grown g) s i
      | inr i ↦ here i
    ]
  where
    grown : Extends k.drawing m.drawing
    grown = extends_grown k.drawing m.drawing carries.carries.gives.adds.grows

    some_one : (a b : Scope) → Some a ≡ Some b → a ≡ b
    some_one a b q = cc

    here : IsOf (t ∷ []) s → (loop : ℕ) × IsInside e.scopes around (Turn loop) turn × (w : ℕ) × IsEntered e loop s.value w
    here (inl q) =
        let c = carries.carries in
        let first = (each_carried Any AnyStart any_grows any_starts turn around l rest k within (λ y i d loop w a b. tt) before).follows.extends in
        let at = scope_extends l.drawing k.drawing first turn within.0 within.1 in
        let same : c.scope ≡ within.0 = some_one c.scope within.0 (sym c.is ∙ at) in
        let is : IsInside k.drawing.scopes around (Turn c.loop) turn = (c.scope, c.is, ap (λ (y : Scope). y.around) same ∙ within.2, c.way) in
        let entered : IsEntered m.drawing c.loop t.value carries.inner = record { enter = length k.drawing.statements + 1; stands = c.gives.adds.stands; fed = c.gives.adds.fed.0; sends = c.gives.value } in
        (c.loop, inside_extends m.drawing e g around (Turn c.loop) turn (inside_extends k.drawing m.drawing grown around (Turn c.loop) turn is), carries.inner, subst (λ (y : Start). IsEntered e c.loop y.value carries.inner) q (entered_extends m.drawing e g c.loop t.value carries.inner entered))
    here (inr q) = absurd q

module _ (x : Moment) (known : Known x) (began : (s : Start) → IsOf x.at.starts s → HasBegun x s) (framed : AllFramed x) (loops : TurnsKnown x) where
  variables_uses : (m : LoweringParts) → OpensLoop x.node x.at m → Extends m.drawing x.whole.drawing → Uses forms.Variables x
  variables_uses m o g waiting limit last s h =
      let same : o.waiting ≡ waiting = begun_one o.waiting waiting o.limit limit (one_end o.ended.frames last.0 (frames.Begun o.waiting o.limit) (frames.Begun waiting limit) (sym o.frame.0 ∙ last.1)) in
      let starts : o.bound.starts ≡ x.at.starts = limit_starts Any AnyStart any_grows any_starts x.node o.limit o.ended o.bound o.binds ∙ ap (λ (y : LoweringParts). y.starts) o.frame.1 in
      let there : IsOf (drop o.waiting o.bound.starts) s = subst (λ (k : ℕ). IsOf (drop k o.bound.starts) s) (sym same) (subst (λ (ss : List Start). IsOf (drop waiting ss) s) (sym starts) h) in
      let turned : LoweringParts = record o.bound { drawing = o.turned } in
      let inner : LoweringParts = record o.carried { scene = record o.carried.scene { scope = o.turn } } in
      let new : Scope = record { region = o.turns.loop; around = x.at.scene.scope; way = Turn o.turns.loop; clock = o.clock } in
      let at : slice_get o.turned.scopes o.turn ≡ Some new = ap (λ (d : DrawingParts). slice_get d.scopes o.turn) o.turns.adds ∙ (ap (λ (k : ℕ). slice_get (o.bound.drawing.scopes ++ (new ∷ [])) k) o.turns.number ∙ get_last o.bound.drawing.scopes new) in
      let tested = (limit_tested Any AnyStart any_grows any_starts o.turn o.clock x.node o.limit inner o.tested o.tests).follows.extends in
      let drawn : m.drawing ≡ o.tested.drawing = ap (λ (y : LoweringParts). y.drawing) o.rest in
      let on_to = extends_then o.carried.drawing o.tested.drawing x.whole.drawing tested (subst (λ (d : DrawingParts). Extends d x.whole.drawing) drawn g) in
      let carried : o.carried.drawing ≡ o.carries.carried.drawing = ap (λ (y : LoweringParts). y.drawing) o.carries.rest in
      let gone = carried_in o.turn x.at.scene.scope turned (drop o.waiting o.bound.starts) o.carries.carried (new, at, refl) o.carries.each x.whole.drawing (subst (λ (d : DrawingParts). Extends d x.whole.drawing) carried on_to) s there in
      record {
        begun = began s (of_drop waiting x.at.starts s h);
        turn = o.turn;
        loop = gone.0;
        inside = gone.1;
        inner = gone.2;
        entered = gone.3;
      }
    where
      begun_one : (a b : ℕ) (p q : Option ℕ) → frames.Begun a p ≡ frames.Begun b q → a ≡ b
      begun_one a b p q e = cc

  form_controls : (f : Form) (w : ℕ) (m : LoweringParts) → Opens f x.node w x.at m → Extends m.drawing x.whole.drawing → ControlsOf f w x
  form_controls forms.If w m h g = if_controls x known w m h g
  form_controls forms.Loop w m h g = turn_controls x known m h g
  form_controls forms.For w m h g = turn_controls x known m h g
  form_controls f w m h g = tt

  block_uses : (m : LoweringParts) → OpensBlock x.node x.at m → Extends m.drawing x.whole.drawing → OpensWith x
  block_uses m h g = record { block = h.block; around = h.around; whole = h.whole; parent = h.parent; form = h.form; of = h.of; controls = form_controls h.form h.whole m h.opens g }

  -- behind an operator nothing else is done
  alike : (k m : LoweringParts) → m ≡ k → Extends m.drawing x.whole.drawing → Extends k.drawing x.whole.drawing
  alike k m same g = subst (λ (y : LoweringParts). Extends y.drawing x.whole.drawing) same g

  whole_uses : (f : Form) (k m : LoweringParts) → Operates f x.at k → IsWhole f x.node k m → is_item f ≡ false → (f ≡ forms.AddProcedure → ⊥) → HasForm x.at.scene.tree x.node f → Follows m x.whole → Extends m.drawing x.whole.drawing → Uses f x
  whole_uses forms.Variables k m o h e b is w g = variables_uses m (subst (λ (y : LoweringParts). OpensLoop x.node y m) o h) g
  whole_uses forms.Block k m o h e b is w g = closes_uses x known loops m is (subst (λ (y : LoweringParts). ClosesBlock x.node y m) o h) w
  whole_uses forms.Or k m o h e b is w g = two_uses x known (Binary binary.Or) k o (alike k m h g)
  whole_uses forms.And k m o h e b is w g = two_uses x known (Binary binary.And) k o (alike k m h g)
  whole_uses forms.Not k m o h e b is w g = one_uses x known (Unary unary.Not) k o (alike k m h g)
  whole_uses forms.Less k m o h e b is w g = two_uses x known (Binary binary.Lt) k o (alike k m h g)
  whole_uses forms.AtMost k m o h e b is w g = two_uses x known (Binary binary.Le) k o (alike k m h g)
  whole_uses forms.Greater k m o h e b is w g = swapped_uses x known (Binary binary.Lt) k o (alike k m h g)
  whole_uses forms.AtLeast k m o h e b is w g = swapped_uses x known (Binary binary.Le) k o (alike k m h g)
  whole_uses forms.Equal k m o h e b is w g = two_uses x known (Binary binary.Eq) k o (alike k m h g)
  whole_uses forms.Unequal k m o h e b is w g = differs_uses x known k o (alike k m h g)
  whole_uses forms.Add k m o h e b is w g = two_uses x known (Binary binary.Add) k o (alike k m h g)
  whole_uses forms.Subtract k m o h e b is w g = two_uses x known (Binary binary.Sub) k o (alike k m h g)
  whole_uses forms.Multiply k m o h e b is w g = two_uses x known (Binary binary.Mul) k o (alike k m h g)
  whole_uses forms.Divide k m o h e b is w g = two_uses x known (Binary binary.Div) k o (alike k m h g)
  whole_uses forms.Remainder k m o h e b is w g = two_uses x known (Binary binary.Rem) k o (alike k m h g)
  whole_uses forms.Negate k m o h e b is w g = negates_uses x known k o (alike k m h g)
  whole_uses forms.Array k m o h e b is w g = one_uses x known Alloc k o (alike k m h g)
  whole_uses forms.Length k m o h e b is w g = one_uses x known (Unary unary.Length) k o (alike k m h g)
  whole_uses forms.NoItems k m o h e b is w g = block_uses m (subst (λ (y : LoweringParts). OpensBlock x.node y m) o h) g
  whole_uses forms.If k m o h e b is w g = if_uses x known m framed (subst (λ (y : LoweringParts). ClosesIf x.node y m) o h) g
  whole_uses forms.Index k m o h e b is w g = absurd (false≢true (sym e))
  whole_uses forms.Write k m o h e b is w g = absurd (false≢true (sym e))
  whole_uses forms.Call k m o h e b is w g = absurd (false≢true (sym e))
  whole_uses forms.Next k m o h e b is w g = absurd (false≢true (sym e))
  whole_uses forms.AddProcedure k m o h e b is w g = absurd (b refl)
  whole_uses f k m o h e b is w g = tt

  done_uses : (f : Form) (m : LoweringParts) → HasForm x.at.scene.tree x.node f → (f ≡ forms.AddProcedure → ⊥) → IsDone x.node x.at m → Follows m x.whole → Uses f x
  done_uses f m has never (item g is items h) follows = subst (λ (y : Form). Uses y x) (form_one x.at.scene.tree x.node g f is has) (item_uses x known g m h items follows)
  done_uses f m has never (whole g k is other o h) follows =
      let same : g ≡ f = form_one x.at.scene.tree x.node g f is has in
      subst (λ (y : Form). Uses y x) same (whole_uses g k m o h other (λ q. never (sym same ∙ q)) is follows follows.extends)

  -- what comes from two sides
  whole_joins : (f : Form) (k m : LoweringParts) → Operates f x.at k → IsWhole f x.node k m → Follows m x.whole → JoinsAt f x m
  whole_joins forms.Otherwise k m o h w = else_joins x m w framed (subst (λ (y : LoweringParts). OpensElse y m) o h)
  whole_joins forms.If k m o h w = if_joins x m w framed (chosen_uses x known framed m w.extends) (subst (λ (y : LoweringParts). ClosesIf x.node y m) o h)
  whole_joins f k m o h w = tt

  item_joins : (f : Form) (m : LoweringParts) → is_item f ≡ true → JoinsAt f x m
  item_joins forms.Otherwise m e = absurd (false≢true e)
  item_joins forms.If m e = absurd (false≢true e)
  item_joins f m e = tt

  done_joins : (f : Form) (m : LoweringParts) → HasForm x.at.scene.tree x.node f → IsDone x.node x.at m → Follows m x.whole → JoinsAt f x m
  done_joins f m has (item g is items h) w = subst (λ (y : Form). JoinsAt y x m) (form_one x.at.scene.tree x.node g f is has) (item_joins g m items)
  done_joins f m has (whole g k is other o h) w = subst (λ (y : Form). JoinsAt y x m) (form_one x.at.scene.tree x.node g f is has) (whole_joins g k m o h w)

  -- where a procedure ends
  end_uses : (m : LoweringParts) (e : EndsProcedure x.at m) → Extends e.finishes.ends.ended x.whole.drawing → Takes End (1 ∷ []) x
  end_uses m e g =
      let gives = e.finishes.ends.gives in
      let to = (named_follows x.at m e).extends in
      takes_added x known End (1 ∷ []) _ _ e.taken e.named.drawing e.finishes.ends.ended e.pops (subst (λ (d : DrawingParts). Extends e.taken.drawing d) (sym (ap (λ (y : LoweringParts). y.drawing) e.name_taken.1)) (plain_same e.taken e.taken refl).extends) gives g (λ fed. fed)

module _ (t : Tree) (b : BlockParts) (m : IsMadeOfNodes t b) where
  began_at : (node : ℕ) (at : LoweringParts) → GoesThrough m.first m.begun node at → node ≤ m.last → Follows at (ending t b m) → (s : Start) → IsOf at.starts s → HasBegun (moment m.first m.begun node at (ending t b m)) s
  began_at node at reached h follows s i =
      let begun = (all_known t m.first m.begun m.fresh node at (within_to t m.first m.last node h m.within) reached).started s i in
      begun_by begun begun.begins
    where
      has : (c : BegunBefore m.first m.begun node at at s) (o : Operand) → IsOperand c.at.scene at.drawing o s.value → HasBegun (moment m.first m.begun node at (ending t b m)) s
      has c o is =
          let behind = through_within (c.node + 1) c.next node at c.passes.on in
          let on_to = (passes_follow t b m c.node c.at c.next node at c.passes h).0 in
          let known = known_at t b m c.node c.at c.passes.reached (omega (arith, behind, h)) (plain_then c.at at (ending t b m) on_to follows) in
          record {
            node = c.node;
            at = c.at;
            next = c.next;
            passes = c.passes;
            begins = begins_later c.node c.at at (ending t b m) s follows c.begins;
            operand = o;
            from = from_operand (moment m.first m.begun c.node c.at (ending t b m)) known at.drawing follows.extends o s.value is;
          }

      begun_by : (c : BegunBefore m.first m.begun node at at s) → Begins c.node c.at at s → HasBegun (moment m.first m.begun node at (ending t b m)) s
      begun_by c (Begins.variable o form name waits is) = has c o is
      begun_by c (Begins.counter before o limit form name were is) = has c o is

  -- what is known where a node is passed
  passed : (node : ℕ) (at next : LoweringParts) → Passes m.first m.begun node at next m.last m.ended → (node ≤ m.last) × Follows at (ending t b m) × Follows next (ending t b m)
  passed node at next p =
      let behind = through_within (node + 1) next m.last m.ended p.on in
      let both = passes_follow t b m node at next m.last m.ended p (omega arith) in
      (omega (arith, behind), plain_then at m.ended (ending t b m) both.0 (ends_follow t b m), plain_then next m.ended (ending t b m) both.1 (ends_follow t b m))

  uses_at : (node : ℕ) (at next : LoweringParts) (form : Form) → Passes m.first m.begun node at next m.last m.ended → HasForm t node form → Uses form (moment m.first m.begun node at (ending t b m))
  uses_at node at next form p has =
      let w = passed node at next p in
      let known = known_at t b m node at p.reached w.0 w.1 in
      let tree = tree_at t b m node at p.reached w.0 in
      let behind = through_within (node + 1) next m.last m.ended p.on in
      let never : form ≡ forms.AddProcedure → ⊥ = λ q. (m.within node (omega (arith, behind)) (through_within m.first m.begun node at p.reached)).1 (subst (λ (f : Form). HasForm t node f) q has) in
      done_uses (moment m.first m.begun node at (ending t b m)) known (began_at node at p.reached w.0 w.1) (all_framed t b m node at p.reached w.0 w.1) (all_turns t b m node at p.reached w.0 w.1) form next (subst (λ (y : Tree). HasForm y node form) (sym tree) has) never p.done w.2

  joins_at : (node : ℕ) (at next : LoweringParts) (form : Form) → Passes m.first m.begun node at next m.last m.ended → HasForm t node form → JoinsAt form (moment m.first m.begun node at (ending t b m)) next
  joins_at node at next form p has =
      let w = passed node at next p in
      let known = known_at t b m node at p.reached w.0 w.1 in
      let tree = tree_at t b m node at p.reached w.0 in
      done_joins (moment m.first m.begun node at (ending t b m)) known (began_at node at p.reached w.0 w.1) (all_framed t b m node at p.reached w.0 w.1) (all_turns t b m node at p.reached w.0 w.1) form next (subst (λ (y : Tree). HasForm y node form) (sym tree) has) p.done w.2

  -- the value with which a variable goes on goes round
  arrives_by : (node : ℕ) (at : LoweringParts) (e : EndsBehind t b m node at) → NextStands (moment m.first m.begun node at (ending t b m)) e.next → Follows e.next e.there → e.there.scene.tree ≡ t → ClosesWith (moment m.first m.begun e.end e.there (ending t b m)) → Arrives (moment m.first m.begun node at (ending t b m))
  arrives_by node at e n f tree c =
      let g = n.0 in
      let same = block_one g.turns e.turns g.control e.control g.block e.block (one_end g.frame.0 e.frame.0 (frames.Block g.turns g.control g.block) (frames.Block e.turns e.control e.block) (sym g.frame.1 ∙ e.frame.1)) in
      let one : c.whole ≡ e.outer = parent_one t c.whole e.outer e.end (subst (λ (y : Tree). IsParent y c.whole e.end) tree c.parent) e.parent in
      let form : c.form ≡ e.form = form_one t e.outer c.form e.form (subst (λ (w : ℕ). HasForm t w c.form) one (subst (λ (y : Tree). HasForm y c.whole c.form) tree c.of)) e.of in
      let rounds = loop_rounds c.form c.whole (moment m.first m.begun e.end e.there (ending t b m)) (subst (λ (f : Form). IsEither f forms.Loop forms.For) (sym form) e.loop) c.rounds in
      let carried : Carried = a_carried g.turns.turn g.variable g.enter (Some g.value) in
      let there = f.notes g.number g.value carried n.1 refl in
      let r = rounds e.turns e.control e.block e.same g.number carried there (ap (λ (y : Turns). y.turn) same.0) in
      let value : r.value ≡ g.value = some_noted r.value g.value (ap (λ (y : Carried). y.next) (some_carried (record carried { next = Some r.value }) carried (sym r.next ∙ g.next))) in
      record { goes = g; statement = r.statement; stands = r.stands; fed = subst (λ (v : ℕ). IsFedBy (ending t b m).drawing.links (ending t b m).drawing.values r.statement 1 v) value r.fed }

  arrives_at : (node : ℕ) (at : LoweringParts) → EndsBehind t b m node at → Arrives (moment m.first m.begun node at (ending t b m))
  arrives_at node at e =
      let h = through_within (e.end + 1) e.behind m.last m.ended e.ends.on in
      let below : e.end ≤ m.last = omega (arith, h) in
      let before = through_within (node + 1) e.next e.end e.there e.passes.on in
      let first : node ≤ m.last = omega (arith, before, below) in
      let p = passes_follow t b m node at e.next e.end e.there e.passes below in
      let from_there = (passed e.end e.there e.behind e.ends).1 in
      let known = known_at t b m node at e.passes.reached first (plain_then at e.there (ending t b m) p.0 from_there) in
      let tree = tree_at t b m node at e.passes.reached first in
      let n = next_done (moment m.first m.begun node at (ending t b m)) known e.next (subst (λ (y : Tree). HasForm y node forms.Next) (sym tree) e.is) e.passes.done (plain_then e.next e.there (ending t b m) p.1 from_there) in
      arrives_by node at e n p.1 (p.0.tree ∙ tree) (uses_at e.end e.there e.behind forms.Block e.ends e.closes)

  end_at : Uses forms.AddProcedure (moment m.first m.begun m.last m.ended (ending t b m))
  unfolding ending
  end_at = end_uses (moment m.first m.begun m.last m.ended (ending t b m)) (known_at t b m m.last m.ended m.through (omega arith) (ends_follow t b m)) (began_at m.last m.ended m.through (omega arith) (ends_follow t b m)) (all_framed t b m m.last m.ended m.through (omega arith) (ends_follow t b m)) (all_turns t b m m.last m.ended m.through (omega arith) (ends_follow t b m)) m.closed m.closes (plain_same (ending t b m) (ending t b m) refl).extends

  -- Arcs are uses.
  pub arcs_are_uses : ArcsAreUses t b
  unfolding ending
  arcs_are_uses = record {
    made = m;
    whole = ending t b m;
    name = m.closes.name;
    of = subst (λ (y : BlockParts). IsBlockOf m.closes.name m.closes.finishes.ends.ended y) m.is m.closes.finishes.ends.of;
    uses = uses_at;
    joins = joins_at;
    round = arrives_at;
    end = end_at;
  }

-- what the blocks of a source are made of
pub made_of : (s : SourceParts) (ms : List Meaning) (t : Tree) (bs : List BlockParts) → IsTreeOf s ms t → AreLowered t bs → AreMadeOf s ms bs
made_of s ms t bs of lowered =
    let same : (b : BlockParts) → IsOf bs b → IsMadeOfNodes t b = λ b h. blocks_of_nodes t (length t.nodes.now) lowered.end lowered.through b (subst (λ (xs : List BlockParts). IsOf xs b) lowered.are h) in
    record {
      tree = t;
      of = of;
      lowered = lowered;
      each = same;
      arcs = λ b h. arcs_are_uses t b (same b h);
    }

-- What is noted for the next turn of a loop, whose block is gone through: it was noted at a node of that block.
use Rattle.std.proofs.Common.{◌≡◌, ℕ, ◌+◌, ◌<◌, ◌≤◌, arith, ◌⊎◌, inl, inr, refl, sym, ap, ◌∙◌, subst, Bool, true, false, List, [], ◌∷◌, ◌++◌, length, Some, None, append_assoc}
use Rattle.std.proofs.lemmas.Bool.{false≢true}
use Rattle.std.proofs.lemmas.Option.{slice_get_within}
use Rattle.std.specs.Prelude.{slice_get}
use Rattle.u_program.specs.Parts.{BlockParts}
use Rattle.u_source.specs.declared.form.Form.{Form}
use Rattle.u_source.specs.declared.form.Form.TheVariants as forms
use Rattle.u_scope.specs.declared.checked.Meaning.TheVariants.{Name}
use Rattle.u_compile.specs.declared.drawing.Carried.{Carried}
use Rattle.u_compile.specs.declared.drawing.Scope.{Scope}
use Rattle.u_compile.specs.declared.drawing.Way.TheVariants.{Turn}
use Rattle.u_compile.specs.declared.graph.Output.{Output}
use Rattle.u_compile.specs.declared.lowering.Frame.{Frame}
use Rattle.u_compile.specs.declared.lowering.Frame.TheVariants as frames
use Rattle.u_compile.specs.declared.lowering.Operand.{Operand}
use Rattle.u_compile.specs.declared.lowering.Operand.TheVariants.{Atom}
use Rattle.u_compile.specs.declared.lowering.Turns.{Turns}
use Rattle.u_compile.specs.declared.tree.Tree.{Tree}
use Rattle.u_compile.specs.Scoped.{IsOf}
use Rattle.u_compile.specs.Trees.{HasForm}
use Rattle.u_compile.specs.Drawings.{DrawingParts, AddsOpen, NotesNext, a_carried}
use Rattle.u_compile.specs.Operands.{LoweringParts, AreOperands, Operates}
use Rattle.u_compile.specs.Sides.{IsLastFrame, IsFramePopped, OpensIf, OpensElse, LeavesSide, ClosesSide, ClosesElse, ClosesIf, some_sides, on_other, noted}
use Rattle.u_compile.specs.Turns.{OpensTurn, GoesRound, ClosesTurn, ClosesTurns}
use Rattle.u_compile.specs.Loops.{TakesNext, StartsVariable, OpensVariables, OpensLoop, Counts, ClosesVariable, ClosesEach, ClosesLoop, EndsLoop, some_turns}
use Rattle.u_compile.specs.Definitions.{TakesParameter}
use Rattle.u_compile.specs.Bodies.{Opens, OpensBlock, Closes, ClosesBlock}
use Rattle.u_compile.specs.Steps.{IsItem, IsWhole}
use Rattle.u_compile.specs.Walks.{IsDone, item, whole, is_item, GoesThrough, IsMadeOfNodes}
use Rattle.u_compile.specs.Uses.{Moment, GoesOnWith, HasNoted}
use Rattle.u_compile.proofs.DrawingLaws.{get_goes_on, get_last, on_length, opens_none, opens_then}
use Rattle.u_compile.proofs.CarriedLaws.{same_number, some_carried, none_noted, some_noted, noted_now, get_other, none_may}
use Rattle.u_compile.proofs.GateLaws.{of_append, of_last}
use Rattle.u_compile.proofs.TreeLaws.{form_one}
use Rattle.u_compile.proofs.ExtendLaws.{of_more}
use Rattle.u_compile.proofs.FollowLaws.{Follows, plain_then, plain_noted, popped_follows, side_grows, chooses_grow, leaves_grow, each_carried, limit_tested}
use Rattle.u_compile.proofs.StillLaws.{Still, plain_still, then_still, pops_still, popped_still, pushes_still, operates_still, item_still, parameter_still, variable_still, loop_still, limit_still, each_still, test_still, sides_still, limit_drawn}
use Rattle.u_compile.proofs.WalkLaws.{Any, AnyStart, any_grows, any_starts, through_within}
use Rattle.u_compile.proofs.BoundLaws.{moment, passes_more, Known, from_operand, known_at, ending, tree_at, passes_follow}
use Rattle.u_compile.proofs.FrameLaws.{behind, opening_stays, ending_stays}

-- what is carried by other loops, and has a value in the next turn, was carried before, and had it
abbrev OthersStay : ℕ → List Carried → List Carried → Type 0
OthersStay turn cs es = (number : ℕ) (c : Carried) → (c.turn ≡ turn → ⊥) → slice_get es number ≡ Some c → (slice_get cs number ≡ Some c) ⊎ (c.next ≡ None)

others_open : (turn : ℕ) (cs es : List Carried) → AddsOpen cs es → OthersStay turn cs es
others_open turn cs es f number c never is = f number c is

others_then : (turn : ℕ) (cs ds es : List Carried) → OthersStay turn cs ds → OthersStay turn ds es → OthersStay turn cs es
others_then turn cs ds es f g number c never is = elim (g number c never is) [ inl i ↦ f number c never i | inr q ↦ inr q ]

others_noted : (turn : ℕ) (d e : DrawingParts) (number value : ℕ) (c : Carried) → NotesNext d e number value → slice_get d.carried number ≡ Some c → c.turn ≡ turn → OthersStay turn d.carried e.carried
others_noted turn d e number value c notes at of k y never is = elim (same_number number k) [ inl q ↦ absurd (never (here q)) | inr other ↦ inl (kept other) ]
  where
    here : number ≡ k → y.turn ≡ turn
    here q =
        let there : slice_get e.carried number ≡ Some y = subst (λ (j : ℕ). slice_get e.carried j ≡ Some y) (sym q) is in
        ap (λ (z : Carried). z.turn) (some_carried y (record c { next = Some value }) (sym there ∙ noted_now d e number value c notes at)) ∙ of

    kept : (number ≡ k → ⊥) → slice_get d.carried k ≡ Some y
    kept other = sym (ap (λ (x : DrawingParts). slice_get x.carried k) notes.now ∙ get_other d.carried number k (record notes.carried { next = Some value }) other) ∙ is

counts_others : (turn w : ℕ) (l m : LoweringParts) → Counts turn w l m → OthersStay turn l.drawing.carried m.drawing.carried
counts_others turn w l m (Counts.not never same) = others_open turn l.drawing.carried m.drawing.carried (plain_still l m same).opened
counts_others turn w l m (Counts.on is c) =
    let first = opens_then l.drawing.carried c.one.drawing.carried c.both.drawing.carried c.goes_on.grows.opened c.goes_further.grows.opened in
    let added = opens_then l.drawing.carried c.both.drawing.carried c.added.carried first c.gives.adds.grows.opened in
    others_then turn l.drawing.carried c.added.carried m.drawing.carried (others_open turn l.drawing.carried c.added.carried added) (others_noted turn c.added m.drawing c.sets.number c.sum (a_carried turn c.turns.clock c.sets.open_before.0 None) c.sets.notes c.sets.open_before.1 refl)

round_others : (turn number v : ℕ) (l m : LoweringParts) (c : Carried) → slice_get l.drawing.carried number ≡ Some c → c.turn ≡ turn → GoesRound number v l m → OthersStay turn l.drawing.carried m.drawing.carried
round_others turn number v l m c is of g =
    let d = g.adds.between in
    let grows = g.adds.adds.grows in
    others_then turn l.drawing.carried d.carried m.drawing.carried (others_open turn l.drawing.carried d.carried grows.opened) (others_noted turn d m.drawing number v c g.adds.notes (get_goes_on l.drawing.carried d.carried number c grows.carried is) of)

turn_others : (turn block number : ℕ) (l m : LoweringParts) → ClosesTurn turn block number l m → OthersStay turn l.drawing.carried m.drawing.carried
turn_others turn block number l m (ClosesTurn.other c is never same) = others_open turn l.drawing.carried m.drawing.carried (plain_still l m same).opened
turn_others turn block number l m (ClosesTurn.given c v is of next goes) = round_others turn number v l m c is of goes
turn_others turn block number l m (ClosesTurn.kept c v between is of next goes_on named goes) =
    let d = between.drawing in
    others_then turn l.drawing.carried d.carried m.drawing.carried (others_open turn l.drawing.carried d.carried goes_on.grows.opened) (round_others turn number v between m c (get_goes_on l.drawing.carried d.carried number c goes_on.grows.carried is) of goes)

turns_others : (turn block : ℕ) (l : LoweringParts) (n : ℕ) (m : LoweringParts) → ClosesTurns turn block l n m → OthersStay turn l.drawing.carried m.drawing.carried
turns_others turn block l n m ClosesTurns.none = others_open turn l.drawing.carried l.drawing.carried (opens_none l.drawing.carried)
turns_others turn block l n m (ClosesTurns.one_more number k x before closes) = others_then turn l.drawing.carried k.drawing.carried m.drawing.carried (turns_others turn block l number k before) (turn_others turn block number k m closes)

last_opened : (turns : Turns) (end block w number : ℕ) (l m : LoweringParts) → ClosesVariable turns end block w number l m → AddsOpen l.drawing.carried m.drawing.carried
last_opened turns end block w number l m (ClosesVariable.other c is never same) = (plain_still l m same).opened
last_opened turns end block w number l m (ClosesVariable.kept c is of never same) = (plain_still l m same).opened
last_opened turns end block w number l m (ClosesVariable.given c between value last is of given goes named leaves same) = opens_then l.drawing.carried between.drawing.carried m.drawing.carried goes.grows.opened (leaves_grow between.drawing m.drawing value last leaves).opened

lasts_opened : (turns : Turns) (end block w : ℕ) (l : LoweringParts) (n : ℕ) (m : LoweringParts) → ClosesEach turns end block w l n m → AddsOpen l.drawing.carried m.drawing.carried
lasts_opened turns end block w l n m ClosesEach.none = opens_none l.drawing.carried
lasts_opened turns end block w l n m (ClosesEach.one_more number k x before closes) = opens_then l.drawing.carried k.drawing.carried m.drawing.carried (lasts_opened turns end block w l number k before) (last_opened turns end block w number k m closes)

-- where the block of a loop ends, what other loops carry stays
ending_others : (n w : ℕ) (l m : LoweringParts) (c : ClosesLoop n w l m) → OthersStay c.turns.turn l.drawing.carried m.drawing.carried
ending_others n w l m c =
    let t = c.turns.turn in
    let ended : l.drawing ≡ c.ended.drawing = sym (ap (λ (y : LoweringParts). y.drawing) c.frame.1) in
    let counted = subst (λ (d : DrawingParts). OthersStay t d.carried c.counted.drawing.carried) (sym ended) (counts_others t w c.ended c.counted c.counts) in
    let closed = others_then t l.drawing.carried c.counted.drawing.carried c.closed.drawing.carried counted (turns_others t c.block c.counted _ c.closed c.turn) in
    let v = c.variables in
    let with_end = (side_grows c.closed.drawing v.ended t c.control false v.end v.side).opened in
    let left = opens_then c.closed.drawing.carried v.ended.carried c.left.drawing.carried with_end (lasts_opened c.turns v.end n w _ _ c.left v.each) in
    let drawn : m.drawing ≡ c.left.drawing = ap (λ (y : LoweringParts). y.drawing) c.rest in
    subst (λ (d : DrawingParts). OthersStay t l.drawing.carried d.carried) (sym drawn) (others_then t l.drawing.carried c.closed.drawing.carried c.left.drawing.carried closed (others_open t c.closed.drawing.carried c.left.drawing.carried left))

-- the loop whose test or block is gone through has these turns
abbrev pub IsOfTurns : Frame → ℕ → Type 0
IsOfTurns (frames.Test turns) turn = turns.turn ≡ turn
IsOfTurns (frames.Block turns control block) turn = turns.turn ≡ turn
IsOfTurns f turn = ⊥

-- of the loops that have begun and not ended, none has these turns
abbrev pub HaveEnded : List Frame → ℕ → Type 0
HaveEnded fs turn = (f : Frame) → IsOf fs f → IsOfTurns f turn → ⊥

-- no two of them have the same turns
abbrev pub AreApart : List Frame → Type 0
AreApart [] = Unit {0}
AreApart (f ∷ fs) = ((turn : ℕ) → IsOfTurns f turn → HaveEnded fs turn) × AreApart fs

ended_more : (fs : List Frame) (g : Frame) (turn : ℕ) → HaveEnded fs turn → (IsOfTurns g turn → ⊥) → HaveEnded (fs ++ (g ∷ [])) turn
ended_more fs g turn all never e h t = elim (of_append fs (g ∷ []) e h) [ inl i ↦ all e i t | inr i ↦ last i ]
  where
    last : IsOf (g ∷ []) e → ⊥
    last (inl q) = never (subst (λ (y : Frame). IsOfTurns y turn) (sym q) t)
    last (inr q) = q

ended_first : (fs : List Frame) (g : Frame) (turn : ℕ) → HaveEnded (fs ++ (g ∷ [])) turn → HaveEnded fs turn
ended_first fs g turn all e h t = all e (of_more fs (g ∷ []) e h) t

apart_first : (fs : List Frame) (g : Frame) → AreApart (fs ++ (g ∷ [])) → AreApart fs
apart_first [] g a = tt
apart_first (f ∷ fs) g a = (λ turn t. ended_first fs g turn (a.0 turn t), apart_first fs g a.1)

apart_last : (fs : List Frame) (g : Frame) → AreApart (fs ++ (g ∷ [])) → (turn : ℕ) → IsOfTurns g turn → HaveEnded fs turn
apart_last [] g a turn t e h u = h
apart_last (f ∷ fs) g a turn t e (inl q) u = a.0 turn (subst (λ (y : Frame). IsOfTurns y turn) (sym q) u) g (of_last fs g) t
apart_last (f ∷ fs) g a turn t e (inr i) u = apart_last fs g a.1 turn t e i u

apart_more : (fs : List Frame) (g : Frame) → AreApart fs → ((turn : ℕ) → IsOfTurns g turn → HaveEnded fs turn) → AreApart (fs ++ (g ∷ []))
apart_more [] g a all = (λ turn t e h u. h, tt)
apart_more (f ∷ fs) g a all = (λ turn t. ended_more fs g turn (a.0 turn t) (λ u. all turn u f (inl refl) t), apart_more fs g a.1 (λ turn t e h u. all turn t e (inr h) u))

-- value v was noted at a node for what is carried under that number, or the block of its loop has ended
abbrev pub IsNotedOrPast : Moment → ℕ → Carried → ℕ → Type 0
IsNotedOrPast x number c v = HasNoted x number c v ⊎ ((c.turn < length x.at.drawing.scopes) × HaveEnded x.at.frames c.turn)

-- What is known of the loops that have begun and not ended: what they carry and has a value in the next turn was noted at a node. Their turns
-- are scopes, and each has its own.
pub record TurnsKnown (x : Moment) : Type 0 where
  pub noted : (number v : ℕ) (c : Carried) → slice_get x.at.drawing.carried number ≡ Some c → c.next ≡ Some v → IsNotedOrPast x number c v
  pub within : (f : Frame) (turn : ℕ) → IsOf x.at.frames f → IsOfTurns f turn → turn < length x.at.drawing.scopes
  pub apart : AreApart x.at.frames

-- a variable goes on with a value, that is noted there, and nothing else is
abbrev pub NextStands : Moment → LoweringParts → Type 0
NextStands x m = (g : GoesOnWith x) × (slice_get m.drawing.carried g.number ≡ Some (a_carried g.turns.turn g.variable g.enter (Some g.value))) × (m.frames ≡ x.at.frames) × ((k : ℕ) (c : Carried) → (g.number ≡ k → ⊥) → slice_get m.drawing.carried k ≡ Some c → (slice_get x.at.drawing.carried k ≡ Some c) ⊎ (c.next ≡ None))

module _ (x : Moment) (known : Known x) where
  -- the value with which a variable of a loop goes on
  pub next_uses : (m : LoweringParts) → TakesNext x.at m → Follows m x.whole → NextStands x m
  next_uses m t f = one t.pops.operands t.pops.were t.pops.are
    where
      one : (os : List Operand) → x.at.operands ≡ t.taken.operands ++ os → AreOperands x.at.scene t.taken.drawing os (t.value ∷ []) → NextStands x m
      one [] were are = absurd are
      one (o ∷ []) were are =
          let name = t.name.taken in
          let sets = t.sets in
          let named = (popped_follows Any AnyStart any_grows any_starts t.taken t.named _ name).follows in
          let noted = plain_noted t.named m sets.number t.value sets.notes (none_may t.named.drawing.carried sets.number t.value _ sets.open_before.1 refl) t.rest in
          let on_to = plain_then t.taken t.named x.whole named (plain_then t.named m x.whole noted f) in
          let tree : t.taken.scene.tree ≡ x.at.scene.tree = ap (λ (y : LoweringParts). y.scene.tree) t.pops.goes_on.rest in
          let stack : t.named.frames ≡ x.at.frames = ap (λ (y : LoweringParts). y.frames) name.1 ∙ ap (λ (y : LoweringParts). y.frames) t.pops.goes_on.rest in
          let noted_there = noted_now t.named.drawing m.drawing sets.number t.value (a_carried t.turns.turn t.variable sets.open_before.0 None) sets.notes sets.open_before.1 in
          let before = then_still x.at t.taken t.named (pops_still x.at t.taken _ t.pops) (popped_still t.taken t.named _ name) in
          let goes : GoesOnWith x = record {
            before = t.named.operands;
            name = t.name.node;
            operand = o;
            waited = were ∙ (ap (λ (ys : List Operand). ys ++ (o ∷ [])) name.0 ∙ append_assoc t.named.operands (Atom t.name.node ∷ []) (o ∷ []));
            value = t.value;
            from = from_operand x known t.taken.drawing on_to.extends o t.value are.0;
            variable = t.variable;
            means = subst (λ (y : Tree). slice_get y.meanings.now t.name.node ≡ Some (Name t.variable)) tree t.name.means;
            turns = t.turns;
            control = t.control;
            block = t.block;
            frame = (t.frame.0, sym stack ∙ t.frame.1);
            number = sets.number;
            enter = sets.open_before.0;
            next = f.notes sets.number t.value (a_carried t.turns.turn t.variable sets.open_before.0 (Some t.value)) noted_there refl;
          } in
          let others : (k : ℕ) (c : Carried) → (sets.number ≡ k → ⊥) → slice_get m.drawing.carried k ≡ Some c → (slice_get x.at.drawing.carried k ≡ Some c) ⊎ (c.next ≡ None) = λ k c never is. before.opened k c (sym (ap (λ (d : DrawingParts). slice_get d.carried k) sets.notes.now ∙ get_other t.named.drawing.carried sets.number k (record sets.notes.carried { next = Some t.value }) never) ∙ is) in
          (goes, noted_there, ap (λ (y : LoweringParts). y.frames) t.rest ∙ stack, others)
      one (o ∷ (p ∷ os)) were are = absurd are.1

  pub next_done : (m : LoweringParts) → HasForm x.at.scene.tree x.node forms.Next → IsDone x.node x.at m → Follows m x.whole → NextStands x m
  next_done m has (item g is items h) f = next_uses m (subst (λ (y : Form). IsItem y x.node x.at m) (form_one x.at.scene.tree x.node g forms.Next is has) h) f
  next_done m has (whole g k is other o h) f = absurd (false≢true (sym other ∙ ap is_item (form_one x.at.scene.tree x.node g forms.Next is has)))

-- a loop with these turns was there, or begins: its turns are a further scope
abbrev WasOrBegins : Moment → LoweringParts → ℕ → Type 0
WasOrBegins x m turn = ((g : Frame) × IsOf x.at.frames g × IsOfTurns g turn) ⊎ ((length x.at.drawing.scopes ≤ turn) × (turn < length m.drawing.scopes))

-- One node more is passed.
module _ (x : Moment) (known : Known x) (reached : GoesThrough x.first x.begun x.node x.at) (m : LoweringParts) (done : IsDone x.node x.at m) (step : Follows x.at m) (f : Follows m x.whole) (turns : TurnsKnown x) where
  more : length x.at.drawing.scopes ≤ length m.drawing.scopes
  more = on_length x.at.drawing.scopes m.drawing.scopes step.extends.scopes

  noted_later : (number : ℕ) (c : Carried) (v : ℕ) → HasNoted x number c v → HasNoted (behind x m) number c v
  noted_later number c v h = record {
    node = h.node;
    at = h.at;
    next = h.next;
    passes = passes_more x.first x.begun h.node h.at h.next x.node x.at m done h.passes;
    is = h.is;
    goes = h.goes;
    under = h.under;
    turns = h.turns;
    name = h.name;
    value = h.value;
  }

  -- each loop that is there then was there, or begins
  turns_known : AddsOpen x.at.drawing.carried m.drawing.carried → ((e : Frame) (turn : ℕ) → IsOf m.frames e → IsOfTurns e turn → WasOrBegins x m turn) → AreApart m.frames → TurnsKnown (behind x m)
  turns_known opened was apart = record { noted = noted_by; within = within_by; apart = apart }
    where
      still : (turn : ℕ) → turn < length x.at.drawing.scopes → HaveEnded x.at.frames turn → HaveEnded m.frames turn
      still turn low all e h t = elim (was e turn h t) [ inl i ↦ all i.0 i.1 i.2 | inr i ↦ (let high = i.0 in omega (arith, low, high)) ]

      noted_by : (number v : ℕ) (c : Carried) → slice_get m.drawing.carried number ≡ Some c → c.next ≡ Some v → IsNotedOrPast (behind x m) number c v
      noted_by number v c is has = elim (opened number c is) [ inl i ↦ before (turns.noted number v c i has) | inr none ↦ absurd (none_noted v (sym none ∙ has)) ]
        where
          before : IsNotedOrPast x number c v → IsNotedOrPast (behind x m) number c v
          before (inl h) = inl (noted_later number c v h)
          before (inr h) = let low = h.0 in inr (omega (arith, low, more), still c.turn h.0 h.1)

      within_by : (e : Frame) (turn : ℕ) → IsOf m.frames e → IsOfTurns e turn → turn < length m.drawing.scopes
      within_by e turn h t = elim (was e turn h t) [ inl i ↦ (let low = turns.within i.0 turn i.1 i.2 in omega (arith, low, more)) | inr i ↦ i.1 ]

  still_known : Still x.at m → TurnsKnown (behind x m)
  still_known s = turns_known s.opened (λ e turn h t. inl (e, subst (λ (fs : List Frame). IsOf fs e) s.frames h, t)) (subst (λ (fs : List Frame). AreApart fs) (sym s.frames) turns.apart)

  -- one comes that is no loop, behind what was there
  one_known : (fs : List Frame) (g : Frame) → fs ≡ x.at.frames → m.frames ≡ fs ++ (g ∷ []) → ((turn : ℕ) → IsOfTurns g turn → ⊥) → AddsOpen x.at.drawing.carried m.drawing.carried → TurnsKnown (behind x m)
  one_known fs g same now never opened = turns_known opened was (subst (λ (es : List Frame). AreApart es) (sym now) (apart_more fs g (subst (λ (es : List Frame). AreApart es) (sym same) turns.apart) (λ turn t. absurd (never turn t))))
    where
      was : (e : Frame) (turn : ℕ) → IsOf m.frames e → IsOfTurns e turn → WasOrBegins x m turn
      was e turn h t = elim (of_append fs (g ∷ []) e (subst (λ (es : List Frame). IsOf es e) now h)) [ inl i ↦ inl (e, subst (λ (es : List Frame). IsOf es e) same i, t) | inr i ↦ last i ]
        where
          last : IsOf (g ∷ []) e → WasOrBegins x m turn
          last (inl q) = absurd (never turn (subst (λ (y : Frame). IsOfTurns y turn) (sym q) t))
          last (inr q) = absurd q

  -- one comes in the place of the last, that is no other loop, or begins
  changed_known : (fs : List Frame) (g e : Frame) → x.at.frames ≡ fs ++ (g ∷ []) → m.frames ≡ fs ++ (e ∷ []) → ((turn : ℕ) → IsOfTurns e turn → IsOfTurns g turn ⊎ ((length x.at.drawing.scopes ≤ turn) × (turn < length m.drawing.scopes))) → AddsOpen x.at.drawing.carried m.drawing.carried → TurnsKnown (behind x m)
  changed_known fs g e had now of opened = turns_known opened was (subst (λ (es : List Frame). AreApart es) (sym now) (apart_more fs e (apart_first fs g apart) other))
    where
      apart : AreApart (fs ++ (g ∷ []))
      apart = subst (λ (es : List Frame). AreApart es) had turns.apart

      there : (d : Frame) → IsOf fs d → IsOf x.at.frames d
      there d h = subst (λ (es : List Frame). IsOf es d) (sym had) (of_more fs (g ∷ []) d h)

      other : (turn : ℕ) → IsOfTurns e turn → HaveEnded fs turn
      other turn t = elim (of turn t) [ inl u ↦ apart_last fs g apart turn u | inr i ↦ (λ d h u. let high = i.0 in let low = turns.within d turn (there d h) u in omega (arith, low, high)) ]

      was : (d : Frame) (turn : ℕ) → IsOf m.frames d → IsOfTurns d turn → WasOrBegins x m turn
      was d turn h t = elim (of_append fs (e ∷ []) d (subst (λ (es : List Frame). IsOf es d) now h)) [ inl i ↦ inl (d, there d i, t) | inr i ↦ last i ]
        where
          last : IsOf (e ∷ []) d → WasOrBegins x m turn
          last (inl q) = elim (of turn (subst (λ (y : Frame). IsOfTurns y turn) (sym q) t)) [ inl u ↦ inl (g, subst (λ (es : List Frame). IsOf es g) (sym had) (of_last fs g), u) | inr i ↦ inr i ]
          last (inr q) = absurd q

  -- the last goes
  less_was : (fs : List Frame) (g : Frame) → x.at.frames ≡ fs ++ (g ∷ []) → m.frames ≡ fs → (e : Frame) (turn : ℕ) → IsOf m.frames e → IsOfTurns e turn → WasOrBegins x m turn
  less_was fs g had now e turn h t = inl (e, subst (λ (es : List Frame). IsOf es e) (sym had) (of_more fs (g ∷ []) e (subst (λ (es : List Frame). IsOf es e) now h)), t)

  less_apart : (fs : List Frame) (g : Frame) → x.at.frames ≡ fs ++ (g ∷ []) → m.frames ≡ fs → AreApart m.frames
  less_apart fs g had now = subst (λ (es : List Frame). AreApart es) (sym now) (apart_first fs g (subst (λ (es : List Frame). AreApart es) had turns.apart))

  if_opens_known : (w : ℕ) → OpensIf x.node w x.at m → TurnsKnown (behind x m)
  if_opens_known w (OpensIf.choice may taken v pops same) =
      let p = pops_still x.at taken _ pops in
      one_known taken.frames (frames.Choice v w) p.frames (ap (λ (y : LoweringParts). y.frames) same) (λ turn t. t) (subst (λ (d : DrawingParts). AddsOpen x.at.drawing.carried d.carried) (sym (ap (λ (y : LoweringParts). y.drawing) same)) p.opened)
  if_opens_known w (OpensIf.sides never taken v pops o) =
      let p = pops_still x.at taken _ pops in
      let c = o.chosen in
      let chosen = opens_then x.at.drawing.carried taken.drawing.carried c.carried p.opened (chooses_grow taken.drawing c v o.control o.chooses).opened in
      one_known taken.frames (frames.Sides (some_sides w o.control taken.scene.scope o.side)) p.frames (ap (λ (y : LoweringParts). y.frames) o.rest) (λ turn t. t) (opens_then x.at.drawing.carried c.carried m.drawing.carried chosen (side_grows c m.drawing taken.scene.scope o.control true o.side o.adds).opened)

  turn_opens_known : OpensTurn x.at m → TurnsKnown (behind x m)
  turn_opens_known o =
      let e = o.enters in
      let b = frames.Block o.turns e.control e.side in
      let p = pops_still o.ended o.taken _ o.pops in
      let d = o.taken.drawing in
      let chosen = opens_then o.ended.drawing.carried d.carried e.chosen.carried p.opened (chooses_grow d e.chosen o.value e.control e.chooses).opened in
      let opened = opens_then o.ended.drawing.carried e.chosen.carried m.drawing.carried chosen (side_grows e.chosen m.drawing o.turns.turn e.control true e.side e.adds).opened in
      let drawn : o.ended.drawing ≡ x.at.drawing = ap (λ (y : LoweringParts). y.drawing) o.frame.1 in
      changed_known o.ended.frames (frames.Test o.turns) b o.frame.0 (ap (λ (y : LoweringParts). y.frames) e.rest ∙ ap (λ (fs : List Frame). fs ++ (b ∷ [])) p.frames) (λ turn t. inl t) (subst (λ (y : DrawingParts). AddsOpen y.carried m.drawing.carried) drawn opened)

  block_opens_known : (g : Form) (w : ℕ) → Opens g x.node w x.at m → TurnsKnown (behind x m)
  block_opens_known forms.If w h = if_opens_known w h
  block_opens_known forms.Loop w h = turn_opens_known h
  block_opens_known forms.For w h = turn_opens_known h
  block_opens_known g w h = still_known (plain_still x.at m h)

  else_known : OpensElse x.at m → TurnsKnown (behind x m)
  else_known (OpensElse.choice control w last same) = still_known (plain_still x.at m same)
  else_known (OpensElse.sides o) =
      let e = o.ended in
      let drawn : e.drawing ≡ x.at.drawing = ap (λ (y : LoweringParts). y.drawing) o.popped.1 in
      changed_known e.frames (frames.Sides o.sides) (frames.Sides (on_other o.sides o.side)) o.popped.0 (ap (λ (y : LoweringParts). y.frames) o.rest) (λ turn t. absurd t) (subst (λ (y : DrawingParts). AddsOpen y.carried m.drawing.carried) drawn (side_grows e.drawing m.drawing o.sides.around o.sides.control false o.side o.adds).opened)

  side_known : (w : ℕ) (b : Bool) → ClosesSide w b x.at m → TurnsKnown (behind x m)
  side_known w b (ClosesSide.choice last same) = still_known (plain_still x.at m same)
  side_known w b (ClosesSide.sides s ended popped leaves) = left leaves
    where
      drawn : ended.drawing ≡ x.at.drawing
      drawn = ap (λ (y : LoweringParts). y.drawing) popped.popped.1

      left : LeavesSide s b ended m → TurnsKnown (behind x m)
      left (LeavesSide.unwanted is same) = changed_known ended.frames (frames.Sides s) (frames.Sides s) popped.popped.0 (ap (λ (y : LoweringParts). y.frames) same) (λ turn t. absurd t) (subst (λ (d : DrawingParts). AddsOpen x.at.drawing.carried d.carried) (sym (ap (λ (y : LoweringParts). y.drawing) same ∙ drawn)) (opens_none x.at.drawing.carried))
      left (LeavesSide.wanted is taken v pops same) =
          let n = frames.Sides (noted b v s) in
          let p = pops_still ended taken _ pops in
          let opened = subst (λ (d : DrawingParts). AddsOpen d.carried taken.drawing.carried) drawn p.opened in
          changed_known ended.frames (frames.Sides s) n popped.popped.0 (ap (λ (y : LoweringParts). y.frames) same ∙ ap (λ (fs : List Frame). fs ++ (n ∷ [])) p.frames) (λ turn t. absurd t) (subst (λ (d : DrawingParts). AddsOpen x.at.drawing.carried d.carried) (sym (ap (λ (y : LoweringParts). y.drawing) same)) opened)

  gone_known : (ended : LoweringParts) (g : Frame) → IsFramePopped x.at ended g → Still ended m → TurnsKnown (behind x m)
  gone_known ended g popped after = turns_known (subst (λ (d : DrawingParts). AddsOpen d.carried m.drawing.carried) (ap (λ (y : LoweringParts). y.drawing) popped.1) after.opened) (less_was ended.frames g popped.0 after.frames) (less_apart ended.frames g popped.0 after.frames)

  if_closes_known : ClosesIf x.node x.at m → TurnsKnown (behind x m)
  if_closes_known (ClosesIf.choice control ended popped s) = gone_known ended (frames.Choice control x.node) popped (then_still ended s.taken m (pops_still ended s.taken _ s.pops) (pushes_still s.taken m _ _ s.pushes))
  if_closes_known (ClosesIf.sides s ended popped of closes) = gone_known ended (frames.Sides s) popped (sides_still s ended m closes)

  -- the block of a loop ends, and what it carries goes round
  loop_closes_known : (w : ℕ) → ClosesLoop x.node w x.at m → TurnsKnown (behind x m)
  loop_closes_known w c = record { noted = noted_by; within = within_by; apart = apart }
    where
      now : m.frames ≡ c.ended.frames
      now = ending_stays x.node w x.at m c

      apart : AreApart m.frames
      apart = less_apart c.ended.frames (frames.Block c.turns c.control c.block) c.frame.0 now

      in_turns : c.turns.turn < length x.at.drawing.scopes
      in_turns = turns.within (frames.Block c.turns c.control c.block) c.turns.turn (subst (λ (es : List Frame). IsOf es (frames.Block c.turns c.control c.block)) (sym c.frame.0) (of_last c.ended.frames (frames.Block c.turns c.control c.block))) refl

      ended : HaveEnded m.frames c.turns.turn
      ended = subst (λ (es : List Frame). HaveEnded es c.turns.turn) (sym now) (apart_last c.ended.frames (frames.Block c.turns c.control c.block) (subst (λ (es : List Frame). AreApart es) c.frame.0 turns.apart) c.turns.turn refl)

      still : (turn : ℕ) → HaveEnded x.at.frames turn → HaveEnded m.frames turn
      still turn all e h u = elim (less_was c.ended.frames (frames.Block c.turns c.control c.block) c.frame.0 now e turn h u) [ inl i ↦ all i.0 i.1 i.2 | inr i ↦ all e (subst (λ (es : List Frame). IsOf es e) (sym c.frame.0) (of_more c.ended.frames (frames.Block c.turns c.control c.block ∷ []) e (subst (λ (es : List Frame). IsOf es e) now h))) u ]

      noted_by : (number v : ℕ) (y : Carried) → slice_get m.drawing.carried number ≡ Some y → y.next ≡ Some v → IsNotedOrPast (behind x m) number y v
      noted_by number v y is has = elim (same_number y.turn c.turns.turn) [ inl q ↦ inr (here q) | inr never ↦ other (ending_others x.node w x.at m c number y never is) ]
        where
          here : y.turn ≡ c.turns.turn → (y.turn < length m.drawing.scopes) × HaveEnded m.frames y.turn
          here q = (omega (arith, q, in_turns, more), subst (λ (k : ℕ). HaveEnded m.frames k) (sym q) ended)

          before : IsNotedOrPast x number y v → IsNotedOrPast (behind x m) number y v
          before (inl h) = inl (noted_later number y v h)
          before (inr h) = let low = h.0 in inr (omega (arith, low, more), still y.turn h.1)

          other : (slice_get x.at.drawing.carried number ≡ Some y) ⊎ (y.next ≡ None) → IsNotedOrPast (behind x m) number y v
          other (inl i) = before (turns.noted number v y i has)
          other (inr none) = absurd (none_noted v (sym none ∙ has))

      within_by : (e : Frame) (turn : ℕ) → IsOf m.frames e → IsOfTurns e turn → turn < length m.drawing.scopes
      within_by e turn h u = let low = turns.within e turn (subst (λ (es : List Frame). IsOf es e) (sym c.frame.0) (of_more c.ended.frames (frames.Block c.turns c.control c.block ∷ []) e (subst (λ (es : List Frame). IsOf es e) now h))) u in omega (arith, low, more)

  block_closes_known : (g : Form) (w : ℕ) → Closes g x.node w x.at m → TurnsKnown (behind x m)
  block_closes_known forms.If w h = side_known w true h
  block_closes_known forms.Loop w h = loop_closes_known w h
  block_closes_known forms.For w h = loop_closes_known w h
  block_closes_known g w h = still_known (plain_still x.at m h)

  variables_known : OpensVariables x.node x.at m → TurnsKnown (behind x m)
  variables_known (OpensVariables.counting w around is b) =
      let p = pops_still x.at b.taken _ b.pops in
      let q = popped_still b.taken b.named _ b.name.1 in
      let s = then_still x.at b.taken b.named p q in
      let started : b.started.frames ≡ x.at.frames = ap (λ (y : LoweringParts). y.frames) b.starts.rest ∙ s.frames in
      let drawn : m.drawing ≡ b.named.drawing = ap (λ (y : LoweringParts). y.drawing) b.rest ∙ ap (λ (y : LoweringParts). y.drawing) b.starts.rest in
      one_known b.started.frames (frames.Begun (length x.at.starts) (Some b.limit)) started (ap (λ (y : LoweringParts). y.frames) b.rest) (λ turn t. t) (subst (λ (d : DrawingParts). AddsOpen x.at.drawing.carried d.carried) (sym drawn) s.opened)
  variables_known (OpensVariables.other w around never same) = one_known x.at.frames (frames.Begun (length x.at.starts) None) refl (ap (λ (y : LoweringParts). y.frames) same) (λ turn t. t) (subst (λ (d : DrawingParts). AddsOpen x.at.drawing.carried d.carried) (sym (ap (λ (y : LoweringParts). y.drawing) same)) (opens_none x.at.drawing.carried))

  -- a loop begins: the scope of its turns is a further one
  loop_opens_known : OpensLoop x.node x.at m → TurnsKnown (behind x m)
  loop_opens_known o =
      let turned : LoweringParts = record o.bound { drawing = o.turned } in
      let inner : LoweringParts = record o.carried { scene = record o.carried.scene { scope = o.turn } } in
      let new : Scope = record { region = o.turns.loop; around = x.at.scene.scope; way = Turn o.turns.loop; clock = o.clock } in
      let bound = limit_still x.node o.limit o.ended o.bound o.binds in
      let scopes : o.turned.scopes ≡ o.bound.drawing.scopes ++ (new ∷ []) = ap (λ (d : DrawingParts). d.scopes) o.turns.adds in
      let at : slice_get o.turned.scopes o.turn ≡ Some new = ap (λ (d : DrawingParts). slice_get d.scopes o.turn) o.turns.adds ∙ (ap (λ (k : ℕ). slice_get (o.bound.drawing.scopes ++ (new ∷ [])) k) o.turns.number ∙ get_last o.bound.drawing.scopes new) in
      let each = each_still o.turn turned _ o.carries.carried o.carries.each in
      let each_extends = (each_carried Any AnyStart any_grows any_starts o.turn x.at.scene.scope turned _ o.carries.carried (new, at, refl) (λ s h e loop w a b. tt) o.carries.each).follows.extends in
      let tested = test_still o.turn o.clock x.node o.limit inner o.tested o.tests in
      let tested_extends = (limit_tested Any AnyStart any_grows any_starts o.turn o.clock x.node o.limit inner o.tested o.tests).follows.extends in
      let carried : o.carried.drawing ≡ o.carries.carried.drawing = ap (λ (y : LoweringParts). y.drawing) o.carries.rest in
      let drawn : m.drawing ≡ o.tested.drawing = ap (λ (y : LoweringParts). y.drawing) o.rest in
      let start : o.bound.drawing ≡ x.at.drawing = limit_drawn x.node o.limit o.ended o.bound o.binds ∙ ap (λ (y : LoweringParts). y.drawing) o.frame.1 in
      let opened_each : AddsOpen x.at.drawing.carried o.carries.carried.drawing.carried = subst (λ (cs : List Carried). AddsOpen cs o.carries.carried.drawing.carried) (ap (λ (d : DrawingParts). d.carried) o.turns.adds ∙ ap (λ (d : DrawingParts). d.carried) start) each.opened in
      let opened_inner : AddsOpen x.at.drawing.carried o.carried.drawing.carried = subst (λ (d : DrawingParts). AddsOpen x.at.drawing.carried d.carried) (sym carried) opened_each in
      let opened : AddsOpen x.at.drawing.carried m.drawing.carried = subst (λ (d : DrawingParts). AddsOpen x.at.drawing.carried d.carried) (sym drawn) (opens_then x.at.drawing.carried o.carried.drawing.carried o.tested.drawing.carried opened_inner tested.opened) in
      let there = slice_get_within o.turned.scopes o.turn new at in
      let first = on_length o.turned.scopes o.carries.carried.drawing.scopes each_extends.scopes in
      let same_length : length o.carried.drawing.scopes ≡ length o.carries.carried.drawing.scopes = ap (λ (d : DrawingParts). length d.scopes) carried in
      let second = on_length o.carried.drawing.scopes o.tested.drawing.scopes tested_extends.scopes in
      let last_length : length m.drawing.scopes ≡ length o.tested.drawing.scopes = ap (λ (d : DrawingParts). length d.scopes) drawn in
      let low : o.turn < length m.drawing.scopes = omega (arith, there, first, same_length, second, last_length) in
      let high : o.turn ≡ length x.at.drawing.scopes = o.turns.number ∙ ap (λ (d : DrawingParts). length d.scopes) start in
      changed_known o.ended.frames (frames.Begun o.waiting o.limit) (frames.Test (some_turns x.at.scene.scope o.turn)) o.frame.0 (opening_stays x.node x.at m o) (λ turn t. inr (omega (arith, high, t), omega (arith, low, t))) opened

  whole_known : (g : Form) (k : LoweringParts) → HasForm x.at.scene.tree x.node g → Operates g x.at k → IsWhole g x.node k m → (g ≡ forms.NoParameters → ⊥) → (g ≡ forms.AddProcedure → ⊥) → TurnsKnown (behind x m)
  whole_known forms.NoItems k is o h a b = let c = subst (λ (y : LoweringParts). OpensBlock x.node y m) o h in block_opens_known c.form c.whole c.opens
  whole_known forms.Block k is o h a b = let c = subst (λ (y : LoweringParts). ClosesBlock x.node y m) o h in block_closes_known c.form c.whole c.closes
  whole_known forms.Otherwise k is o h a b = else_known (subst (λ (y : LoweringParts). OpensElse y m) o h)
  whole_known forms.Else k is o h a b = let c = subst (λ (y : LoweringParts). ClosesElse x.node y m) o h in side_known c.whole false c.closes
  whole_known forms.If k is o h a b = if_closes_known (subst (λ (y : LoweringParts). ClosesIf x.node y m) o h)
  whole_known forms.NoVariables k is o h a b = variables_known (subst (λ (y : LoweringParts). OpensVariables x.node y m) o h)
  whole_known forms.AddVariable k is o h a b = still_known (variable_still x.node x.at m (subst (λ (y : LoweringParts). StartsVariable x.node y m) o h))
  whole_known forms.Variables k is o h a b = loop_opens_known (subst (λ (y : LoweringParts). OpensLoop x.node y m) o h)
  whole_known forms.Loop k is o h a b = still_known (loop_still x.node x.at m (subst (λ (y : LoweringParts). EndsLoop x.node y m) o h))
  whole_known forms.For k is o h a b = still_known (loop_still x.node x.at m (subst (λ (y : LoweringParts). EndsLoop x.node y m) o h))
  whole_known forms.AddParameter k is o h a b = still_known (parameter_still x.at m x.node (subst (λ (y : LoweringParts). TakesParameter y m x.node) o h))
  whole_known forms.NoParameters k is o h a b = absurd (a refl)
  whole_known forms.AddProcedure k is o h a b = absurd (b refl)
  whole_known g k is o h a b = still_known (then_still x.at k m (operates_still g x.at k o) (plain_still k m h))

  -- a value is noted for the next turn
  next_known : HasForm x.at.scene.tree x.node forms.Next → NextStands x m → TurnsKnown (behind x m)
  next_known form n = record { noted = noted_by; within = within_by; apart = subst (λ (fs : List Frame). AreApart fs) (sym n.2) turns.apart }
    where
      within_by : (e : Frame) (turn : ℕ) → IsOf m.frames e → IsOfTurns e turn → turn < length m.drawing.scopes
      within_by e turn h u = let low = turns.within e turn (subst (λ (fs : List Frame). IsOf fs e) n.2 h) u in omega (arith, low, more)

      noted_by : (number v : ℕ) (c : Carried) → slice_get m.drawing.carried number ≡ Some c → c.next ≡ Some v → IsNotedOrPast (behind x m) number c v
      noted_by number v c is has = elim (same_number n.0.number number) [ inl q ↦ inl (here q) | inr never ↦ other (n.3 number c never is) ]
        where
          here : n.0.number ≡ number → HasNoted (behind x m) number c v
          here q =
              let g = n.0 in
              let a = a_carried g.turns.turn g.variable g.enter (Some g.value) in
              let there : slice_get m.drawing.carried number ≡ Some a = subst (λ (j : ℕ). slice_get m.drawing.carried j ≡ Some a) q n.1 in
              let same : a ≡ c = some_carried a c (sym there ∙ is) in
              record {
                node = x.node;
                at = x.at;
                next = m;
                passes = record { reached = reached; done = done; on = GoesThrough.none };
                is = form;
                goes = g;
                under = q;
                turns = ap (λ (y : Carried). y.turn) same;
                name = ap (λ (y : Carried). y.name) same;
                value = some_noted g.value v (ap (λ (y : Carried). y.next) same ∙ has);
              }

          before : IsNotedOrPast x number c v → IsNotedOrPast (behind x m) number c v
          before (inl h) = inl (noted_later number c v h)
          before (inr h) = let low = h.0 in inr (omega (arith, low, more), subst (λ (fs : List Frame). HaveEnded fs c.turn) (sym n.2) h.1)

          other : (slice_get x.at.drawing.carried number ≡ Some c) ⊎ (c.next ≡ None) → IsNotedOrPast (behind x m) number c v
          other (inl i) = before (turns.noted number v c i has)
          other (inr none) = absurd (none_noted v (sym none ∙ has))

  item_known : (g : Form) → HasForm x.at.scene.tree x.node g → IsItem g x.node x.at m → is_item g ≡ true → TurnsKnown (behind x m)
  item_known forms.Next is h e = next_known is (next_uses x known m h f)
  item_known g is h e = still_known (item_still g x.node x.at m h e (λ q. cc))

  done_known : (HasForm x.at.scene.tree x.node forms.NoParameters → ⊥) × (HasForm x.at.scene.tree x.node forms.AddProcedure → ⊥) → TurnsKnown (behind x m)
  done_known never = by done
    where
      by : IsDone x.node x.at m → TurnsKnown (behind x m)
      by (item g is items h) = item_known g is h items
      by (whole g k is other o h) = whole_known g k is o h (λ q. never.0 (subst (λ (e : Form). HasForm x.at.scene.tree x.node e) q is)) (λ q. never.1 (subst (λ (e : Form). HasForm x.at.scene.tree x.node e) q is))

-- what is known of all loops that have begun and not ended, at each node of a procedure
module _ (t : Tree) (b : BlockParts) (p : IsMadeOfNodes t b) where
  pub all_turns : (n : ℕ) (k : LoweringParts) → GoesThrough p.first p.begun n k → n ≤ p.last → Follows k (ending t b p) → TurnsKnown (moment p.first p.begun n k (ending t b p))
  all_turns n k GoesThrough.none h f = record {
    noted = λ number v c is has. absurd (none_carried number c (subst (λ (d : DrawingParts). slice_get d.carried number ≡ Some c) p.fresh.drawing is));
    within = λ e turn i u. absurd (subst (λ (fs : List Frame). IsOf fs e) p.fresh.frames i);
    apart = subst (λ (fs : List Frame). AreApart fs) (sym p.fresh.frames) tt;
  }
    where
      none_carried : (number : ℕ) (c : Carried) → slice_get [] number ≡ Some c → ⊥
      none_carried number c is = cc
  all_turns n k (GoesThrough.one_more node l m through done) h f =
      let step = (passes_follow t b p node l k (node + 1) k (record { reached = through; done = done; on = GoesThrough.none }) h).0 in
      let on_to = plain_then l k (ending t b p) step f in
      let known = known_at t b p node l through (omega (arith, h)) on_to in
      let tree = tree_at t b p node l through (omega (arith, h)) in
      let never = p.within node (omega (arith, h)) (through_within p.first p.begun node l through) in
      let x = moment p.first p.begun node l (ending t b p) in
      done_known x known through k done step f (all_turns node l through (omega (arith, h)) on_to) (λ q. never.0 (subst (λ (y : Tree). HasForm y node forms.NoParameters) tree q), λ q. never.1 (subst (λ (y : Tree). HasForm y node forms.AddProcedure) tree q))

-- what a loop finds noted where its block ends was noted at a node of that block
pub noted_in : (x : Moment) → TurnsKnown x → (turns : Turns) (control : Output) (block : ℕ) → IsLastFrame x.at (frames.Block turns control block) → (number : ℕ) (c : Carried) → slice_get x.at.drawing.carried number ≡ Some c → c.turn ≡ turns.turn → (v : ℕ) → c.next ≡ Some v → HasNoted x number c v
noted_in x known turns control block last number c is of v has = by (known.noted number v c is has)
  where
    by : IsNotedOrPast x number c v → HasNoted x number c v
    by (inl h) = h
    by (inr h) = absurd (h.1 (frames.Block turns control block) (subst (λ (es : List Frame). IsOf es (frames.Block turns control block)) (sym last.1) (of_last last.0 (frames.Block turns control block))) (sym of))

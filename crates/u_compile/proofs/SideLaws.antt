-- Sides that are entered and left step by step.
use Rattle.std.proofs.Common.{◌≡◌, ℕ, true, false, sym, ap, ◌∙◌, subst, [], ◌∷◌, ◌++◌}
use Rattle.u_compile.specs.declared.graph.Output.{Output}
use Rattle.u_compile.specs.declared.lowering.Frame.{Frame}
use Rattle.u_compile.specs.declared.lowering.Frame.TheVariants as frames
use Rattle.u_compile.specs.declared.lowering.Operand.TheVariants.{Value}
use Rattle.u_compile.specs.declared.lowering.Sides.{Sides}
use Rattle.u_compile.specs.declared.lowering.Turns.{Turns}
use Rattle.u_compile.specs.Drawings.{DrawingParts, Grows, Chooses, Merges}
use Rattle.u_compile.specs.Operands.{LoweringParts, with_operand}
use Rattle.u_compile.specs.Sides.{AddsSide, OpensSide, IsLastFrame, IsFramePopped, in_scope, with_frames, some_sides, on_other, OpensSides, OpensOther, Joins, KeepsGate}
use Rattle.u_compile.specs.Turns.{EntersBlock}

pub last_is : (l : LoweringParts) (f g : Frame) → IsLastFrame l f → f ≡ g → IsLastFrame l g
last_is l f g last same = subst (λ (x : Frame). IsLastFrame l x) same last

pub popped_is : (l m : LoweringParts) (f g : Frame) → IsFramePopped l m f → f ≡ g → IsFramePopped l m g
popped_is l m f g popped same = subst (λ (x : Frame). IsFramePopped l m x) same popped

pub opens_sides : (l n q m : LoweringParts) (d : DrawingParts) (value whole : ℕ) (control : Output) (side : ℕ) → Chooses l.drawing d value control → n ≡ record l { drawing = d } → OpensSide n q l.scene.scope control true side → m ≡ in_scope (with_frames q (q.frames ++ (frames.Sides (some_sides whole control l.scene.scope side) ∷ []))) side → OpensSides value whole l m
opens_sides l n q m d value whole control side chooses noted opens is =
    let f = frames.Sides (some_sides whole control l.scene.scope side) in
    let drawn : n.drawing ≡ d = ap (λ (x : LoweringParts). x.drawing) noted in
    let now : q ≡ record l { drawing = q.drawing } = opens.rest ∙ ap (λ (x : LoweringParts). record x { drawing = q.drawing }) noted in
    let all : m ≡ record (in_scope (with_frames l (l.frames ++ (f ∷ []))) side) { drawing = q.drawing } = is ∙ ap (λ (x : LoweringParts). in_scope (with_frames x (x.frames ++ (f ∷ []))) side) now in
    let same : q.drawing ≡ m.drawing = sym (ap (λ (x : LoweringParts). x.drawing) all) in
    record {
      chosen = d;
      control = control;
      chooses = chooses;
      side = side;
      adds = subst (λ (e : DrawingParts). AddsSide d e l.scene.scope control true side) same (subst (λ (e : DrawingParts). AddsSide e q.drawing l.scene.scope control true side) drawn opens.side);
      rest = all ∙ ap (λ (e : DrawingParts). record (in_scope (with_frames l (l.frames ++ (f ∷ []))) side) { drawing = e }) same;
    }

-- the other side is entered
pub opens_other : (l ended q m : LoweringParts) (s : Sides) (side : ℕ) → IsFramePopped l ended (frames.Sides s) → OpensSide ended q s.around s.control false side → m ≡ in_scope (with_frames q (q.frames ++ (frames.Sides (on_other s side) ∷ []))) side → OpensOther l m
opens_other l ended q m s side popped opens is =
    let f = frames.Sides (on_other s side) in
    let all : m ≡ record (in_scope (with_frames ended (ended.frames ++ (f ∷ []))) side) { drawing = q.drawing } = is ∙ ap (λ (x : LoweringParts). in_scope (with_frames x (x.frames ++ (f ∷ []))) side) opens.rest in
    let same : q.drawing ≡ m.drawing = sym (ap (λ (x : LoweringParts). x.drawing) all) in
    record {
      sides = s;
      ended = ended;
      popped = popped;
      side = side;
      adds = subst (λ (e : DrawingParts). AddsSide ended.drawing e s.around s.control false side) same opens.side;
      rest = all ∙ ap (λ (e : DrawingParts). record (in_scope (with_frames ended (ended.frames ++ (f ∷ []))) side) { drawing = e }) same;
    }

pub joins : (l n : LoweringParts) (d : DrawingParts) (left right value : ℕ) → Merges l.drawing d left right value → n ≡ with_operand (record l { drawing = d }) (Value value) → Joins left right l n
joins l n d left right value merges pushed =
    let same : d ≡ n.drawing = sym (ap (λ (x : LoweringParts). x.drawing) pushed) in
    record {
      value = value;
      merges = subst (λ (e : DrawingParts). Merges l.drawing e left right value) same merges;
      rest = pushed ∙ ap (λ (e : DrawingParts). record (with_operand l (Value value)) { drawing = e }) same;
    }

pub keeps_gate : (l n : LoweringParts) (d : DrawingParts) → Grows l.drawing d → n ≡ record l { drawing = d } → KeepsGate l n
keeps_gate l n d grows noted =
    let same : d ≡ n.drawing = sym (ap (λ (x : LoweringParts). x.drawing) noted) in
    record { grows = subst (λ (e : DrawingParts). Grows l.drawing e) same grows; rest = noted ∙ ap (λ (e : DrawingParts). record l { drawing = e }) same }

-- the block of a loop is entered
pub enters_block : (l n p q m : LoweringParts) (turns : Turns) (d : DrawingParts) (value : ℕ) (control : Output) (side : ℕ) → Chooses l.drawing d value control → n ≡ record l { drawing = d } → p ≡ n → OpensSide p q turns.turn control true side → m ≡ in_scope (with_frames q (q.frames ++ (frames.Block turns control side ∷ []))) side → EntersBlock turns value l m
enters_block l n p q m turns d value control side chooses noted tested opens is =
    let f = frames.Block turns control side in
    let before : p ≡ record l { drawing = d } = tested ∙ noted in
    let drawn : p.drawing ≡ d = ap (λ (x : LoweringParts). x.drawing) before in
    let now : q ≡ record l { drawing = q.drawing } = opens.rest ∙ ap (λ (x : LoweringParts). record x { drawing = q.drawing }) before in
    let whole : m ≡ record (in_scope (with_frames l (l.frames ++ (f ∷ []))) side) { drawing = q.drawing } = is ∙ ap (λ (x : LoweringParts). in_scope (with_frames x (x.frames ++ (f ∷ []))) side) now in
    let same : q.drawing ≡ m.drawing = sym (ap (λ (x : LoweringParts). x.drawing) whole) in
    record {
      chosen = d;
      control = control;
      chooses = chooses;
      side = side;
      adds = subst (λ (e : DrawingParts). AddsSide d e turns.turn control true side) same (subst (λ (e : DrawingParts). AddsSide e q.drawing turns.turn control true side) drawn opens.side);
      rest = whole ∙ ap (λ (e : DrawingParts). record (in_scope (with_frames l (l.frames ++ (f ∷ []))) side) { drawing = e }) same;
    }

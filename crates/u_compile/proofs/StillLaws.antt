-- What stays at steps at which nothing begins and nothing ends: what has begun, and what is noted for the next turn.
use Rattle.std.proofs.Common.{◌≡◌, ℕ, refl, sym, ap, ◌∙◌, subst, true, List, Option, Some, None}
use Rattle.std.proofs.lemmas.Bool.{false≢true}
use Rattle.u_program.specs.declared.program.Kind.{Kind}
use Rattle.u_source.specs.declared.form.Form.{Form}
use Rattle.u_source.specs.declared.form.Form.TheVariants as forms
use Rattle.u_compile.specs.declared.lowering.Operand.{Operand}
use Rattle.u_compile.specs.declared.lowering.Sides.{Sides}
use Rattle.u_compile.specs.declared.lowering.Start.{Start}
use Rattle.u_compile.specs.Drawings.{DrawingParts, AddsOpen, Grows}
use Rattle.u_compile.specs.Operands.{LoweringParts, GoesOn, IsPopped, Pops, Pushes, TakesOne, TakesTwo, TakesSwapped, Operates, Reads}
use Rattle.u_compile.specs.Definitions.{Defines, TakesParameter}
use Rattle.u_compile.specs.Sides.{KeepsGate, ClosesSides}
use Rattle.u_compile.specs.Loops.{StartsVariable, BindsLimit, CarriesEach, TestsLimit, EndsLoop}
use Rattle.u_compile.specs.Steps.{IsItem}
use Rattle.u_compile.specs.Walks.{is_item}
use Rattle.u_compile.proofs.DrawingLaws.{opens_none, opens_then}
use Rattle.u_compile.proofs.FollowLaws.{calls_grow}

-- what has begun stays, and what is carried in addition has no value in the next turn
pub record Still (l m : LoweringParts) : Type 0 where
  pub frames : m.frames ≡ l.frames
  pub opened : AddsOpen l.drawing.carried m.drawing.carried

pub same_still : (l m : LoweringParts) → m.frames ≡ l.frames → m.drawing ≡ l.drawing → Still l m
same_still l m same drawn = record { frames = same; opened = subst (λ (d : DrawingParts). AddsOpen l.drawing.carried d.carried) (sym drawn) (opens_none l.drawing.carried) }

pub grown_still : (l m : LoweringParts) → m.frames ≡ l.frames → Grows l.drawing m.drawing → Still l m
grown_still l m same g = record { frames = same; opened = g.opened }

pub then_still : (l k m : LoweringParts) → Still l k → Still k m → Still l m
then_still l k m f g = record { frames = g.frames ∙ f.frames; opened = opens_then l.drawing.carried k.drawing.carried m.drawing.carried f.opened g.opened }

pub plain_still : (l m : LoweringParts) → m ≡ l → Still l m
plain_still l m same = same_still l m (ap (λ (y : LoweringParts). y.frames) same) (ap (λ (y : LoweringParts). y.drawing) same)

pub goes_still : (l m : LoweringParts) → GoesOn l m → Still l m
goes_still l m g = grown_still l m (ap (λ (y : LoweringParts). y.frames) g.rest) g.grows

pub popped_still : (l m : LoweringParts) (o : Operand) → IsPopped l m o → Still l m
popped_still l m o h = same_still l m (ap (λ (y : LoweringParts). y.frames) h.1) (ap (λ (y : LoweringParts). y.drawing) h.1)

pub pops_still : (l m : LoweringParts) (vs : List ℕ) → Pops l m vs → Still l m
pops_still l m vs p = grown_still l m (ap (λ (y : LoweringParts). y.frames) p.goes_on.rest) p.goes_on.grows

pub pushes_still : (l m : LoweringParts) (kind : Kind) (ins : List ℕ) → Pushes l m kind ins → Still l m
pushes_still l m kind ins p = grown_still l m (ap (λ (y : LoweringParts). y.frames) p.rest) p.gives.adds.grows

one_still : (kind : Kind) (l m : LoweringParts) → TakesOne kind l m → Still l m
one_still kind l m t = then_still l t.between m (pops_still l t.between _ t.pops) (pushes_still t.between m _ _ t.pushes)

two_still : (kind : Kind) (l m : LoweringParts) → TakesTwo kind l m → Still l m
two_still kind l m t = then_still l t.between m (pops_still l t.between _ t.pops) (pushes_still t.between m _ _ t.pushes)

swapped_still : (kind : Kind) (l m : LoweringParts) → TakesSwapped kind l m → Still l m
swapped_still kind l m t = then_still l t.between m (pops_still l t.between _ t.pops) (pushes_still t.between m _ _ t.pushes)

pub operates_still : (f : Form) (l m : LoweringParts) → Operates f l m → Still l m
operates_still forms.Or l m o = two_still _ l m o
operates_still forms.And l m o = two_still _ l m o
operates_still forms.Less l m o = two_still _ l m o
operates_still forms.AtMost l m o = two_still _ l m o
operates_still forms.Greater l m o = swapped_still _ l m o
operates_still forms.AtLeast l m o = swapped_still _ l m o
operates_still forms.Equal l m o = two_still _ l m o
operates_still forms.Unequal l m o = then_still l o.between m (two_still _ l o.between o.equal) (one_still _ o.between m o.no)
operates_still forms.Add l m o = two_still _ l m o
operates_still forms.Subtract l m o = two_still _ l m o
operates_still forms.Multiply l m o = two_still _ l m o
operates_still forms.Divide l m o = two_still _ l m o
operates_still forms.Remainder l m o = two_still _ l m o
operates_still forms.Not l m o = one_still _ l m o
operates_still forms.Length l m o = one_still _ l m o
operates_still forms.Array l m o = one_still _ l m o
operates_still forms.Negate l m o = then_still l o.between m (pops_still l o.between _ o.pops) (then_still o.between o.after m (goes_still o.between o.after o.goes_on) (pushes_still o.after m _ _ o.pushes))
operates_still f l m o = plain_still l m o

names_still : (l taken named : LoweringParts) (o p : Operand) → IsPopped l taken o → IsPopped taken named p → Still l named
names_still l taken named o p a b = then_still l taken named (popped_still l taken o a) (popped_still taken named p b)

defines_still : (l m : LoweringParts) (n : ℕ) → Defines l m n → Still l m
defines_still l m n (Defines.constant taken named atom k popped name written aliased) = then_still l named m (names_still l taken named _ _ popped name.1) (same_still named m (ap (λ (y : LoweringParts). y.frames) aliased) (ap (λ (y : LoweringParts). y.drawing) aliased))
defines_still l m n (Defines.value taken named resolved o v popped name none goes is same) = then_still l named m (names_still l taken named _ _ popped name.1) (then_still named resolved m (goes_still named resolved goes) (same_still resolved m (ap (λ (y : LoweringParts). y.frames) same) (ap (λ (y : LoweringParts). y.drawing) same)))

reads_still : (n : ℕ) (l m : LoweringParts) → Reads n l m → Still l m
reads_still n l m (Reads.waits is same) = plain_still l m same
reads_still n l m (Reads.read is takes) = two_still _ l m takes

-- at an item that is no `next`
pub item_still : (f : Form) (n : ℕ) (l m : LoweringParts) → IsItem f n l m → is_item f ≡ true → (f ≡ forms.Next → ⊥) → Still l m
item_still forms.Index n l m h e never = reads_still n l m h
item_still forms.Call n l m h e never = then_still l h.between m (grown_still l h.between (ap (λ (y : LoweringParts). y.frames) h.goes_on.rest) h.goes_on.grows) (grown_still h.between m (ap (λ (y : LoweringParts). y.frames) h.rest) (calls_grow _ _ _ _ _ h.calls))
item_still forms.NoArguments n l m h e never = same_still l m (ap (λ (y : LoweringParts). y.frames) h) (ap (λ (y : LoweringParts). y.drawing) h)
item_still forms.Define n l m h e never = defines_still l m n h
item_still forms.Write n l m h e never = then_still l h.between m (pops_still l h.between _ h.pops) (grown_still h.between m (ap (λ (y : LoweringParts). y.frames) h.rest) h.gives.adds.grows)
item_still forms.Statement n l m h e never = popped_still l m h.0 h.1
item_still forms.Next n l m h e never = absurd (never refl)
item_still forms.Name n l m h e never = same_still l m (ap (λ (y : LoweringParts). y.frames) h) (ap (λ (y : LoweringParts). y.drawing) h)
item_still forms.Number n l m h e never = same_still l m (ap (λ (y : LoweringParts). y.frames) h) (ap (λ (y : LoweringParts). y.drawing) h)
item_still forms.Negative n l m h e never = same_still l m (ap (λ (y : LoweringParts). y.frames) h) (ap (λ (y : LoweringParts). y.drawing) h)
item_still forms.True n l m h e never = same_still l m (ap (λ (y : LoweringParts). y.frames) h) (ap (λ (y : LoweringParts). y.drawing) h)
item_still forms.False n l m h e never = same_still l m (ap (λ (y : LoweringParts). y.frames) h) (ap (λ (y : LoweringParts). y.drawing) h)
item_still f n l m h e never = absurd (false≢true e)

pub parameter_still : (l m : LoweringParts) (n : ℕ) → TakesParameter l m n → Still l m
parameter_still l m n t = then_still l t.named m (popped_still l t.named _ t.name.1) (grown_still t.named m (ap (λ (y : LoweringParts). y.frames) t.rest) t.gives.adds.grows)

pub variable_still : (n : ℕ) (l m : LoweringParts) → StartsVariable n l m → Still l m
variable_still n l m s = then_still l s.taken m (pops_still l s.taken _ s.pops) (then_still s.taken s.named m (popped_still s.taken s.named _ s.name.1) (same_still s.named m (ap (λ (y : LoweringParts). y.frames) s.starts.rest) (ap (λ (y : LoweringParts). y.drawing) s.starts.rest)))

pub loop_still : (n : ℕ) (l m : LoweringParts) → EndsLoop n l m → Still l m
loop_still n l m (EndsLoop.let_go o vain popped) = popped_still l m o popped
loop_still n l m (EndsLoop.stays never same) = plain_still l m same

-- what is done where a loop begins, besides
pub limit_still : (n : ℕ) (limit : Option ℕ) (l m : LoweringParts) → BindsLimit n limit l m → Still l m
limit_still n (Some x) l m same = same_still l m (ap (λ (y : LoweringParts). y.frames) same) (ap (λ (y : LoweringParts). y.drawing) same)
limit_still n None l m same = plain_still l m same

pub limit_drawn : (n : ℕ) (limit : Option ℕ) (l m : LoweringParts) → BindsLimit n limit l m → m.drawing ≡ l.drawing
limit_drawn n (Some x) l m same = ap (λ (y : LoweringParts). y.drawing) same
limit_drawn n None l m same = ap (λ (y : LoweringParts). y.drawing) same

pub each_still : (turn : ℕ) (l : LoweringParts) (ss : List Start) (m : LoweringParts) → CarriesEach turn l ss m → Still l m
each_still turn l ss m CarriesEach.none = plain_still l l refl
each_still turn l ss m (CarriesEach.one_more rest s k x before carries) = then_still l k m (each_still turn l rest k before) (grown_still k m (ap (λ (y : LoweringParts). y.frames) carries.rest) carries.carries.gives.adds.grows)

pub test_still : (turn clock n : ℕ) (limit : Option ℕ) (l m : LoweringParts) → TestsLimit turn clock n limit l m → Still l m
test_still turn clock n (Some x) l m t = then_still l t.one m (goes_still l t.one t.goes_on) (then_still t.one t.both m (goes_still t.one t.both t.goes_further) (pushes_still t.both m _ _ t.pushes))
test_still turn clock n None l m same = plain_still l m same

-- and where sides end
gate_still : (l m : LoweringParts) → KeepsGate l m → Still l m
gate_still l m k = grown_still l m (ap (λ (y : LoweringParts). y.frames) k.rest) k.grows

pub sides_still : (s : Sides) (l m : LoweringParts) → ClosesSides s l m → Still l m
sides_still s l m (ClosesSides.unwanted is keeps) = gate_still l m keeps
sides_still s l m (ClosesSides.wanted is joined joins keeps) = then_still l joined m (grown_still l joined (ap (λ (y : LoweringParts). y.frames) joins.joins.rest) joins.joins.merges.grows) (gate_still joined m keeps)

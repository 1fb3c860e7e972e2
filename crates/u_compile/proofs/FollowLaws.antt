-- What stays while a procedure goes on, step by step: and each value that a name has comes from one to which it was bound.
use Rattle.std.proofs.Common.{◌≡◌, ℕ, ◌+◌, ◌⊎◌, inl, inr, refl, sym, ap, ◌∙◌, subst, Bool, true, false, List, [], ◌∷◌, ◌++◌, length, take, drop, zero, suc, Option, Some, None}
use Rattle.std.specs.Prelude.{slice_get}
use Rattle.std.proofs.lemmas.Bool.{false≢true}
use Rattle.std.proofs.lemmas.List.{append-nil}
use Rattle.u_program.specs.declared.program.Kind.{Kind}
use Rattle.u_program.specs.declared.program.Kind.TheVariants.{Binary, Unary, Alloc, Fetch}
use Rattle.u_value.specs.declared.operators.BinaryOperator.TheVariants as binary
use Rattle.u_value.specs.declared.operators.UnaryOperator.TheVariants as unary
use Rattle.u_source.specs.declared.form.Form.{Form}
use Rattle.u_source.specs.declared.form.Form.TheVariants as forms
use Rattle.u_compile.specs.declared.graph.Output.{Output}
use Rattle.u_compile.specs.declared.drawing.Scope.{Scope}
use Rattle.u_compile.specs.declared.drawing.Way.TheVariants.{Side, Turn}
use Rattle.u_compile.specs.declared.naming.Alias.{Alias}
use Rattle.u_compile.specs.declared.naming.Binding.{Binding}
use Rattle.u_compile.specs.declared.naming.ConstantBinding.{ConstantBinding}
use Rattle.u_compile.specs.declared.lowering.Frame.{Frame}
use Rattle.u_compile.specs.declared.lowering.Frame.TheVariants as frames
use Rattle.u_compile.specs.declared.lowering.Operand.{Operand}
use Rattle.u_compile.specs.declared.lowering.Operand.TheVariants.{Atom, Value, Arguments}
use Rattle.u_compile.specs.declared.lowering.Sides.{Sides}
use Rattle.u_compile.specs.declared.lowering.Start.{Start}
use Rattle.u_compile.specs.declared.lowering.Turns.{Turns}
use Rattle.u_compile.specs.declared.tree.Tree.{Tree}
use Rattle.u_compile.specs.Scoped.{IsOf}
use Rattle.u_compile.specs.Trees.{HasForm, IsParent, IsGiven}
use Rattle.u_compile.specs.Drawings.{DrawingParts, GoesOn as Continues, Grows, IsEntered, Calls, Leaves, Chooses, own, pass, NotesNext, Comes, it, with_scope}
use Rattle.u_compile.specs.Namings.{KnownParts, IsNamed, IsConstant, a_binding, with_alias, with_binding}
use Rattle.u_compile.specs.Operands.{SceneParts, LoweringParts, IsOperand, AreOperands, GoesOn, IsPopped, Pops, Pushes, TakesOne, TakesTwo, TakesSwapped, Negates, Differs, Operates, Reads, waits, read, Writes, TakesCall}
use Rattle.u_compile.specs.Definitions.{Defines, PopsName, TakesParameter, with_names}
use Rattle.u_compile.specs.Sides.{AddsSide, IsFramePopped, OpensSides, OpensIf, OpensElse, LeavesSide, ClosesSide, Selects, JoinsSides, KeepsGate, ClosesSides, ClosesIf, some_sides, on_other, noted, with_left}
use Rattle.u_compile.specs.Turns.{OpensTurn, TestsCounter, GoesRound, ClosesTurn, ClosesTurns}
use Rattle.u_compile.specs.Loops.{TakesNext, Starts, StartsVariable, StartsCounter, OpensVariables, BindsLimit, AddsTurns, CarriesStart, CarriesEach, CarriesVariables, TestsLimit, OpensLoop, Counts, ClosesVariable, ClosesEach, ClosesLoop, EndsLoop, some_turns}
use Rattle.u_compile.specs.Bodies.{Opens, Closes, EndsProcedure, with_procedure}
use Rattle.u_compile.specs.Steps.{IsItem, IsWhole}
use Rattle.u_compile.specs.Walks.{IsDone, item, whole, is_item, AllMade}
use Rattle.u_compile.specs.Uses.{IsLeft, IsInside, GivesParameter, Binds, Begins}
use Rattle.u_compile.proofs.DrawingLaws.{get_goes_on, get_last, opens_none, on_self, on_then, on_one, grows_self, grows_then}
use Rattle.u_compile.proofs.CarriedLaws.{MayHave, NotesStay, none_may, given_may, more_may, notes_stay}
use Rattle.u_compile.proofs.GateLaws.{of_append, of_last}
use Rattle.u_compile.proofs.KnownLaws.{comes_then}
use Rattle.u_compile.proofs.LoopLaws.{each_starts}
use Rattle.u_compile.proofs.ExtendLaws.{Extends, extends_grown, extends_carried, extends_then, comes_extends, named_extends, constant_extends, inside_extends, named_more, constant_more, of_more, leaves_left}

-- What stays when a procedure goes on: the tree and the blocks before, its statements, arcs, scopes and values, the bindings, the
-- values for the next turn, and that each constant was made so.
pub record Follows (l m : LoweringParts) : Type 0 where
  pub tree : m.scene.tree ≡ l.scene.tree
  pub blocks : m.blocks ≡ l.blocks
  pub extends : Extends l.drawing m.drawing
  pub bindings : Continues l.scene.names.bindings m.scene.names.bindings
  pub notes : NotesStay l.drawing m.drawing
  pub made : AllMade l → AllMade m

pub plain_same : (l m : LoweringParts) → m ≡ l → Follows l m
plain_same l m e = subst (λ (x : LoweringParts). Follows l x) (sym e) (record { tree = refl; blocks = refl; extends = extends_grown l.drawing l.drawing (grows_self l.drawing); bindings = on_self l.scene.names.bindings; notes = λ number v c is has. is; made = λ all. all })

pub plain_then : (l k m : LoweringParts) → Follows l k → Follows k m → Follows l m
plain_then l k m f g = record {
  tree = g.tree ∙ f.tree;
  blocks = g.blocks ∙ f.blocks;
  extends = extends_then l.drawing k.drawing m.drawing f.extends g.extends;
  bindings = on_then l.scene.names.bindings k.scene.names.bindings m.scene.names.bindings f.bindings g.bindings;
  notes = λ number v c is has. g.notes number v c (f.notes number v c is has) has;
  made = λ all. g.made (f.made all);
}

abbrev moved : LoweringParts → DrawingParts → ℕ → List Operand → List Frame → List Start → LoweringParts
moved l d scope os fs ss = record l { scene = record l.scene { scope = scope }; drawing = d; operands = os; frames = fs; starts = ss }

pub plain_grown : (l m : LoweringParts) (d : DrawingParts) (scope : ℕ) (os : List Operand) (fs : List Frame) (ss : List Start) → Grows l.drawing d → m ≡ moved l d scope os fs ss → Follows l m
plain_grown l m d scope os fs ss g same = subst (λ (x : LoweringParts). Follows l x) (sym same) (record {
  tree = refl;
  blocks = refl;
  extends = extends_grown l.drawing d g;
  bindings = on_self l.scene.names.bindings;
  notes = λ number v c is has. get_goes_on l.drawing.carried d.carried number c g.carried is;
  made = λ all c h. constant_extends l.drawing d (extends_grown l.drawing d g) l.scene.names.bindings c.scope c.constant c.value (all c h);
})

plain_bound : (l m : LoweringParts) (d : DrawingParts) (b : Binding) → Grows l.drawing d → m ≡ record (with_names l (with_binding l.scene.names b)) { drawing = d } → Follows l m
plain_bound l m d b g same = subst (λ (x : LoweringParts). Follows l x) (sym same) (record {
  tree = refl;
  blocks = refl;
  extends = extends_grown l.drawing d g;
  bindings = on_one l.scene.names.bindings b;
  notes = λ number v c is has. get_goes_on l.drawing.carried d.carried number c g.carried is;
  made = λ all c h. constant_more d l.scene.names.bindings (b ∷ []) c.scope c.constant c.value (constant_extends l.drawing d (extends_grown l.drawing d g) l.scene.names.bindings c.scope c.constant c.value (all c h));
})

plain_aliased : (l m : LoweringParts) (a : Alias) → m ≡ with_names l (with_alias l.scene.names a) → Follows l m
plain_aliased l m a same = subst (λ (x : LoweringParts). Follows l x) (sym same) (record { tree = refl; blocks = refl; extends = extends_grown l.drawing l.drawing (grows_self l.drawing); bindings = on_self l.scene.names.bindings; notes = λ number v c is has. is; made = λ all. all })

pub plain_noted : (l m : LoweringParts) (number value : ℕ) → NotesNext l.drawing m.drawing number value → MayHave l.drawing.carried number value → m ≡ record l { drawing = m.drawing } → Follows l m
plain_noted l m number value notes may same = subst (λ (x : LoweringParts). Follows l x) (sym same) (record {
  tree = refl;
  blocks = refl;
  extends = carried;
  bindings = on_self l.scene.names.bindings;
  notes = notes_stay l.drawing m.drawing number value notes may;
  made = λ all c h. constant_extends l.drawing m.drawing carried l.scene.names.bindings c.scope c.constant c.value (all c h);
})
  where
    carried : Extends l.drawing m.drawing
    carried = subst (λ (d : DrawingParts). Extends l.drawing d) (sym notes.now) (extends_carried l.drawing _)

pub plain_goes : (l m : LoweringParts) → GoesOn l m → Follows l m
plain_goes l m a =
    let bs = l.scene.names.bindings in
    let same : m.scene.names.bindings ≡ bs ++ a.learns.bindings = ap (λ (k : KnownParts). k.bindings) a.learns.are in
    record {
      tree = ap (λ (x : LoweringParts). x.scene.tree) a.rest;
      blocks = ap (λ (x : LoweringParts). x.blocks) a.rest;
      extends = extends_grown l.drawing m.drawing a.grows;
      bindings = (a.learns.bindings, same);
      notes = λ number v c is has. get_goes_on l.drawing.carried m.drawing.carried number c a.grows.carried is;
      made = λ all c h. subst (λ (xs : List Binding). IsConstant m.drawing xs c.scope c.constant c.value) (sym same) (constant_more m.drawing bs a.learns.bindings c.scope c.constant c.value (before all c (of_append l.scene.names.constants a.learns.constants c (subst (λ (k : KnownParts). IsOf k.constants c) a.learns.are h))));
    }
  where
    before : AllMade l → (c : ConstantBinding) → IsOf l.scene.names.constants c ⊎ IsOf a.learns.constants c → IsConstant m.drawing l.scene.names.bindings c.scope c.constant c.value
    before all c (inl i) = constant_extends l.drawing m.drawing (extends_grown l.drawing m.drawing a.grows) l.scene.names.bindings c.scope c.constant c.value (all c i)
    before all c (inr i) = a.learns.made c i

pub calls_grow : (d e : DrawingParts) (p : ℕ) (vs : List ℕ) (v : ℕ) → Calls d e p vs v → Grows d e
calls_grow d e p vs v c = grows_then d c.between e c.apply.grows c.back.adds.grows

scope_grows : (d : DrawingParts) (s : Scope) → Grows d (with_scope d s)
scope_grows d s = record {
  statements = on_self d.statements;
  links = on_self d.links;
  scopes = on_one d.scopes s;
  values = on_self d.values;
  carried = on_self d.carried;
  opened = opens_none d.carried;
  places = on_self d.places;
  fed = λ n port h. refl;
}

pub side_grows : (d e : DrawingParts) (around : ℕ) (control : Output) (on : Bool) (s : ℕ) → AddsSide d e around control on s → Grows d e
side_grows d e around control on s a = subst (λ (x : DrawingParts). Grows d x) (sym a.adds) (scope_grows d _)

pub turns_grow : (around clock : ℕ) (d e : DrawingParts) (turn : ℕ) → AddsTurns around clock d e turn → Grows d e
turns_grow around clock d e turn a = subst (λ (x : DrawingParts). Grows d x) (sym a.adds) (scope_grows d _)

pub chooses_grow : (d e : DrawingParts) (v : ℕ) (o : Output) → Chooses d e v o → Grows d e
chooses_grow d e v o (own same is) = subst (λ (x : DrawingParts). Grows d x) (sym same) (grows_self d)
chooses_grow d e v o (pass none adds is) = adds.grows

pub leaves_grow : (d e : DrawingParts) (value v : ℕ) → Leaves d e value v → Grows d e
leaves_grow d e value v h = grows_then d h.between e h.last.adds.grows h.leave.adds.grows

-- The value of a binding comes from one that was bound so to the same name.
pub record Root (P : LoweringParts → Binding → Type 0) (l : LoweringParts) (b : Binding) : Type 0 where
  pub root : Binding
  pub is : P l root
  pub named : root.name ≡ b.name
  pub comes : Comes l.drawing root.scope root.value b.scope b.value

-- each does
abbrev pub Traced : (LoweringParts → Binding → Type 0) → LoweringParts → Type 0
Traced P l = (b : Binding) → IsOf l.scene.names.bindings b → Root P l b

-- each variable that begins has begun so
abbrev pub AllStarted : (LoweringParts → Start → Type 0) → LoweringParts → Type 0
AllStarted Q l = (s : Start) → IsOf l.starts s → Q l s

-- what stays, and that each value of a name comes from one that was bound so, and each variable that begins has begun so
pub record Keeps (P : LoweringParts → Binding → Type 0) (Q : LoweringParts → Start → Type 0) (l m : LoweringParts) : Type 0 where
  pub follows : Follows l m
  pub traced : Traced P l → Traced P m
  pub started : AllStarted Q l → AllStarted Q m

-- what is bound at the node is bound so
abbrev pub AreBound : (LoweringParts → Binding → Type 0) → ℕ → LoweringParts → Type 0
AreBound P n l = (e : LoweringParts) (b : Binding) → Binds n l e b → P e b

-- what begins at the node has begun so
abbrev pub AreBegun : (LoweringParts → Start → Type 0) → ℕ → LoweringParts → Type 0
AreBegun Q n l = (e : LoweringParts) (s : Start) → Begins n l e s → Q e s

-- so is a variable of a loop, once it went into the turns
abbrev pub IsStartBound : (LoweringParts → Binding → Type 0) → ℕ → ℕ → Start → Type 0
IsStartBound P turn around s = (e : LoweringParts) (loop w : ℕ) → IsInside e.drawing.scopes around (Turn loop) turn → IsEntered e.drawing loop s.value w → P e (a_binding turn s.name w)

-- the scope of the turns is right inside that one
abbrev pub AreTurns : List Scope → ℕ → ℕ → Type 0
AreTurns scopes around turn = (y : Scope) × (slice_get scopes turn ≡ Some y) × (y.around ≡ around)

-- and what it is in the end
abbrev IsLastBound : (LoweringParts → Binding → Type 0) → Tree → Turns → Output → ℕ → ℕ → ℕ → Type 0
IsLastBound P t turns control end block w = (e : LoweringParts) (bs : List Binding) (value last name : ℕ) → IsGiven t block w name → IsInside e.drawing.scopes turns.turn (Side control false) end → Continues (bs ++ (a_binding turns.around name last ∷ [])) e.scene.names.bindings → IsNamed e.drawing bs end name value → IsLeft e.drawing value last → P e (a_binding turns.around name last)

-- what a procedure does at a node of that form: it goes on, begins or ends
pub data Goes (P : LoweringParts → Binding → Type 0) (Q : LoweringParts → Start → Type 0) (f : Form) (n : ℕ) (l m : LoweringParts) : Type 0 where
  on : Keeps P Q l m → (f ≡ forms.NoParameters → ⊥) → (f ≡ forms.AddProcedure → ⊥) → Goes P Q f n l m
  begins : f ≡ forms.NoParameters → m ≡ with_procedure n l → Goes P Q f n l m
  ends : f ≡ forms.AddProcedure → EndsProcedure l m → Goes P Q f n l m

pub of_drop : {A : Type 0} (n : ℕ) (xs : List A) (x : A) → IsOf (drop n xs) x → IsOf xs x
of_drop zero [] x h = h
of_drop zero (y ∷ xs) x h = h
of_drop (suc n) [] x h = h
of_drop (suc n) (y ∷ xs) x h = inr (of_drop n xs x h)

of_take : {A : Type 0} (n : ℕ) (xs : List A) (x : A) → IsOf (take n xs) x → IsOf xs x
of_take zero [] x h = absurd h
of_take zero (y ∷ xs) x h = absurd h
of_take (suc n) [] x h = h
of_take (suc n) (y ∷ xs) x (inl e) = inl e
of_take (suc n) (y ∷ xs) x (inr h) = inr (of_take n xs x h)

some_one : {A : Type 0} (x y : A) → Some x ≡ Some y → x ≡ y
some_one x y e = cc

-- Where what is bound so stays bound so.
module _ (P : LoweringParts → Binding → Type 0) (Q : LoweringParts → Start → Type 0) (grow : (l m : LoweringParts) (b : Binding) → Follows l m → P l b → P m b) (grow_start : (l m : LoweringParts) (s : Start) → Follows l m → Q l s → Q m s) where
  pub same_follows : (l m : LoweringParts) → m ≡ l → Keeps P Q l m
  same_follows l m e = subst (λ (x : LoweringParts). Keeps P Q l x) (sym e) (record { follows = plain_same l l refl; traced = λ all. all; started = λ all. all })

  pub then_follows : (l k m : LoweringParts) → Keeps P Q l k → Keeps P Q k m → Keeps P Q l m
  then_follows l k m f g = record { follows = plain_then l k m f.follows g.follows; traced = λ all. g.traced (f.traced all); started = λ all. g.started (f.started all) }

  root_follows : (l m : LoweringParts) (b : Binding) → Follows l m → Root P l b → Root P m b
  root_follows l m b f r = record {
    root = r.root;
    is = grow l m r.root f r.is;
    named = r.named;
    comes = comes_extends l.drawing m.drawing f.extends r.root.scope r.root.value b.scope b.value r.comes;
  }

  -- the variables that begin
  begun_follow : (l m : LoweringParts) → Follows l m → m.starts ≡ l.starts → AllStarted Q l → AllStarted Q m
  begun_follow l m f same all s h = grow_start l m s f (all s (subst (λ (xs : List Start). IsOf xs s) same h))

  -- nothing is bound
  unbound : (l m : LoweringParts) → Follows l m → m.scene.names.bindings ≡ l.scene.names.bindings → m.starts ≡ l.starts → Keeps P Q l m
  unbound l m f same starts = record { follows = f; traced = λ all b h. root_follows l m b f (all b (subst (λ (bs : List Binding). IsOf bs b) same h)); started = begun_follow l m f starts }

  -- the procedure grows, and nothing is learned of names
  pub grown_follows : (l m : LoweringParts) (d : DrawingParts) (scope : ℕ) (os : List Operand) (fs : List Frame) → Grows l.drawing d → m ≡ moved l d scope os fs l.starts → Keeps P Q l m
  grown_follows l m d scope os fs g same = unbound l m (plain_grown l m d scope os fs l.starts g same) (ap (λ (x : LoweringParts). x.scene.names.bindings) same) (ap (λ (x : LoweringParts). x.starts) same)

  -- what waits changes alone
  pub stacked_follows : (l m : LoweringParts) (scope : ℕ) (os : List Operand) (fs : List Frame) → m ≡ moved l l.drawing scope os fs l.starts → Keeps P Q l m
  stacked_follows l m scope os fs same = grown_follows l m l.drawing scope os fs (grows_self l.drawing) same

  -- and so do the variables that begin, each of which was there or begins so
  pub started_follows : (l m : LoweringParts) (os : List Operand) (fs : List Frame) (ss : List Start) → m ≡ moved l l.drawing l.scene.scope os fs ss → ((s : Start) → IsOf ss s → IsOf l.starts s ⊎ Q m s) → Keeps P Q l m
  started_follows l m os fs ss same each =
      let f = plain_grown l m l.drawing l.scene.scope os fs ss (grows_self l.drawing) same in
      let bound : m.scene.names.bindings ≡ l.scene.names.bindings = ap (λ (x : LoweringParts). x.scene.names.bindings) same in
      record {
        follows = f;
        traced = λ all b h. root_follows l m b f (all b (subst (λ (bs : List Binding). IsOf bs b) bound h));
        started = λ all s h. elim (each s (subst (λ (xs : List Start). IsOf xs s) (ap (λ (x : LoweringParts). x.starts) same) h)) [ inl i ↦ grow_start l m s f (all s i) | inr q ↦ q ];
      }

  aliased_follows : (l m : LoweringParts) (a : Alias) → m ≡ with_names l (with_alias l.scene.names a) → Keeps P Q l m
  aliased_follows l m a same = unbound l m (plain_aliased l m a same) (ap (λ (x : LoweringParts). x.scene.names.bindings) same) (ap (λ (x : LoweringParts). x.starts) same)

  noted_follows : (l m : LoweringParts) (number value : ℕ) → NotesNext l.drawing m.drawing number value → MayHave l.drawing.carried number value → m ≡ record l { drawing = m.drawing } → Keeps P Q l m
  noted_follows l m number value notes may same = unbound l m (plain_noted l m number value notes may same) (ap (λ (x : LoweringParts). x.scene.names.bindings) same) (ap (λ (x : LoweringParts). x.starts) same)

  -- a name is bound
  bound_follows : (l m : LoweringParts) (d : DrawingParts) (b : Binding) → Grows l.drawing d → P m b → m ≡ record (with_names l (with_binding l.scene.names b)) { drawing = d } → Keeps P Q l m
  bound_follows l m d b g is same =
      let f = plain_bound l m d b g same in
      record { follows = f; traced = λ all x h. elim (of_append l.scene.names.bindings (b ∷ []) x (subst (λ (bs : List Binding). IsOf bs x) (ap (λ (y : LoweringParts). y.scene.names.bindings) same) h)) [ inl i ↦ root_follows l m x f (all x i) | inr i ↦ last x i ]; started = begun_follow l m f (ap (λ (y : LoweringParts). y.starts) same) }
    where
      last : (x : Binding) → IsOf (b ∷ []) x → Root P m x
      last x (inl q) = subst (λ (y : Binding). Root P m y) q (record { root = b; is = is; named = refl; comes = it })
      last x (inr q) = absurd q

  -- values of names are brought into scopes
  pub goes_follows : (l m : LoweringParts) → GoesOn l m → Keeps P Q l m
  goes_follows l m a =
      let f = plain_goes l m a in
      let same : m.scene.names.bindings ≡ l.scene.names.bindings ++ a.learns.bindings = ap (λ (k : KnownParts). k.bindings) a.learns.are in
      record { follows = f; traced = λ all x h. elim (of_append l.scene.names.bindings a.learns.bindings x (subst (λ (bs : List Binding). IsOf bs x) same h)) [ inl i ↦ root_follows l m x f (all x i) | inr i ↦ learned all f x (a.learns.named x i) ]; started = begun_follow l m f (ap (λ (y : LoweringParts). y.starts) a.rest) }
    where
      learned : Traced P l → Follows l m → (x : Binding) → IsNamed m.drawing l.scene.names.bindings x.scope x.name x.value → Root P m x
      learned all f x is =
          let r = root_follows l m is.binding f (all is.binding is.is) in
          record {
            root = r.root;
            is = r.is;
            named = r.named ∙ is.named;
            comes = comes_then m.drawing r.root.scope r.root.value is.binding.scope is.binding.value x.scope x.value r.comes is.comes;
          }

  pub popped_follows : (l m : LoweringParts) (o : Operand) → IsPopped l m o → Keeps P Q l m
  popped_follows l m o h = stacked_follows l m l.scene.scope m.operands l.frames h.1

  pub ended_follows : (l m : LoweringParts) (f : Frame) → IsFramePopped l m f → Keeps P Q l m
  ended_follows l m f h = stacked_follows l m l.scene.scope l.operands m.frames h.1

  pub pops_follow : (l m : LoweringParts) (vs : List ℕ) → Pops l m vs → Keeps P Q l m
  pops_follow l m vs p =
      let begun : LoweringParts = record l { operands = m.operands } in
      then_follows l begun m (stacked_follows l begun l.scene.scope m.operands l.frames refl) (goes_follows begun m p.goes_on)

  pub pushes_follow : (l m : LoweringParts) (kind : Kind) (ins : List ℕ) → Pushes l m kind ins → Keeps P Q l m
  pushes_follow l m kind ins p = grown_follows l m m.drawing l.scene.scope (l.operands ++ (Value p.value ∷ [])) l.frames p.gives.adds.grows p.rest

  pub one_follows : (kind : Kind) (l m : LoweringParts) → TakesOne kind l m → Keeps P Q l m
  one_follows kind l m t = then_follows l t.between m (pops_follow l t.between _ t.pops) (pushes_follow t.between m kind _ t.pushes)

  pub two_follow : (kind : Kind) (l m : LoweringParts) → TakesTwo kind l m → Keeps P Q l m
  two_follow kind l m t = then_follows l t.between m (pops_follow l t.between _ t.pops) (pushes_follow t.between m kind _ t.pushes)

  swapped_follow : (kind : Kind) (l m : LoweringParts) → TakesSwapped kind l m → Keeps P Q l m
  swapped_follow kind l m t = then_follows l t.between m (pops_follow l t.between _ t.pops) (pushes_follow t.between m kind _ t.pushes)

  negates_follow : (l m : LoweringParts) → Negates l m → Keeps P Q l m
  negates_follow l m n = then_follows l n.after m (then_follows l n.between n.after (pops_follow l n.between _ n.pops) (goes_follows n.between n.after n.goes_on)) (pushes_follow n.after m _ _ n.pushes)

  differs_follow : (l m : LoweringParts) → Differs l m → Keeps P Q l m
  differs_follow l m d = then_follows l d.between m (two_follow _ l d.between d.equal) (one_follows _ d.between m d.no)

  reads_follow : (n : ℕ) (l m : LoweringParts) → Reads n l m → Keeps P Q l m
  reads_follow n l m (waits is same) = same_follows l m same
  reads_follow n l m (read is takes) = two_follow Fetch l m takes

  writes_follow : (l m : LoweringParts) → Writes l m → Keeps P Q l m
  writes_follow l m w = then_follows l w.between m (pops_follow l w.between _ w.pops) (grown_follows w.between m m.drawing w.between.scene.scope w.between.operands w.between.frames w.gives.adds.grows w.rest)

  call_follows : (l m : LoweringParts) → TakesCall l m → Keeps P Q l m
  call_follows l m t =
      let begun : LoweringParts = record l { operands = t.others } in
      let on = then_follows l begun t.between (stacked_follows l begun l.scene.scope t.others l.frames refl) (goes_follows begun t.between t.goes_on) in
      then_follows l t.between m on (grown_follows t.between m m.drawing t.between.scene.scope (t.between.operands ++ (Value t.value ∷ [])) t.between.frames (calls_grow _ _ _ _ _ t.calls) t.rest)

  defines_follow : (l m : LoweringParts) (n : ℕ) → HasForm l.scene.tree n forms.Define → AreBound P n l → Defines l m n → Keeps P Q l m
  defines_follow l m n form bind (Defines.constant taken named atom k popped name written aliased) = then_follows l named m (then_follows l taken named (popped_follows l taken _ popped) (popped_follows taken named _ name.1)) (aliased_follows named m _ aliased)
  defines_follow l m n form bind (Defines.value taken named resolved o v popped name none goes is same) =
      let scene : named.scene ≡ l.scene = ap (λ (x : LoweringParts). x.scene) name.1.1 ∙ ap (λ (x : LoweringParts). x.scene) popped.1 in
      let scope : resolved.scene.scope ≡ l.scene.scope = ap (λ (x : LoweringParts). x.scene.scope) goes.rest ∙ ap (λ (s : SceneParts). s.scope) scene in
      let drawn : resolved.drawing ≡ m.drawing = sym (ap (λ (x : LoweringParts). x.drawing) same) in
      let operand : IsOperand l.scene m.drawing o v = subst (λ (d : DrawingParts). IsOperand l.scene d o v) drawn (subst (λ (s : SceneParts). IsOperand s resolved.drawing o v) scene is) in
      let b = a_binding resolved.scene.scope n v in
      let before = then_follows l taken named (popped_follows l taken _ popped) (popped_follows taken named _ name.1) in
      then_follows l resolved m (then_follows l named resolved before (goes_follows named resolved goes)) (bound_follows resolved m resolved.drawing b (grows_self resolved.drawing) (bind m b (Binds.definition o form refl scope (taken.operands, popped.0) operand)) same)

  parameter_follows : (l m : LoweringParts) (n : ℕ) → HasForm l.scene.tree n forms.AddParameter → AreBound P n l → TakesParameter l m n → Keeps P Q l m
  parameter_follows l m n form bind t =
      let drawn : t.named.drawing ≡ l.drawing = ap (λ (x : LoweringParts). x.drawing) t.name.1.1 in
      let good : GivesParameter t.named.drawing m.drawing t.value = record { kind = t.kind; is = t.is; stands = t.gives.adds.stands; sends = t.gives.value } in
      let gives : GivesParameter l.drawing m.drawing t.value = subst (λ (d : DrawingParts). GivesParameter d m.drawing t.value) drawn good in
      let b = a_binding 0 n t.value in
      then_follows l t.named m (popped_follows l t.named _ t.name.1) (bound_follows t.named m m.drawing b t.gives.adds.grows (bind m b (Binds.parameter form refl refl gives)) t.rest)

  next_follows : (l m : LoweringParts) → TakesNext l m → Keeps P Q l m
  next_follows l m t = then_follows l t.named m (then_follows l t.taken t.named (pops_follow l t.taken _ t.pops) (popped_follows t.taken t.named _ t.name.taken)) (noted_follows t.named m _ _ t.sets.notes (none_may t.named.drawing.carried t.sets.number t.value _ t.sets.open_before.1 refl) t.rest)

  sides_open : (v w : ℕ) (l m : LoweringParts) → OpensSides v w l m → Keeps P Q l m
  sides_open v w l m o = grown_follows l m m.drawing o.side l.operands (l.frames ++ (frames.Sides (some_sides w o.control l.scene.scope o.side) ∷ [])) (grows_then l.drawing o.chosen m.drawing (chooses_grow _ _ _ _ o.chooses) (side_grows _ _ _ _ _ _ o.adds)) o.rest

  if_opens : (n w : ℕ) (l m : LoweringParts) → OpensIf n w l m → Keeps P Q l m
  if_opens n w l m (OpensIf.choice may taken v pops same) = then_follows l taken m (pops_follow l taken _ pops) (stacked_follows taken m taken.scene.scope taken.operands (taken.frames ++ (frames.Choice v w ∷ [])) same)
  if_opens n w l m (OpensIf.sides never taken v pops opens) = then_follows l taken m (pops_follow l taken _ pops) (sides_open v w taken m opens)

  else_opens : (l m : LoweringParts) → OpensElse l m → Keeps P Q l m
  else_opens l m (OpensElse.choice v w last same) = same_follows l m same
  else_opens l m (OpensElse.sides o) =
      let e = o.ended in
      then_follows l e m (ended_follows l e _ o.popped) (grown_follows e m m.drawing o.side e.operands (e.frames ++ (frames.Sides (on_other o.sides o.side) ∷ [])) (side_grows _ _ _ _ _ _ o.adds) o.rest)

  side_left : (l m : LoweringParts) (s : Sides) → m ≡ with_left l s → Keeps P Q l m
  side_left l m s same = stacked_follows l m s.around l.operands (l.frames ++ (frames.Sides s ∷ [])) same

  side_leaves : (s : Sides) (b : Bool) (l m : LoweringParts) → LeavesSide s b l m → Keeps P Q l m
  side_leaves s b l m (LeavesSide.unwanted is same) = side_left l m s same
  side_leaves s b l m (LeavesSide.wanted is taken v pops same) = then_follows l taken m (pops_follow l taken _ pops) (noted_left taken m s b v same)
    where
      noted_left : (l m : LoweringParts) (s : Sides) (b : Bool) (v : ℕ) → m ≡ with_left l (noted b v s) → Keeps P Q l m
      noted_left l m s true v same = side_left l m (noted true v s) same
      noted_left l m s false v same = side_left l m (noted false v s) same

  side_closes : (w : ℕ) (b : Bool) (l m : LoweringParts) → ClosesSide w b l m → Keeps P Q l m
  side_closes w b l m (ClosesSide.choice last same) = same_follows l m same
  side_closes w b l m (ClosesSide.sides s ended popped leaves) = then_follows l ended m (ended_follows l ended _ popped.popped) (side_leaves s b ended m leaves)

  selects_follow : (control : ℕ) (l m : LoweringParts) → Selects control l m → Keeps P Q l m
  selects_follow control l m s = then_follows l s.taken m (pops_follow l s.taken _ s.pops) (pushes_follow s.taken m _ _ s.pushes)

  joins_follow : (s : Sides) (l m : LoweringParts) → JoinsSides s l m → Keeps P Q l m
  joins_follow s l m j = grown_follows l m m.drawing l.scene.scope (l.operands ++ (Value j.joins.value ∷ [])) l.frames j.joins.merges.grows j.joins.rest

  gate_kept_follows : (l m : LoweringParts) → KeepsGate l m → Keeps P Q l m
  gate_kept_follows l m k = grown_follows l m m.drawing l.scene.scope l.operands l.frames k.grows k.rest

  sides_close : (s : Sides) (l m : LoweringParts) → ClosesSides s l m → Keeps P Q l m
  sides_close s l m (ClosesSides.unwanted is keeps) = gate_kept_follows l m keeps
  sides_close s l m (ClosesSides.wanted is joined joins keeps) = then_follows l joined m (joins_follow s l joined joins) (gate_kept_follows joined m keeps)

  if_closes : (n : ℕ) (l m : LoweringParts) → ClosesIf n l m → Keeps P Q l m
  if_closes n l m (ClosesIf.choice control ended popped selects) = then_follows l ended m (ended_follows l ended _ popped) (selects_follow control ended m selects)
  if_closes n l m (ClosesIf.sides s ended popped of closes) = then_follows l ended m (ended_follows l ended _ popped) (sides_close s ended m closes)

  turn_opens : (l m : LoweringParts) → OpensTurn l m → Keeps P Q l m
  turn_opens l m o =
      let t = o.taken in
      let e = o.enters in
      let on = then_follows l o.ended t (ended_follows l o.ended _ o.frame) (pops_follow o.ended t _ o.pops) in
      then_follows l t m on (grown_follows t m m.drawing e.side t.operands (t.frames ++ (frames.Block o.turns e.control e.side ∷ [])) (grows_then t.drawing e.chosen m.drawing (chooses_grow _ _ _ _ e.chooses) (side_grows _ _ _ _ _ _ e.adds)) e.rest)

  counter_tested : (turn counter limit : ℕ) (l m : LoweringParts) → TestsCounter turn counter limit l m → Keeps P Q l m
  counter_tested turn counter limit l m t = then_follows l t.both m (then_follows l t.one t.both (goes_follows l t.one t.goes_on) (goes_follows t.one t.both t.goes_further)) (pushes_follow t.both m _ _ t.pushes)

  round_goes : (number value : ℕ) (l m : LoweringParts) → MayHave l.drawing.carried number value → GoesRound number value l m → Keeps P Q l m
  round_goes number value l m may g =
      let d = g.adds.between in
      let between : LoweringParts = record l { drawing = d } in
      then_follows l between m (grown_follows l between d l.scene.scope l.operands l.frames g.adds.adds.grows refl) (noted_follows between m number value g.adds.notes (more_may l.drawing.carried d.carried number value g.adds.of.0 g.adds.adds.grows.carried g.adds.of.1 may) g.rest)

  pub turn_closes : (turn block number : ℕ) (l m : LoweringParts) → ClosesTurn turn block number l m → Keeps P Q l m
  turn_closes turn block number l m (ClosesTurn.other c is never same) = same_follows l m same
  turn_closes turn block number l m (ClosesTurn.given c v is of next goes) = round_goes number v l m (given_may l.drawing.carried number v c is next) goes
  turn_closes turn block number l m (ClosesTurn.kept c v between is of next goes_on named goes) = then_follows l between m (goes_follows l between goes_on) (round_goes number v between m (none_may between.drawing.carried number v c (get_goes_on l.drawing.carried between.drawing.carried number c goes_on.grows.carried is) next) goes)

  pub turns_close : (turn block : ℕ) (l : LoweringParts) (n : ℕ) (m : LoweringParts) → ClosesTurns turn block l n m → Keeps P Q l m
  turns_close turn block l n m ClosesTurns.none = same_follows l l refl
  turns_close turn block l n m (ClosesTurns.one_more number k x before closes) = then_follows l k m (turns_close turn block l number k before) (turn_closes turn block number k m closes)

  starts_follow : (n v : ℕ) (l m : LoweringParts) (begun : Starts n v l m) → Q m begun.start → Keeps P Q l m
  starts_follow n v l m begun is = started_follows l m l.operands l.frames (l.starts ++ (begun.start ∷ [])) begun.rest (λ s h. elim (of_append l.starts (begun.start ∷ []) s h) [ inl i ↦ inl i | inr i ↦ inr (last s i) ])
    where
      last : (s : Start) → IsOf (begun.start ∷ []) s → Q m s
      last s (inl q) = subst (λ (x : Start). Q m x) q is
      last s (inr q) = absurd q

  -- where a name is taken before the values, and a variable begins
  begins_drawing : (n v : ℕ) (t k m : LoweringParts) → PopsName t k → Starts n v k m → t.drawing ≡ m.drawing
  begins_drawing n v t k m name begun = sym (ap (λ (x : LoweringParts). x.drawing) begun.rest ∙ ap (λ (x : LoweringParts). x.drawing) name.1.1)

  variable_starts : (n : ℕ) (l m : LoweringParts) → HasForm l.scene.tree n forms.AddVariable → AreBegun Q n l → StartsVariable n l m → Keeps P Q l m
  variable_starts n l m form begin b = then_follows l b.named m (then_follows l b.taken b.named (pops_follow l b.taken _ b.pops) (popped_follows b.taken b.named _ b.name.1)) (starts_follow _ _ b.named m b.starts (one b.pops.operands b.pops.were b.pops.are))
    where
      one : (os : List Operand) → l.operands ≡ b.taken.operands ++ os → AreOperands l.scene b.taken.drawing os (b.value ∷ []) → Q m b.starts.start
      one [] were are = absurd are
      one (o ∷ []) were are =
          let is : IsOperand l.scene m.drawing o b.starts.start.value = subst (λ (v : ℕ). IsOperand l.scene m.drawing o v) (sym b.starts.is) (subst (λ (d : DrawingParts). IsOperand l.scene d o b.value) (begins_drawing n b.value b.taken b.named m b.name b.starts) are.0) in
          begin m b.starts.start (Begins.variable o form b.starts.name (b.taken.operands, were) is)
      one (o ∷ (p ∷ os)) were are = absurd are.1

  counter_starts : (n : ℕ) (l m : LoweringParts) → HasForm l.scene.tree n forms.NoVariables → AreBegun Q n l → StartsCounter n l m → Keeps P Q l m
  counter_starts n l m form begin b =
      let first = then_follows l b.taken b.named (pops_follow l b.taken _ b.pops) (popped_follows b.taken b.named _ b.name.1) in
      let goes = then_follows l b.named b.started first (starts_follow _ _ b.named b.started b.starts (two b.pops.operands b.pops.were b.pops.are)) in
      then_follows l b.started m goes (stacked_follows b.started m b.started.scene.scope b.started.operands (b.started.frames ++ (frames.Begun (length l.starts) (Some b.limit) ∷ [])) b.rest)
    where
      two : (os : List Operand) → l.operands ≡ b.taken.operands ++ os → AreOperands l.scene b.taken.drawing os (b.value ∷ b.limit ∷ []) → Q b.started b.starts.start
      two [] were are = absurd are
      two (o ∷ []) were are = absurd are.1
      two (o ∷ (p ∷ [])) were are =
          let is : IsOperand l.scene b.started.drawing o b.starts.start.value = subst (λ (v : ℕ). IsOperand l.scene b.started.drawing o v) (sym b.starts.is) (subst (λ (d : DrawingParts). IsOperand l.scene d o b.value) (begins_drawing n b.value b.taken b.named b.started b.name b.starts) are.0) in
          begin b.started b.starts.start (Begins.counter b.taken.operands o p form b.starts.name were is)
      two (o ∷ (p ∷ (q ∷ os))) were are = absurd are.1.1

  variables_open : (n : ℕ) (l m : LoweringParts) → HasForm l.scene.tree n forms.NoVariables → AreBegun Q n l → OpensVariables n l m → Keeps P Q l m
  variables_open n l m form begin (OpensVariables.counting w around is starts) = counter_starts n l m form begin starts
  variables_open n l m form begin (OpensVariables.other w around never same) = stacked_follows l m l.scene.scope l.operands (l.frames ++ (frames.Begun (length l.starts) None ∷ [])) same

  limit_bound : (n : ℕ) (limit : Option ℕ) (l m : LoweringParts) → ((x : ℕ) → limit ≡ Some x → P m (a_binding l.scene.scope n x)) → BindsLimit n limit l m → Keeps P Q l m
  limit_bound n (Some x) l m bind same = bound_follows l m l.drawing (a_binding l.scene.scope n x) (grows_self l.drawing) (bind x refl) same
  limit_bound n None l m bind same = same_follows l m same

  pub limit_starts : (n : ℕ) (limit : Option ℕ) (l m : LoweringParts) → BindsLimit n limit l m → m.starts ≡ l.starts
  limit_starts n (Some x) l m same = ap (λ (y : LoweringParts). y.starts) same
  limit_starts n None l m same = ap (λ (y : LoweringParts). y.starts) same

  start_carried : (turn around : ℕ) (s : Start) (l m : LoweringParts) → AreTurns l.drawing.scopes around turn → IsStartBound P turn around s → CarriesStart turn s l m → Keeps P Q l m
  start_carried turn around s l m within bind c =
      let gives = c.carries.gives in
      let same : c.carries.scope ≡ within.0 = some_one c.carries.scope within.0 (sym c.carries.is ∙ within.1) in
      let at : IsInside m.drawing.scopes around (Turn c.carries.loop) turn = (c.carries.scope, get_goes_on l.drawing.scopes m.drawing.scopes turn c.carries.scope gives.adds.grows.scopes c.carries.is, ap (λ (x : Scope). x.around) same ∙ within.2, c.carries.way) in
      let entered : IsEntered m.drawing c.carries.loop s.value c.inner = record { enter = length l.drawing.statements + 1; stands = gives.adds.stands; fed = gives.adds.fed.0; sends = gives.value } in
      bound_follows l m m.drawing (a_binding turn s.name c.inner) gives.adds.grows (bind m c.carries.loop c.inner at entered) c.rest

  pub each_carried : (turn around : ℕ) (l : LoweringParts) (ss : List Start) (m : LoweringParts) → AreTurns l.drawing.scopes around turn → ((s : Start) → IsOf ss s → IsStartBound P turn around s) → CarriesEach turn l ss m → Keeps P Q l m
  each_carried turn around l ss m within bind CarriesEach.none = same_follows l l refl
  each_carried turn around l ss m within bind (CarriesEach.one_more rest s k x before carries) =
      let first = each_carried turn around l rest k within (λ t h. bind t (of_more rest (s ∷ []) t h)) before in
      let at : AreTurns k.drawing.scopes around turn = (within.0, get_goes_on l.drawing.scopes k.drawing.scopes turn within.0 first.follows.extends.scopes within.1, within.2) in
      then_follows l k m first (start_carried turn around s k m at (bind s (of_last rest s)) carries)

  variables_carried : (turn around waiting : ℕ) (l m : LoweringParts) → AreTurns l.drawing.scopes around turn → ((s : Start) → IsOf l.starts s → IsStartBound P turn around s) → CarriesVariables turn waiting l m → Keeps P Q l m
  variables_carried turn around waiting l m within bind c = then_follows l c.carried m (each_carried turn around l _ c.carried within (λ s h. bind s (of_drop waiting l.starts s h)) c.each) (started_follows c.carried m c.carried.operands c.carried.frames m.starts (c.rest ∙ ap (λ (ss : List Start). record c.carried { starts = ss }) (sym (ap (λ (x : LoweringParts). x.starts) c.rest))) (λ s h. inl (kept s h)))
    where
      kept : (s : Start) → IsOf m.starts s → IsOf c.carried.starts s
      kept s h = subst (λ (ss : List Start). IsOf ss s) (sym (each_starts turn l c.carried _ c.each)) (of_take waiting l.starts s (subst (λ (ss : List Start). IsOf ss s) (ap (λ (x : LoweringParts). x.starts) c.rest) h))

  pub limit_tested : (turn clock n : ℕ) (limit : Option ℕ) (l m : LoweringParts) → TestsLimit turn clock n limit l m → Keeps P Q l m
  limit_tested turn clock n (Some x) l m t = counter_tested turn clock n l m t
  limit_tested turn clock n None l m same = same_follows l m same

  loop_opens : (n : ℕ) (l m : LoweringParts) → HasForm l.scene.tree n forms.Variables → AreBound P n l → OpensLoop n l m → Keeps P Q l m
  loop_opens n l m form bind o =
      let turned : LoweringParts = record o.bound { drawing = o.turned } in
      let inner : LoweringParts = record o.carried { scene = record o.carried.scene { scope = o.turn } } in
      let scope : o.ended.scene.scope ≡ l.scene.scope = ap (λ (x : LoweringParts). x.scene.scope) o.frame.1 in
      let is_limit : (x : ℕ) → o.limit ≡ Some x → P o.bound (a_binding o.ended.scene.scope n x) = λ x q. bind o.bound (a_binding o.ended.scene.scope n x) (Binds.limit o.waiting form refl scope (o.ended.frames, o.frame.0 ∙ ap (λ (y : Option ℕ). o.ended.frames ++ (frames.Begun o.waiting y ∷ [])) q)) in
      let a = then_follows l o.ended o.bound (ended_follows l o.ended _ o.frame) (limit_bound n o.limit o.ended o.bound is_limit o.binds) in
      let b = then_follows l o.bound turned a (grown_follows o.bound turned o.turned o.bound.scene.scope o.bound.operands o.bound.frames (turns_grow _ _ _ _ _ o.turns) refl) in
      let starts : o.bound.starts ≡ l.starts = limit_starts n o.limit o.ended o.bound o.binds ∙ ap (λ (x : LoweringParts). x.starts) o.frame.1 in
      let new : Scope = record { region = o.turns.loop; around = l.scene.scope; way = Turn o.turns.loop; clock = o.clock } in
      let at : slice_get o.turned.scopes o.turn ≡ Some new = ap (λ (d : DrawingParts). slice_get d.scopes o.turn) o.turns.adds ∙ (ap (λ (k : ℕ). slice_get (o.bound.drawing.scopes ++ (new ∷ [])) k) o.turns.number ∙ get_last o.bound.drawing.scopes new) in
      let is_start : (s : Start) → IsOf o.bound.starts s → IsStartBound P o.turn l.scene.scope s = λ s h e loop w within entered. bind e (a_binding o.turn s.name w) (Binds.variable s loop form (subst (λ (ss : List Start). IsOf ss s) starts h) refl within entered) in
      let c = then_follows l turned o.carried b (variables_carried o.turn l.scene.scope o.waiting turned o.carried (new, at, refl) is_start o.carries) in
      let d = then_follows l o.carried inner c (stacked_follows o.carried inner o.turn o.carried.operands o.carried.frames refl) in
      let e = then_follows l inner o.tested d (limit_tested o.turn o.clock n o.limit inner o.tested o.tests) in
      then_follows l o.tested m e (stacked_follows o.tested m o.tested.scene.scope o.tested.operands (o.tested.frames ++ (frames.Test (some_turns l.scene.scope o.turn) ∷ [])) o.rest)

  pub counts_follow : (turn w : ℕ) (l m : LoweringParts) → Counts turn w l m → Keeps P Q l m
  counts_follow turn w l m (Counts.not never same) = same_follows l m same
  counts_follow turn w l m (Counts.on is c) =
      let added : LoweringParts = record c.both { drawing = c.added } in
      let on = then_follows l c.one c.both (goes_follows l c.one c.goes_on) (goes_follows c.one c.both c.goes_further) in
      let next = then_follows l c.both added on (grown_follows c.both added c.added c.both.scene.scope c.both.operands c.both.frames c.gives.adds.grows refl) in
      then_follows l added m next (noted_follows added m _ _ c.sets.notes (none_may c.added.carried c.sets.number c.sum _ c.sets.open_before.1 refl) c.rest)

  variable_closes : (t : Tree) (turns : Turns) (control : Output) (end block w number : ℕ) (l m : LoweringParts) → l.scene.tree ≡ t → IsInside l.drawing.scopes turns.turn (Side control false) end → IsLastBound P t turns control end block w → ClosesVariable turns end block w number l m → Keeps P Q l m
  variable_closes t turns control end block w number l m tree within bind (ClosesVariable.other c is never same) = same_follows l m same
  variable_closes t turns control end block w number l m tree within bind (ClosesVariable.kept c is of never same) = same_follows l m same
  variable_closes t turns control end block w number l m tree within bind (ClosesVariable.given c between value last is of given goes named leaves same) =
      let first = goes_follows l between goes in
      let more = extends_grown between.drawing m.drawing (leaves_grow _ _ _ _ leaves) in
      let b = a_binding turns.around c.name last in
      let before = between.scene.names.bindings in
      let on_to : Continues (before ++ (b ∷ [])) m.scene.names.bindings = ([], ap (λ (x : LoweringParts). x.scene.names.bindings) same ∙ sym (append-nil (before ++ (b ∷ [])))) in
      let at : IsInside m.drawing.scopes turns.turn (Side control false) end = inside_extends between.drawing m.drawing more turns.turn (Side control false) end (inside_extends l.drawing between.drawing first.follows.extends turns.turn (Side control false) end within) in
      let is_named : IsNamed m.drawing before end c.name value = named_extends between.drawing m.drawing more before end c.name value (subst (λ (bs : List Binding). IsNamed between.drawing bs end c.name value) (sym first.follows.bindings.1) (named_more between.drawing l.scene.names.bindings first.follows.bindings.0 end c.name value named)) in
      let is = bind m before value last c.name (subst (λ (y : Tree). IsGiven y block w c.name) tree given) at on_to is_named (leaves_left between.drawing m.drawing value last leaves) in
      then_follows l between m first (bound_follows between m m.drawing b (leaves_grow _ _ _ _ leaves) is same)

  each_closes : (t : Tree) (turns : Turns) (control : Output) (end block w : ℕ) (l : LoweringParts) (n : ℕ) (m : LoweringParts) → l.scene.tree ≡ t → IsInside l.drawing.scopes turns.turn (Side control false) end → IsLastBound P t turns control end block w → ClosesEach turns end block w l n m → Keeps P Q l m
  each_closes t turns control end block w l n m tree within bind ClosesEach.none = same_follows l l refl
  each_closes t turns control end block w l n m tree within bind (ClosesEach.one_more number k x before closes) =
      let first = each_closes t turns control end block w l number k tree within bind before in
      let at = inside_extends l.drawing k.drawing first.follows.extends turns.turn (Side control false) end within in
      then_follows l k m first (variable_closes t turns control end block w number k m (first.follows.tree ∙ tree) at bind closes)

  -- what is done where the block of a loop ends, once all that it carries goes round
  pub loop_left : (n w : ℕ) (l m : LoweringParts) → HasForm l.scene.tree n forms.Block → IsParent l.scene.tree w n → AreBound P n l → (c : ClosesLoop n w l m) → c.closed.scene.tree ≡ l.scene.tree → Keeps P Q c.closed m
  loop_left n w l m form parent bind c tree =
      let v = c.variables in
      let opened : LoweringParts = record c.closed { drawing = v.ended } in
      let z = grown_follows c.closed opened v.ended c.closed.scene.scope c.closed.operands c.closed.frames (side_grows _ _ _ _ _ _ v.side) refl in
      let new : Scope = record { region = v.side.outer.region; around = c.turns.turn; way = Side c.control false; clock = v.side.outer.clock } in
      let at : slice_get v.ended.scopes v.end ≡ Some new = ap (λ (d : DrawingParts). slice_get d.scopes v.end) v.side.adds ∙ (ap (λ (k : ℕ). slice_get (c.closed.drawing.scopes ++ (new ∷ [])) k) v.side.number ∙ get_last c.closed.drawing.scopes new) in
      let is_last : IsLastBound P l.scene.tree c.turns c.control v.end n w = λ e bs value last name given within more named left. bind e (a_binding c.turns.around name last) (Binds.last c.turns c.control c.block w v.end value bs form parent (c.ended.frames, c.frame.0) given refl within more named left) in
      let u = then_follows c.closed opened c.left z (each_closes l.scene.tree c.turns c.control v.end _ _ opened _ c.left (z.follows.tree ∙ tree) (new, at, refl, refl) is_last v.each) in
      then_follows c.closed c.left m u (stacked_follows c.left m c.turns.around c.left.operands c.left.frames c.rest)

  loop_closes : (n w : ℕ) (l m : LoweringParts) → HasForm l.scene.tree n forms.Block → IsParent l.scene.tree w n → AreBound P n l → ClosesLoop n w l m → Keeps P Q l m
  loop_closes n w l m form parent bind c =
      let x = then_follows l c.ended c.counted (ended_follows l c.ended _ c.frame) (counts_follow _ _ c.ended c.counted c.counts) in
      let y = then_follows l c.counted c.closed x (turns_close _ _ c.counted _ c.closed c.turn) in
      then_follows l c.closed m y (loop_left n w l m form parent bind c y.follows.tree)

  loop_ends : (n : ℕ) (l m : LoweringParts) → EndsLoop n l m → Keeps P Q l m
  loop_ends n l m (EndsLoop.let_go o vain popped) = popped_follows l m o popped
  loop_ends n l m (EndsLoop.stays never same) = same_follows l m same

  opens_follow : (f : Form) (n w : ℕ) (l m : LoweringParts) → Opens f n w l m → Keeps P Q l m
  opens_follow forms.If n w l m h = if_opens n w l m h
  opens_follow forms.Loop n w l m h = turn_opens l m h
  opens_follow forms.For n w l m h = turn_opens l m h
  opens_follow f n w l m h = same_follows l m h

  closes_follow : (f : Form) (n w : ℕ) (l m : LoweringParts) → HasForm l.scene.tree n forms.Block → IsParent l.scene.tree w n → AreBound P n l → Closes f n w l m → Keeps P Q l m
  closes_follow forms.If n w l m form parent bind h = side_closes w true l m h
  closes_follow forms.Loop n w l m form parent bind h = loop_closes n w l m form parent bind h
  closes_follow forms.For n w l m form parent bind h = loop_closes n w l m form parent bind h
  closes_follow f n w l m form parent bind h = same_follows l m h

  item_goes : (f : Form) (n : ℕ) (l m : LoweringParts) → HasForm l.scene.tree n f → AreBound P n l → IsItem f n l m → is_item f ≡ true → Goes P Q f n l m
  item_goes forms.Index n l m form bind h e = on (reads_follow n l m h) (λ q. cc) (λ q. cc)
  item_goes forms.Call n l m form bind h e = on (call_follows l m h) (λ q. cc) (λ q. cc)
  item_goes forms.NoArguments n l m form bind h e = on (stacked_follows l m l.scene.scope (l.operands ++ (Arguments ∷ [])) l.frames h) (λ q. cc) (λ q. cc)
  item_goes forms.Define n l m form bind h e = on (defines_follow l m n form bind h) (λ q. cc) (λ q. cc)
  item_goes forms.Write n l m form bind h e = on (writes_follow l m h) (λ q. cc) (λ q. cc)
  item_goes forms.Statement n l m form bind h e = on (popped_follows l m h.0 h.1) (λ q. cc) (λ q. cc)
  item_goes forms.Next n l m form bind h e = on (next_follows l m h) (λ q. cc) (λ q. cc)
  item_goes forms.Name n l m form bind h e = on (stacked_follows l m l.scene.scope (l.operands ++ (Atom n ∷ [])) l.frames h) (λ q. cc) (λ q. cc)
  item_goes forms.Number n l m form bind h e = on (stacked_follows l m l.scene.scope (l.operands ++ (Atom n ∷ [])) l.frames h) (λ q. cc) (λ q. cc)
  item_goes forms.Negative n l m form bind h e = on (stacked_follows l m l.scene.scope (l.operands ++ (Atom n ∷ [])) l.frames h) (λ q. cc) (λ q. cc)
  item_goes forms.True n l m form bind h e = on (stacked_follows l m l.scene.scope (l.operands ++ (Atom n ∷ [])) l.frames h) (λ q. cc) (λ q. cc)
  item_goes forms.False n l m form bind h e = on (stacked_follows l m l.scene.scope (l.operands ++ (Atom n ∷ [])) l.frames h) (λ q. cc) (λ q. cc)
  item_goes f n l m form bind h e = absurd (false≢true e)

  -- what else is done at a node, once its operator is
  rest_goes : (f : Form) (n : ℕ) (l m : LoweringParts) → HasForm l.scene.tree n f → AreBound P n l → AreBegun Q n l → IsWhole f n l m → (f ≡ forms.NoParameters → ⊥) → (f ≡ forms.AddProcedure → ⊥) → Keeps P Q l m
  rest_goes forms.If n l m form bind begin h a b = if_closes n l m h
  rest_goes forms.Otherwise n l m form bind begin h a b = else_opens l m h
  rest_goes forms.Else n l m form bind begin h a b = side_closes h.whole false l m h.closes
  rest_goes forms.Loop n l m form bind begin h a b = loop_ends n l m h
  rest_goes forms.For n l m form bind begin h a b = loop_ends n l m h
  rest_goes forms.NoVariables n l m form bind begin h a b = variables_open n l m form begin h
  rest_goes forms.AddVariable n l m form bind begin h a b = variable_starts n l m form begin h
  rest_goes forms.Variables n l m form bind begin h a b = loop_opens n l m form bind h
  rest_goes forms.NoItems n l m form bind begin h a b = opens_follow h.form n h.whole l m h.opens
  rest_goes forms.Block n l m form bind begin h a b = closes_follow h.form n h.whole l m form h.parent bind h.closes
  rest_goes forms.AddParameter n l m form bind begin h a b = parameter_follows l m n form bind h
  rest_goes forms.NoParameters n l m form bind begin h a b = absurd (a refl)
  rest_goes forms.AddProcedure n l m form bind begin h a b = absurd (b refl)
  rest_goes f n l m form bind begin h a b = same_follows l m h

  operates_follow : (f : Form) (l m : LoweringParts) → Operates f l m → Keeps P Q l m
  operates_follow forms.Or l m o = two_follow (Binary binary.Or) l m o
  operates_follow forms.And l m o = two_follow (Binary binary.And) l m o
  operates_follow forms.Not l m o = one_follows (Unary unary.Not) l m o
  operates_follow forms.Less l m o = two_follow (Binary binary.Lt) l m o
  operates_follow forms.AtMost l m o = two_follow (Binary binary.Le) l m o
  operates_follow forms.Greater l m o = swapped_follow (Binary binary.Lt) l m o
  operates_follow forms.AtLeast l m o = swapped_follow (Binary binary.Le) l m o
  operates_follow forms.Equal l m o = two_follow (Binary binary.Eq) l m o
  operates_follow forms.Unequal l m o = differs_follow l m o
  operates_follow forms.Add l m o = two_follow (Binary binary.Add) l m o
  operates_follow forms.Subtract l m o = two_follow (Binary binary.Sub) l m o
  operates_follow forms.Multiply l m o = two_follow (Binary binary.Mul) l m o
  operates_follow forms.Divide l m o = two_follow (Binary binary.Div) l m o
  operates_follow forms.Remainder l m o = two_follow (Binary binary.Rem) l m o
  operates_follow forms.Negate l m o = negates_follow l m o
  operates_follow forms.Array l m o = one_follows Alloc l m o
  operates_follow forms.Length l m o = one_follows (Unary unary.Length) l m o
  operates_follow f l m o = same_follows l m o

  -- a node that neither begins nor ends a procedure has an operator, or something else is done there, or nothing
  whole_follows : (f : Form) (n : ℕ) (l k m : LoweringParts) → HasForm l.scene.tree n f → AreBound P n l → AreBegun Q n l → Operates f l k → IsWhole f n k m → (f ≡ forms.NoParameters → ⊥) → (f ≡ forms.AddProcedure → ⊥) → Keeps P Q l m
  whole_follows forms.Or n l k m form bind begin o h a b = then_follows l k m (operates_follow forms.Or l k o) (same_follows k m h)
  whole_follows forms.And n l k m form bind begin o h a b = then_follows l k m (operates_follow forms.And l k o) (same_follows k m h)
  whole_follows forms.Not n l k m form bind begin o h a b = then_follows l k m (operates_follow forms.Not l k o) (same_follows k m h)
  whole_follows forms.Less n l k m form bind begin o h a b = then_follows l k m (operates_follow forms.Less l k o) (same_follows k m h)
  whole_follows forms.AtMost n l k m form bind begin o h a b = then_follows l k m (operates_follow forms.AtMost l k o) (same_follows k m h)
  whole_follows forms.Greater n l k m form bind begin o h a b = then_follows l k m (operates_follow forms.Greater l k o) (same_follows k m h)
  whole_follows forms.AtLeast n l k m form bind begin o h a b = then_follows l k m (operates_follow forms.AtLeast l k o) (same_follows k m h)
  whole_follows forms.Equal n l k m form bind begin o h a b = then_follows l k m (operates_follow forms.Equal l k o) (same_follows k m h)
  whole_follows forms.Unequal n l k m form bind begin o h a b = then_follows l k m (operates_follow forms.Unequal l k o) (same_follows k m h)
  whole_follows forms.Add n l k m form bind begin o h a b = then_follows l k m (operates_follow forms.Add l k o) (same_follows k m h)
  whole_follows forms.Subtract n l k m form bind begin o h a b = then_follows l k m (operates_follow forms.Subtract l k o) (same_follows k m h)
  whole_follows forms.Multiply n l k m form bind begin o h a b = then_follows l k m (operates_follow forms.Multiply l k o) (same_follows k m h)
  whole_follows forms.Divide n l k m form bind begin o h a b = then_follows l k m (operates_follow forms.Divide l k o) (same_follows k m h)
  whole_follows forms.Remainder n l k m form bind begin o h a b = then_follows l k m (operates_follow forms.Remainder l k o) (same_follows k m h)
  whole_follows forms.Negate n l k m form bind begin o h a b = then_follows l k m (operates_follow forms.Negate l k o) (same_follows k m h)
  whole_follows forms.Array n l k m form bind begin o h a b = then_follows l k m (operates_follow forms.Array l k o) (same_follows k m h)
  whole_follows forms.Length n l k m form bind begin o h a b = then_follows l k m (operates_follow forms.Length l k o) (same_follows k m h)
  whole_follows f n l k m form bind begin o h a b = rest_goes f n l m form bind begin (subst (λ (x : LoweringParts). IsWhole f n x m) o h) a b

  whole_goes : (f : Form) (n : ℕ) (l k m : LoweringParts) → HasForm l.scene.tree n f → AreBound P n l → AreBegun Q n l → Operates f l k → IsWhole f n k m → Goes P Q f n l m
  whole_goes forms.NoParameters n l k m form bind begin o h = begins refl (h ∙ ap (λ (x : LoweringParts). with_procedure n x) o)
  whole_goes forms.AddProcedure n l k m form bind begin o h = ends refl (subst (λ (x : LoweringParts). EndsProcedure x m) o h)
  whole_goes f n l k m form bind begin o h = on (whole_follows f n l k m form bind begin o h (λ q. cc) (λ q. cc)) (λ q. cc) (λ q. cc)

  -- what is done at a node: the procedure goes on, begins or ends
  pub done_goes : (n : ℕ) (l m : LoweringParts) → AreBound P n l → AreBegun Q n l → IsDone n l m → (f : Form) × HasForm l.scene.tree n f × Goes P Q f n l m
  done_goes n l m bind begin (item f is items h) = (f, is, item_goes f n l m is bind h items)
  done_goes n l m bind begin (whole f k is other o h) = (f, is, whole_goes f n l k m is bind begin o h)

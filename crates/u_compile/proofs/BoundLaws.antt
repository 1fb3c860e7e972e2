-- What is known at a node of a procedure: what was bound, what began, and which value an operand is in the end.
use Rattle.std.proofs.Common.{◌≡◌, ℕ, ◌+◌, ◌≤◌, arith, refl, ◌∙◌, subst, List, length}
use Rattle.u_program.specs.Parts.{BlockParts}
use Rattle.u_program.specs.declared.program.Constant.{Constant}
use Rattle.u_source.specs.declared.form.Form.{Form}
use Rattle.u_source.specs.declared.form.Form.TheVariants as forms
use Rattle.u_compile.specs.declared.naming.Binding.{Binding}
use Rattle.u_compile.specs.declared.lowering.Operand.{Operand}
use Rattle.u_compile.specs.declared.lowering.Start.{Start}
use Rattle.u_compile.specs.declared.lowering.Operand.TheVariants.{Atom}
use Rattle.u_compile.specs.declared.tree.Tree.{Tree}
use Rattle.u_compile.specs.Scoped.{IsOf}
use Rattle.u_compile.specs.Trees.{HasForm}
use Rattle.u_compile.specs.Drawings.{DrawingParts}
use Rattle.u_compile.specs.Namings.{KnownParts, IsConstant, HasConstant, a_constant}
use Rattle.u_compile.specs.Operands.{SceneParts, LoweringParts, IsAtom, IsOperand}
use Rattle.u_compile.specs.Walks.{IsDone, GoesThrough, AllMade, IsFresh, IsWithinOne, IsMadeOfNodes}
use Rattle.u_compile.specs.Uses.{Begins, Binds, GivesParameter, Passes, Moment, IsBound, IsFrom}
use Rattle.u_compile.proofs.DrawingLaws.{on_then}
use Rattle.u_compile.proofs.KnownLaws.{comes_then}
use Rattle.u_compile.proofs.ExtendLaws.{Extends, value_extends, stands_extends, entered_extends, inside_extends, comes_extends, named_extends, constant_extends, left_extends, constant_on}
use Rattle.u_compile.proofs.FollowLaws.{Follows, plain_then, plain_grown, AllStarted, Traced, Keeps, Goes, on, begins, ends, done_goes}
use Rattle.u_compile.proofs.WalkLaws.{all_made, none_made, stays, within_before, through_within, named_follows}

constant_later : (d e : DrawingParts) → Extends d e → (k : KnownParts) (scope : ℕ) (c : Constant) (v : ℕ) → HasConstant d k scope c v → HasConstant e k scope c v
constant_later d e g k scope c v (HasConstant.noted is) = HasConstant.noted is
constant_later d e g k scope c v (HasConstant.made is) = HasConstant.made (constant_extends d e g k.bindings scope c v is)

atom_later : (s : SceneParts) (d e : DrawingParts) → Extends d e → (node v : ℕ) → IsAtom s d node v → IsAtom s e node v
atom_later s d e g node v (IsAtom.used none is) = IsAtom.used none (record { name = is.name; means = is.means; named = named_extends d e g s.names.bindings s.scope is.name v is.named })
atom_later s d e g node v (IsAtom.constant k written has) = IsAtom.constant k written (constant_later d e g s.names s.scope k v has)

operand_later : (s : SceneParts) (d e : DrawingParts) → Extends d e → (o : Operand) (v : ℕ) → IsOperand s d o v → IsOperand s e o v
operand_later s d e g o v (IsOperand.waiting is) = IsOperand.waiting is
operand_later s d e g o v (IsOperand.atom node is at) = IsOperand.atom node is (atom_later s d e g node v at)

parameter_later : (c d e : DrawingParts) → Extends d e → (v : ℕ) → GivesParameter c d v → GivesParameter c e v
parameter_later c d e g v is = record { kind = is.kind; is = is.is; stands = stands_extends d e g (length c.statements + 1) is.kind is.stands; sends = value_extends d e g v _ is.sends }

-- a name that was bound so stays bound so
binds_later : (n : ℕ) (at l m : LoweringParts) (b : Binding) → Follows l m → Binds n at l b → Binds n at m b
binds_later n at l m b f (Binds.definition o form name scope waits is) = Binds.definition o form name scope waits (operand_later at.scene l.drawing m.drawing f.extends o b.value is)
binds_later n at l m b f (Binds.parameter form name scope gives) = Binds.parameter form name scope (parameter_later at.drawing l.drawing m.drawing f.extends b.value gives)
binds_later n at l m b f (Binds.variable s loop form of name inner entered) = Binds.variable s loop form of name (inside_extends l.drawing m.drawing f.extends at.scene.scope _ b.scope inner) (entered_extends l.drawing m.drawing f.extends loop s.value b.value entered)
binds_later n at l m b f (Binds.limit waiting form name scope frame) = Binds.limit waiting form name scope frame
binds_later n at l m b f (Binds.last turns control block w end value before form parent frame given scope inner more named left) =
    let g = f.extends in
    Binds.last turns control block w end value before form parent frame given scope (inside_extends l.drawing m.drawing g turns.turn _ end inner) (on_then _ l.scene.names.bindings m.scene.names.bindings more f.bindings) (named_extends l.drawing m.drawing g before end b.name value named) (left_extends l.drawing m.drawing g value b.value left)

abbrev pub moment : ℕ → LoweringParts → ℕ → LoweringParts → LoweringParts → Moment
moment first begun n k e = record { first = first; begun = begun; node = n; at = k; whole = e }

abbrev pub BoundBefore : ℕ → LoweringParts → ℕ → LoweringParts → LoweringParts → Binding → Type 0
BoundBefore first begun n k e b = IsBound (moment first begun n k e) b

pub bound_later : (first : ℕ) (begun : LoweringParts) (n : ℕ) (k l m : LoweringParts) (b : Binding) → Follows l m → BoundBefore first begun n k l b → BoundBefore first begun n k m b
bound_later first begun n k l m b f is = record { node = is.node; at = is.at; next = is.next; passes = is.passes; binds = binds_later is.node is.at l m b f is.binds }

-- a node that is passed is passed still once one more is
pub passes_more : (first : ℕ) (begun : LoweringParts) (node : ℕ) (at next : LoweringParts) (n : ℕ) (k m : LoweringParts) → IsDone n k m → Passes first begun node at next n k → Passes first begun node at next (n + 1) m
passes_more first begun node at next n k m done p = record { reached = p.reached; done = p.done; on = GoesThrough.one_more n k m p.on done }

bound_more : (first : ℕ) (begun : LoweringParts) (n : ℕ) (k m e : LoweringParts) (b : Binding) → IsDone n k m → BoundBefore first begun n k e b → BoundBefore first begun (n + 1) m e b
bound_more first begun n k m e b done is = record { node = is.node; at = is.at; next = is.next; passes = passes_more first begun is.node is.at is.next n k m done is.passes; binds = is.binds }

traced_more : (first : ℕ) (begun : LoweringParts) (n : ℕ) (k m : LoweringParts) → IsDone n k m → Traced (BoundBefore first begun n k) k → Traced (BoundBefore first begun (n + 1) m) k
traced_more first begun n k m done all b h =
    let r = all b h in
    record { root = r.root; is = bound_more first begun n k m k r.root done r.is; named = r.named; comes = r.comes }

traced_on : (t : Tree) (f : Form) (n : ℕ) (P : LoweringParts → Binding → Type 0) (Q : LoweringParts → Start → Type 0) (l m : LoweringParts) → Goes P Q f n l m → HasForm t n f → (HasForm t n forms.NoParameters → ⊥) × (HasForm t n forms.AddProcedure → ⊥) → Keeps P Q l m
traced_on t f n P Q l m (on keeps a b) is never = keeps
traced_on t f n P Q l m (begins at same) is never = absurd (never.0 (subst (λ (g : Form). HasForm t n g) at is))
traced_on t f n P Q l m (ends at e) is never = absurd (never.1 (subst (λ (g : Form). HasForm t n g) at is))

pub begins_later : (n : ℕ) (at l m : LoweringParts) (s : Start) → Follows l m → Begins n at l s → Begins n at m s
begins_later n at l m s f (Begins.variable o form name waits is) = Begins.variable o form name waits (operand_later at.scene l.drawing m.drawing f.extends o s.value is)
begins_later n at l m s f (Begins.counter before o limit form name were is) = Begins.counter before o limit form name were (operand_later at.scene l.drawing m.drawing f.extends o s.value is)

-- at a node before that one the variable began
pub record BegunBefore (first : ℕ) (begun : LoweringParts) (n : ℕ) (k e : LoweringParts) (s : Start) : Type 0 where
  pub node : ℕ
  pub at : LoweringParts
  pub next : LoweringParts
  pub passes : Passes first begun node at next n k
  pub begins : Begins node at e s

begun_later : (first : ℕ) (begun : LoweringParts) (n : ℕ) (k l m : LoweringParts) (s : Start) → Follows l m → BegunBefore first begun n k l s → BegunBefore first begun n k m s
begun_later first begun n k l m s f is = record { node = is.node; at = is.at; next = is.next; passes = is.passes; begins = begins_later is.node is.at l m s f is.begins }

begun_more : (first : ℕ) (begun : LoweringParts) (n : ℕ) (k m e : LoweringParts) (s : Start) → IsDone n k m → BegunBefore first begun n k e s → BegunBefore first begun (n + 1) m e s
begun_more first begun n k m e s done is = record { node = is.node; at = is.at; next = is.next; passes = passes_more first begun is.node is.at is.next n k m done is.passes; begins = is.begins }

-- In a procedure that is gone through, what is known at a node: each value of a name comes from one that was bound to it at a node
-- before, and each variable of a loop that begins has begun at one.
pub record AreKnown (first : ℕ) (begun : LoweringParts) (n : ℕ) (m : LoweringParts) : Type 0 where
  pub traced : Traced (BoundBefore first begun n m) m
  pub started : AllStarted (BegunBefore first begun n m) m

pub all_known : (t : Tree) (first : ℕ) (begun : LoweringParts) → IsFresh t begun → (n : ℕ) (m : LoweringParts) → IsWithinOne t first n → GoesThrough first begun n m → AreKnown first begun n m
all_known t first begun fresh n m within GoesThrough.none = record { traced = λ b h. absurd (subst (λ (k : KnownParts). IsOf k.bindings b) fresh.names h); started = λ s h. absurd (subst (λ (ss : List Start). IsOf ss s) fresh.starts h) }
all_known t first begun fresh n m within (GoesThrough.one_more node k x through done) =
    let within_k = within_before t first node within in
    let before = all_known t first begun fresh node k within_k through in
    let tree = (stays t first begun node k fresh.tree within_k through).tree ∙ fresh.tree in
    let P : LoweringParts → Binding → Type 0 = BoundBefore first begun (node + 1) m in
    let Q : LoweringParts → Start → Type 0 = BegunBefore first begun (node + 1) m in
    let grow : (l e : LoweringParts) (b : Binding) → Follows l e → P l b → P e b = λ l e b f h. bound_later first begun (node + 1) m l e b f h in
    let grow_start : (l e : LoweringParts) (s : Start) → Follows l e → Q l s → Q e s = λ l e s f h. begun_later first begun (node + 1) m l e s f h in
    let here : Passes first begun node k m (node + 1) m = record { reached = through; done = done; on = GoesThrough.none } in
    let bind : (e : LoweringParts) (b : Binding) → Binds node k e b → P e b = λ e b h. record { node = node; at = k; next = m; passes = here; binds = h } in
    let begin : (e : LoweringParts) (s : Start) → Begins node k e s → Q e s = λ e s h. record { node = node; at = k; next = m; passes = here; begins = h } in
    let goes = done_goes P Q grow grow_start node k m bind begin done in
    let is : HasForm t node goes.0 = subst (λ (y : Tree). HasForm y node goes.0) tree goes.1 in
    let keeps = traced_on t goes.0 node P Q k m goes.2 is (within node (omega arith) (through_within first begun node k through)) in
    record {
      traced = keeps.traced (traced_more first begun node k m done before.traced);
      started = keeps.started (λ s h. begun_more first begun node k m k s done (before.started s h));
    }

-- each value of a name comes from one that was bound to it at a node before
pub all_traced : (t : Tree) (first : ℕ) (begun : LoweringParts) → IsFresh t begun → (n : ℕ) (m : LoweringParts) → IsWithinOne t first n → GoesThrough first begun n m → Traced (BoundBefore first begun n m) m
all_traced t first begun fresh n m within through = (all_known t first begun fresh n m within through).traced

-- what is known at a node of a procedure, and that this goes on to the end
pub record Known (x : Moment) : Type 0 where
  pub traced : Traced (BoundBefore x.first x.begun x.node x.at) x.at
  pub made : AllMade x.at
  pub follows : Follows x.at x.whole

module _ (x : Moment) (known : Known x) where
  -- the value of an operand, in the end
  from_constant : (d : DrawingParts) → Extends d x.whole.drawing → (k : Constant) (v : ℕ) → HasConstant d x.at.scene.names x.at.scene.scope k v → IsConstant x.whole.drawing x.whole.scene.names.bindings x.at.scene.scope k v
  from_constant d g k v (HasConstant.noted is) = constant_on x.whole.drawing x.at.scene.names.bindings x.whole.scene.names.bindings known.follows.bindings x.at.scene.scope k v (constant_extends x.at.drawing x.whole.drawing known.follows.extends x.at.scene.names.bindings x.at.scene.scope k v (known.made (a_constant x.at.scene.scope k v) is))
  from_constant d g k v (HasConstant.made is) = constant_on x.whole.drawing x.at.scene.names.bindings x.whole.scene.names.bindings known.follows.bindings x.at.scene.scope k v (constant_extends d x.whole.drawing g x.at.scene.names.bindings x.at.scene.scope k v is)

  from_atom : (d : DrawingParts) → Extends d x.whole.drawing → (o : Operand) (node v : ℕ) → o ≡ Atom node → IsAtom x.at.scene d node v → IsFrom x o v
  from_atom d g o node v same (IsAtom.constant k written has) = IsFrom.constant node k same written (from_constant d g k v has)
  from_atom d g o node v same (IsAtom.used none u) =
      let b = u.named.binding in
      let r = known.traced b u.named.is in
      let whole = x.whole.drawing in
      IsFrom.named node same none (record {
        name = u.name;
        means = u.means;
        binding = r.root;
        named = r.named ∙ u.named.named;
        bound = bound_later x.first x.begun x.node x.at x.at x.whole r.root known.follows r.is;
        comes = comes_then whole r.root.scope r.root.value b.scope b.value x.at.scene.scope v (comes_extends x.at.drawing whole known.follows.extends r.root.scope r.root.value b.scope b.value r.comes) (comes_extends d whole g b.scope b.value x.at.scene.scope v u.named.comes);
      })

  pub from_operand : (d : DrawingParts) → Extends d x.whole.drawing → (o : Operand) (v : ℕ) → IsOperand x.at.scene d o v → IsFrom x o v
  from_operand d g o v (IsOperand.waiting is) = IsFrom.waiting is
  from_operand d g o v (IsOperand.atom node is at) = from_atom d g o node v is at

-- nodes from a later one on
pub within_from : (t : Tree) (first later last : ℕ) → first ≤ later → IsWithinOne t first last → IsWithinOne t later last
within_from t first later last h within node k from = within node k (omega (arith, h, from))

pub within_to : (t : Tree) (first last n : ℕ) → n ≤ last → IsWithinOne t first last → IsWithinOne t first n
within_to t first last n h within node k from = within node (omega (arith, h, k)) from

module _ (t : Tree) (b : BlockParts) (m : IsMadeOfNodes t b) where
  -- what is there in the end
  unfoldable pub ending : LoweringParts
  ending = record m.closes.named { drawing = m.closes.finishes.ends.ended }

  pub ends_follow : Follows m.ended ending
  unfolding ending
  ends_follow =
      let named = m.closes.named in
      let d = m.closes.finishes.ends.ended in
      plain_then m.ended named ending (named_follows m.ended m.closed m.closes) (plain_grown named ending d named.scene.scope named.operands named.frames named.starts m.closes.finishes.ends.gives.grows refl)

  pub passes_follow : (node : ℕ) (at next : LoweringParts) (n : ℕ) (k : LoweringParts) → Passes m.first m.begun node at next n k → n ≤ m.last → Follows at k × Follows next k
  passes_follow node at next n k p h =
      let before = through_within m.first m.begun node at p.reached in
      let behind = through_within (node + 1) next n k p.on in
      let within = within_to t m.first m.last n h m.within in
      let first = stays t m.first m.begun node at m.fresh.tree (within_to t m.first n node (omega (arith, behind)) within) p.reached in
      let both = stays t m.first m.begun (node + 1) next m.fresh.tree (within_to t m.first n (node + 1) behind within) (GoesThrough.one_more node at next p.reached p.done) in
      let one = stays t node at (node + 1) next (first.tree ∙ m.fresh.tree) (within_from t m.first node (node + 1) before (within_to t m.first n (node + 1) behind within)) (GoesThrough.one_more node at next GoesThrough.none p.done) in
      let on_to = stays t (node + 1) next n k (both.tree ∙ m.fresh.tree) (within_from t m.first (node + 1) n (omega (arith, before)) within) p.on in
      (plain_then at next k one on_to, on_to)

  -- the tree stays
  pub tree_at : (node : ℕ) (at : LoweringParts) → GoesThrough m.first m.begun node at → node ≤ m.last → at.scene.tree ≡ t
  tree_at node at reached h = (stays t m.first m.begun node at m.fresh.tree (within_to t m.first m.last node h m.within) reached).tree ∙ m.fresh.tree

  pub known_at : (node : ℕ) (at : LoweringParts) → GoesThrough m.first m.begun node at → node ≤ m.last → Follows at ending → Known (moment m.first m.begun node at ending)
  known_at node at reached h follows = record {
    traced = all_traced t m.first m.begun m.fresh node at (within_to t m.first m.last node h m.within) reached;
    made = all_made m.first m.begun node at reached (none_made m.begun m.fresh.names);
    follows = follows;
  }

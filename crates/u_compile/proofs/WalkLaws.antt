-- Sources that are gone through, node by node: what stays, and what each block is made of.
use Rattle.std.proofs.Common.{◌≡◌, ℕ, ◌+◌, ◌≤◌, arith, below_more, inl, inr, refl, ap, ◌∙◌, subst, List, [], ◌∷◌, ◌++◌}
use Rattle.u_program.specs.Parts.{BlockParts}
use Rattle.u_source.specs.declared.form.Form.{Form}
use Rattle.u_source.specs.declared.form.Form.TheVariants as forms
use Rattle.u_compile.specs.declared.naming.Binding.{Binding}
use Rattle.u_compile.specs.declared.lowering.Start.{Start}
use Rattle.u_compile.specs.declared.tree.Tree.{Tree}
use Rattle.u_compile.specs.Scoped.{IsOf}
use Rattle.u_compile.specs.Trees.{HasForm}
use Rattle.u_compile.specs.Namings.{KnownParts, nothing_known}
use Rattle.u_compile.specs.Operands.{LoweringParts}
use Rattle.u_compile.specs.Bodies.{EndsProcedure, with_procedure}
use Rattle.u_compile.specs.Walks.{IsDone, GoesThrough, beginning, AllMade, IsFresh, IsWithinOne, IsMadeOfNodes}
use Rattle.u_compile.proofs.GateLaws.{of_append}
use Rattle.u_compile.proofs.TreeLaws.{form_one}
use Rattle.u_compile.proofs.FollowLaws.{Follows, plain_same, plain_then, popped_follows, pops_follow, Goes, on, begins, ends, done_goes}

-- whatever is bound
abbrev pub Any : LoweringParts → Binding → Type 0
Any l b = Unit {0}

pub any_grows : (l m : LoweringParts) (b : Binding) → Follows l m → Any l b → Any m b
any_grows l m b f h = tt

abbrev pub AnyStart : LoweringParts → Start → Type 0
AnyStart l s = Unit {0}

pub any_starts : (l m : LoweringParts) (s : Start) → Follows l m → AnyStart l s → AnyStart m s
any_starts l m s f h = tt

any_goes : (n : ℕ) (l m : LoweringParts) → IsDone n l m → (f : Form) × HasForm l.scene.tree n f × Goes Any AnyStart f n l m
any_goes n l m done = done_goes Any AnyStart any_grows any_starts n l m (λ e b h. tt) (λ e s h. tt) done

pub none_made : (m : LoweringParts) → m.scene.names ≡ nothing_known → AllMade m
none_made m same c h = absurd (subst (λ (k : KnownParts). IsOf k.constants c) same h)

begun_names : (n : ℕ) (l m : LoweringParts) → m ≡ with_procedure n l → m.scene.names ≡ nothing_known
begun_names n l m same = ap (λ (x : LoweringParts). x.scene.names) same

closed_names : (l m : LoweringParts) → EndsProcedure l m → m.scene.names ≡ nothing_known
closed_names l m e = ap (λ (x : LoweringParts). x.scene.names) e.finishes.rest

goes_made : (f : Form) (n : ℕ) (l m : LoweringParts) → Goes Any AnyStart f n l m → AllMade l → AllMade m
goes_made f n l m (on follows a b) all = follows.follows.made all
goes_made f n l m (begins is same) all = none_made m (begun_names n l m same)
goes_made f n l m (ends is e) all = none_made m (closed_names l m e)

-- each constant that is noted was made so
pub all_made : (first : ℕ) (l : LoweringParts) (n : ℕ) (m : LoweringParts) → GoesThrough first l n m → AllMade l → AllMade m
all_made first l n m GoesThrough.none all = all
all_made first l n m (GoesThrough.one_more node k x through done) all = goes_made _ node k m (any_goes node k m done).2 (all_made first l node k through all)

pub constants_are_made : (t : Tree) (n : ℕ) (m : LoweringParts) → GoesThrough 0 (beginning t) n m → AllMade m
constants_are_made t n m through = all_made 0 (beginning t) n m through (none_made (beginning t) refl)

-- Where a source that is gone through stands: in a procedure that began before the first of these nodes. The blocks before are
-- made of their nodes.
pub record Stands (t : Tree) (n : ℕ) (m : LoweringParts) : Type 0 where
  pub first : ℕ
  pub begun : LoweringParts
  pub reached : GoesThrough 0 (beginning t) first begun
  pub fresh : IsFresh t begun
  pub within : IsWithinOne t first n
  pub through : GoesThrough first begun n m
  pub tree : m.scene.tree ≡ t
  pub each : (b : BlockParts) → IsOf m.blocks b → IsMadeOfNodes t b

stands_anew : (t : Tree) (n : ℕ) (m : LoweringParts) → GoesThrough 0 (beginning t) n m → IsFresh t m → ((b : BlockParts) → IsOf m.blocks b → IsMadeOfNodes t b) → Stands t n m
stands_anew t n m reached fresh each = record {
  first = n;
  begun = m;
  reached = reached;
  fresh = fresh;
  within = λ node h k. absurd (omega arith);
  through = GoesThrough.none;
  tree = fresh.tree;
  each = each;
}

within_more : (t : Tree) (first n : ℕ) (f : Form) → IsWithinOne t first n → HasForm t n f → (f ≡ forms.NoParameters → ⊥) → (f ≡ forms.AddProcedure → ⊥) → IsWithinOne t first (n + 1)
within_more t first n f before is a b = below_more (λ (x : ℕ). first ≤ x → (HasForm t x forms.NoParameters → ⊥) × (HasForm t x forms.AddProcedure → ⊥)) n before (λ h. (λ q. a (form_one t n f forms.NoParameters is q), λ q. b (form_one t n f forms.AddProcedure is q)))

-- what is taken where a procedure ends changes nothing else
pub named_follows : (l m : LoweringParts) (e : EndsProcedure l m) → Follows l e.named
named_follows l m e = plain_then l e.taken e.named (pops_follow Any AnyStart any_grows any_starts l e.taken _ e.pops).follows (popped_follows Any AnyStart any_grows any_starts e.taken e.named _ e.name_taken).follows

closed_tree : (l m : LoweringParts) → EndsProcedure l m → m.scene.tree ≡ l.scene.tree
closed_tree l m e = ap (λ (x : LoweringParts). x.scene.tree) e.finishes.rest ∙ (named_follows l m e).tree

closed_blocks : (l m : LoweringParts) (e : EndsProcedure l m) → m.blocks ≡ l.blocks ++ (e.finishes.block ∷ [])
closed_blocks l m e = ap (λ (x : LoweringParts). x.blocks) e.finishes.rest ∙ ap (λ (bs : List BlockParts). bs ++ (e.finishes.block ∷ [])) (named_follows l m e).blocks

made_of_nodes : (t : Tree) (n : ℕ) (k m : LoweringParts) (s : Stands t n k) → HasForm t n forms.AddProcedure → (e : EndsProcedure k m) → IsMadeOfNodes t e.finishes.block
made_of_nodes t n k m s is e = record {
  first = s.first;
  last = n;
  begun = s.begun;
  reached = s.reached;
  fresh = s.fresh;
  within = s.within;
  ended = k;
  through = s.through;
  made = all_made s.first s.begun n k s.through (none_made s.begun s.fresh.names);
  end = is;
  closed = m;
  closes = e;
  is = refl;
}

stands_more : (t : Tree) (f : Form) (n : ℕ) (k m : LoweringParts) → GoesThrough 0 (beginning t) (n + 1) m → Stands t n k → IsDone n k m → HasForm k.scene.tree n f → Goes Any AnyStart f n k m → Stands t (n + 1) m
stands_more t f n k m reached s done is (on follows a b) = record {
  first = s.first;
  begun = s.begun;
  reached = s.reached;
  fresh = s.fresh;
  within = within_more t s.first n f s.within (subst (λ (x : Tree). HasForm x n f) s.tree is) a b;
  through = GoesThrough.one_more n k m s.through done;
  tree = follows.follows.tree ∙ s.tree;
  each = λ x h. s.each x (subst (λ (bs : List BlockParts). IsOf bs x) follows.follows.blocks h);
}
stands_more t f n k m reached s done is (begins at same) = stands_anew t (n + 1) m reached (record {
  tree = ap (λ (x : LoweringParts). x.scene.tree) same ∙ s.tree;
  names = begun_names n k m same;
  frames = ap (λ (x : LoweringParts). x.frames) same;
  starts = ap (λ (x : LoweringParts). x.starts) same;
  clock = n + 2;
  drawing = ap (λ (x : LoweringParts). x.drawing) same;
}) (λ x h. s.each x (subst (λ (bs : List BlockParts). IsOf bs x) (ap (λ (y : LoweringParts). y.blocks) same) h))
stands_more t f n k m reached s done is (ends at e) = stands_anew t (n + 1) m reached (record {
  tree = closed_tree k m e ∙ s.tree;
  names = closed_names k m e;
  frames = ap (λ (x : LoweringParts). x.frames) e.finishes.rest;
  starts = ap (λ (x : LoweringParts). x.starts) e.finishes.rest;
  clock = 0;
  drawing = ap (λ (x : LoweringParts). x.drawing) e.finishes.rest;
}) (λ x h. elim (of_append k.blocks (e.finishes.block ∷ []) x (subst (λ (bs : List BlockParts). IsOf bs x) (closed_blocks k m e) h)) [ inl i ↦ s.each x i | inr i ↦ last x i ])
  where
    last : (x : BlockParts) → IsOf (e.finishes.block ∷ []) x → IsMadeOfNodes t x
    last x (inl q) = subst (λ (y : BlockParts). IsMadeOfNodes t y) q (made_of_nodes t n k m s (subst (λ (g : Form). HasForm t n g) at (subst (λ (y : Tree). HasForm y n f) s.tree is)) e)
    last x (inr q) = absurd q

stands : (t : Tree) (n : ℕ) (m : LoweringParts) → GoesThrough 0 (beginning t) n m → Stands t n m
stands t n m GoesThrough.none = stands_anew t 0 (beginning t) GoesThrough.none (record { tree = refl; names = refl; frames = refl; starts = refl; clock = 0; drawing = refl }) (λ b h. absurd h)
stands t n m (GoesThrough.one_more node k x through done) =
    let form = any_goes node k m done in
    stands_more t form.0 node k m (GoesThrough.one_more node k m through done) (stands t node k through) done form.1 form.2

pub within_before : (t : Tree) (first n : ℕ) → IsWithinOne t first (n + 1) → IsWithinOne t first n
within_before t first n within node h k = within node (omega (arith, h)) k

pub through_within : (first : ℕ) (l : LoweringParts) (n : ℕ) (m : LoweringParts) → GoesThrough first l n m → first ≤ n
through_within first l n m GoesThrough.none = omega arith
through_within first l n m (GoesThrough.one_more node k x through done) = omega (arith, through_within first l node k through)

goes_on_within : (t : Tree) (f : Form) (n : ℕ) (l m : LoweringParts) → Goes Any AnyStart f n l m → HasForm t n f → (HasForm t n forms.NoParameters → ⊥) × (HasForm t n forms.AddProcedure → ⊥) → Follows l m
goes_on_within t f n l m (on follows a b) is never = follows.follows
goes_on_within t f n l m (begins at same) is never = absurd (never.0 (subst (λ (g : Form). HasForm t n g) at is))
goes_on_within t f n l m (ends at e) is never = absurd (never.1 (subst (λ (g : Form). HasForm t n g) at is))

-- while one procedure is gone through, what is there stays: also what leads to each port
pub stays : (t : Tree) (first : ℕ) (l : LoweringParts) (n : ℕ) (m : LoweringParts) → l.scene.tree ≡ t → IsWithinOne t first n → GoesThrough first l n m → Follows l m
stays t first l n m same within GoesThrough.none = plain_same l l refl
stays t first l n m same within (GoesThrough.one_more node k x through done) =
    let before = stays t first l node k same (within_before t first node within) through in
    let form = any_goes node k m done in
    let is : HasForm t node form.0 = subst (λ (y : Tree). HasForm y node form.0) (before.tree ∙ same) form.1 in
    plain_then l k m before (goes_on_within t form.0 node k m form.2 is (within node (omega arith) (through_within first l node k through)))

-- each block is made of the nodes of its procedure
pub blocks_of_nodes : (t : Tree) (n : ℕ) (m : LoweringParts) → GoesThrough 0 (beginning t) n m → (b : BlockParts) → IsOf m.blocks b → IsMadeOfNodes t b
blocks_of_nodes t n m through = (stands t n m through).each

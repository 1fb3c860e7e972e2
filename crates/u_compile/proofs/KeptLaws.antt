-- The finished block of a graph whose statements and links lie well and stand well, and of which each port is linked,
-- keeps the rules of the checker that a block keeps by itself.
use Rattle.std.proofs.Common.{◌≡◌, ◌==◌, ℕ, ◌+◌, ◌≤◌, inl, inr, refl, sym, ap, subst, arith, Bool, true, false, not, List, [], ◌∷◌, length, Some, Option}
use Rattle.std.specs.Prelude.{◌||◌}
use Rattle.u_program.specs.declared.program.Kind.{Kind}
use Rattle.u_program.specs.declared.program.Kind.TheVariants.{Enter, Leave}
use Rattle.u_program.specs.declared.program.Destination.{Destination}
use Rattle.u_program.specs.Parts.{StatementParts, BlockParts}
use Rattle.u_check.specs.Kinds.{is_back, is_last, is_leave, is_end, is_of_loop, crosses}
use Rattle.u_check.specs.Rules.{statement_at, Arc, destination_of, lies_in, lies_in_some, lies_in_entered, enters_inward, held_by, begins_well, names_back, is_applied, leaves_after_last, comes_in_order}
use Rattle.u_compile.specs.declared.graph.Output.{Output}
use Rattle.u_compile.specs.Drafts.{DraftParts}
use Rattle.u_compile.specs.Graphs.{GraphParts, link, draft_at, is_next, IsGraph}
use Rattle.u_compile.specs.Blocks.{statement_of, block_of}
use Rattle.u_compile.specs.Fanning.{holder, moved, with_pass, FansOut, none, one_more, IsFinished}
use Rattle.u_compile.specs.Scoped.{Layout, IsScoped}
use Rattle.u_compile.specs.Placed.{EachIsFull}
use Rattle.u_compile.specs.Orderly.{IsOrderly}
use Rattle.u_compile.specs.Kept.{KeepsItself}
use Rattle.u_compile.proofs.Numbers.{at_cases}
use Rattle.u_compile.proofs.Moves.{from_behind}
use Rattle.u_compile.proofs.Fans.{pass_of}
use Rattle.u_compile.proofs.BlockLaws.{length-statements_of}
use Rattle.u_compile.proofs.ArcLaws.{draft_from}
use Rattle.u_compile.proofs.ScopedFans.{stays_or_moves, of_left, of_right}
use Rattle.u_compile.proofs.FinishedLaws.{fans_scoped}
use Rattle.u_compile.proofs.OrderlyLaws.{fans_orderly}
use Rattle.u_compile.proofs.GuardLaws.{made, next_is}
use Rattle.u_compile.proofs.RuleLaws as rules
use Rattle.u_compile.proofs.StandLaws as stands

-- with one `pass` more each port is linked
pub full_fan : (o : Output) (d : DraftParts) (g : GraphParts) → EachIsFull g → EachIsFull (with_pass o d g)
full_fan o d g full n e at out port one most = elim (at_cases g.statements (pass_of d g) n e at) [
  | inl w ↦
      let p = length g.statements + 1 in
      let l = full n e w out port one most in
      elim (stays_or_moves o 15 p g.links l.0 l.1) [
        | inl i ↦ (l.0, of_left (moved o 15 p g.links) (link o p 1 ∷ []) l.0 i, l.2, l.3)
        | inr i ↦ (from_behind p l.0, of_left (moved o 15 p g.links) (link o p 1 ∷ []) (from_behind p l.0) i.1, l.2, l.3)
      ]
  | inr w ↦
      let p = length g.statements + 1 in
      let few : port ≤ 1 = subst (λ (k : DraftParts). port ≤ rules.ports k) w.1 most in
      (link o p 1, of_right (moved o 15 p g.links) (link o p 1 ∷ []) (link o p 1) (inl refl), sym w.0, omega (arith, one, few))
]

pub fans_full : (g h : GraphParts) → FansOut g h → EachIsFull g → EachIsFull h
fans_full g h none full = full
fans_full g h (one_more i o d f at many other) full = full_fan o d i (fans_full g i f full)

-- a region that is the one that holds a loop
lies_out : (o : Option ℕ) (h : ℕ) (t : Option StatementParts) → o ≡ Some h → lies_in h t ≡ true → lies_in_some o t ≡ true
lies_out o h t e l = subst (λ (v : Option ℕ). lies_in_some v t ≡ true) (sym e) l

module _ (y : Layout) (g : GraphParts) (is : IsGraph g) (s : IsScoped y g) (full : EachIsFull g) (o : IsOrderly g.statements g.links) (name : List ℕ) where
  -- the block of the graph keeps the rules
  pub keeps : KeepsItself (block_of name g)
  unfolding enters_inward lies_in_entered
  keeps = record {
    begins = λ n t at. let d = draft_from g.links g.statements n t at in subst (λ (v : StatementParts). begins_well n v ≡ true) d.2 (stands.begins y g is s o n d.0 d.1);
    regions = λ n t at. let d = draft_from g.links g.statements n t at in subst (λ (v : StatementParts). rules.region_of g v ≡ true) d.2 (rules.region_exists y g is s n d.0 d.1);
    reaches = λ a t d at leads. rules.arc_reaches y g is s a.statement d.statement d.port a leads;
    takes = λ a t d at leads. rules.takes y g is s a.statement d.statement d.port a leads;
    enters = λ n t at. let d = draft_from g.links g.statements n t at in enters_well n d.0 t d.1 d.2;
    enters_loop = λ a t d at leads. let e = draft_from g.links g.statements a.statement t at in enters_there a e.0 t d e.1 e.2 leads;
    names_backs = λ n t at. let d = draft_from g.links g.statements n t at in subst (λ (v : StatementParts). names_back (made g) v.region v.kind ≡ true) d.2 (stands.names_its_back y g is s o n d.0 d.1);
    named_backs = λ n t at. let d = draft_from g.links g.statements n t at in subst (λ (v : StatementParts). (not (is_back v.kind) || is_applied (made g) n) ≡ true) d.2 (stands.is_named y g is s o n d.0 d.1);
    turns = λ n t at. let d = draft_from g.links g.statements n t at in subst (λ (v : StatementParts). (not (is_of_loop v.kind) || not (v.region == 0)) ≡ true) d.2 (stands.turns y g is s o n d.0 d.1);
    leaves_last = λ a t d at leads. let e = draft_from g.links g.statements a.statement t at in subst (λ (v : StatementParts). leaves_after_last (is_last v.kind) (statement_at (made g) d.statement) ≡ true) e.2 (stands.leaves_last y g is s o a.statement d.statement d.port a leads e.0 e.1 refl);
    leaves_out = λ a t d at leads. let e = draft_from g.links g.statements a.statement t at in leaves_there a e.0 t d e.1 e.2 leads;
    ends = λ n t at. let d = draft_from g.links g.statements n t at in subst (λ (v : StatementParts). (not (is_end v.kind) || v.region == 0) ≡ true) d.2 (stands.ends y g is s o n d.0 d.1);
    own_region = λ a t d at leads. let e = draft_from g.links g.statements a.statement t at in stays_there a e.0 t d e.1 e.2 leads;
    fed = λ n t at. let d = draft_from g.links g.statements n t at in subst (λ (v : StatementParts). rules.fed_of g n v ≡ true) d.2 (rules.whole y g is s full n d.0 d.1);
    params = λ n t at. let d = draft_from g.links g.statements n t at in subst (λ (v : StatementParts). comes_in_order (made g) n v v.kind ≡ true) d.2 (stands.params y g is s o n d.0 d.1);
  }
    where
      kind_is : (d : DraftParts) (t : StatementParts) → statement_of g.links d ≡ t → d.kind ≡ t.kind
      kind_is d t e = ap (λ (v : StatementParts). v.kind) e

      region_is : (d : DraftParts) (t : StatementParts) → statement_of g.links d ≡ t → d.region ≡ t.region
      region_is d t e = ap (λ (v : StatementParts). v.region) e

      enters_well : (n : ℕ) (d : DraftParts) (t : StatementParts) → draft_at g.statements n ≡ Some d → statement_of g.links d ≡ t → enters_inward g.loops t.region t.kind ≡ true
      enters_well n d t at e = subst (λ (v : StatementParts). enters_inward g.loops v.region v.kind ≡ true) e (by d.kind refl)
        where
          by : (k : Kind) → d.kind ≡ k → enters_inward g.loops d.region k ≡ true
          by (Enter l) q = rules.enters_inward_from y g is s n l d at q
          by k q = refl

      enters_there : (a : Arc) (d : DraftParts) (t : StatementParts) (to : Destination) → draft_at g.statements a.statement ≡ Some d → statement_of g.links d ≡ t → destination_of (block_of name g).statements a ≡ Some to → lies_in_entered t.kind (statement_at (block_of name g).statements to.statement) ≡ true
      enters_there a d t to at e leads = subst (λ (v : StatementParts). lies_in_entered v.kind (statement_at (block_of name g).statements to.statement) ≡ true) e (by d.kind refl)
        where
          by : (k : Kind) → d.kind ≡ k → lies_in_entered k (statement_at (block_of name g).statements to.statement) ≡ true
          by (Enter l) q = rules.enters_loop y g is s a.statement to.statement to.port a leads d l at refl q
          by k q = refl

      leaves_there : (a : Arc) (d : DraftParts) (t : StatementParts) (to : Destination) → draft_at g.statements a.statement ≡ Some d → statement_of g.links d ≡ t → destination_of (block_of name g).statements a ≡ Some to → (not (is_leave t.kind) || lies_in_some (held_by g.loops t.region) (statement_at (block_of name g).statements to.statement)) ≡ true
      leaves_there a d t to at e leads = subst (λ (v : StatementParts). (not (is_leave v.kind) || lies_in_some (held_by g.loops v.region) (statement_at (block_of name g).statements to.statement)) ≡ true) e (by d.kind refl)
        where
          by : (k : Kind) → d.kind ≡ k → (not (is_leave k) || lies_in_some (held_by g.loops d.region) (statement_at (block_of name g).statements to.statement)) ≡ true
          by Leave q = lies_out (held_by g.loops d.region) (holder g.loops d.region) (statement_at (block_of name g).statements to.statement) (rules.held_is g.loops d.region ((o.stands a.statement d at).turns (ap is_of_loop q)) (is.drafts a.statement d at).region) (rules.leaves_loop y g is s a.statement to.statement to.port a leads d at refl q)
          by k q = refl

      stays_there : (a : Arc) (d : DraftParts) (t : StatementParts) (to : Destination) → draft_at g.statements a.statement ≡ Some d → statement_of g.links d ≡ t → destination_of (block_of name g).statements a ≡ Some to → (crosses t.kind || lies_in t.region (statement_at (block_of name g).statements to.statement)) ≡ true
      stays_there a d t to at e leads = subst (λ (v : StatementParts). (crosses v.kind || lies_in v.region (statement_at (block_of name g).statements to.statement)) ≡ true) e (by (crosses d.kind) refl)
        where
          inside : (b : Bool) → is_next d.kind ≡ b → crosses d.kind ≡ false → lies_in d.region (statement_at (block_of name g).statements to.statement) ≡ true
          inside true q out = stands.next_region y g is s o a.statement to.statement to.port a leads d at refl (next_is d.kind q)
          inside false q out = rules.own_region y g is s a.statement to.statement to.port a leads d at refl q out

          by : (b : Bool) → crosses d.kind ≡ b → (b || lies_in d.region (statement_at (block_of name g).statements to.statement)) ≡ true
          by true q = refl
          by false q = inside (is_next d.kind) refl q

-- the finished block does
pub finished_keeps : (name : List ℕ) (g : GraphParts) (b : BlockParts) (y : Layout) → IsGraph g → IsFinished name g b → IsScoped y g → EachIsFull g → IsOrderly g.statements g.links → KeepsItself b
finished_keeps name g b y is f s full o =
    let l = length-statements_of f.fanned.links f.fanned.statements in
    let e = ap (λ (v : BlockParts). length v.statements) f.block in
    let few = f.within.few in
    let r = fans_scoped y g f.fanned is s f.fans (omega (arith, l, e, few)) in
    subst KeepsItself (sym f.block) (keeps r.1.0 f.fanned r.0 r.1.1 (fans_full g f.fanned f.fans full) (fans_orderly g f.fanned f.fans o) name)

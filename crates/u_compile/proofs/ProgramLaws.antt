-- A program whose blocks keep the rules of the checker by themselves, and have the names that they should, breaks none.
use Rattle.std.proofs.Common.{◌≡◌, ℕ, zero, suc, ◌-◌, refl, sym, ap, ◌∙◌, subst, Bool, true, false, not, ◌==◌, List, [], ◌∷◌, inl, inr, Some}
use Rattle.std.specs.Prelude.{slice_get, ◌&&◌, ◌||◌, Contains}
use Rattle.std.specs.List.{list_all}
use Rattle.std.proofs.lemmas.Bool.{false≢true, and_parts, eqb-true}
use Rattle.std.proofs.lemmas.Option.{slice_get_within, get_or_from_slice_get}
use Rattle.u_program.specs.declared.program.Kind.{Kind}
use Rattle.u_program.specs.declared.program.Kind.TheVariants.{Param}
use Rattle.u_program.specs.declared.program.Parameter.{Parameter}
use Rattle.u_program.specs.declared.program.Parameter.TheVariants as parameters
use Rattle.u_program.specs.declared.program.Destination.{Destination}
use Rattle.u_program.specs.Limits.{place_of}
use Rattle.u_program.specs.Parts.{StatementParts, BlockParts}
use Rattle.u_check.specs.Kinds.{is_param}
use Rattle.u_check.specs.Rules.{statement_at, Arc, destination_of, main_name, same_name, names_block, gives_block, is_outer, is_param_in, follows_params, comes_in_order, program_keeps, block_keeps, itself_keeps, destination_keeps, Breaches, IsChecked}
use Rattle.u_check.specs.declared.rule.Rule.{Rule}
use Rattle.u_check.specs.declared.rule.Rule.TheVariants.{BlockNamesDiffer, MainExists, BeginComesFirst, RegionExists}
use Rattle.u_check.specs.declared.rule.Rule.TheVariants.{DestinationExists, BeginAndBackTakeNothing, EnterReachesItsLoop}
use Rattle.u_check.specs.declared.rule.Rule.TheVariants.{ApplyNamesBack, BackIsNamed, ConstantNamesBlock, LoopStatementsInLoops}
use Rattle.u_check.specs.declared.rule.Rule.TheVariants.{LastSendsToLeave, LeaveSendsOut, EndInOuterRegion, OwnRegion}
use Rattle.u_check.specs.declared.rule.Rule.TheVariants.{PortsAreFed, ParamsComeInOrder, MainTakesOne}
use Rattle.u_check.proofs.Arcs.{has_number}
use Rattle.u_compile.specs.Kept.{KeepsItself, TakesOne, give_blocks}
use Rattle.u_compile.specs.Blocks.{AreBlocks}

all_get : {X : Type 0} (p : X → Bool) (xs : List X) (i : ℕ) (x : X) → slice_get xs i ≡ Some x → list_all p xs ≡ true → p x ≡ true
all_get p [] i x e all = cc
all_get p (y ∷ ys) zero x e all = let q : y ≡ x = cc in ap p (sym q) ∙ (and_parts (p y) (list_all p ys) all).0
all_get p (y ∷ ys) (suc i) x e all = all_get p ys i x e (and_parts (p y) (list_all p ys) all).1

member : {X : Type 0} (xs : List X) (i : ℕ) (x : X) → slice_get xs i ≡ Some x → Contains xs x
member xs i x e = (i, slice_get_within xs i x e, get_or_from_slice_get xs i x x e)

-- a block without a second parameter has none
module _ (b : BlockParts) (n : ℕ) (s : StatementParts) (at : statement_at b.statements n ≡ Some s) (none : is_param_in (statement_at b.statements 2) ≡ false) where
  no_param : (k : Parameter) → s.kind ≡ Param k → comes_in_order b.statements n s (Param k) ≡ true → ⊥
  unfolding comes_in_order follows_params
  no_param k e c = by k e (and_parts (n == place_of k && is_outer s) (follows_params b.statements k) c).0 (and_parts (n == place_of k && is_outer s) (follows_params b.statements k) c).1
    where
      by : (q : Parameter) → s.kind ≡ Param q → (n == place_of q && is_outer s) ≡ true → follows_params b.statements q ≡ true → ⊥
      by parameters.Second p front behind =
          let two = eqb-true n 2 (and_parts (n == 2) (is_outer s) front).0 in
          false≢true (sym none ∙ (ap (λ (m : ℕ). is_param_in (statement_at b.statements m)) (sym two) ∙ (ap is_param_in at ∙ ap is_param p)))
      by parameters.Third p front behind = false≢true (sym none ∙ behind)
      by parameters.Fourth p front behind = false≢true (sym none ∙ (and_parts (is_param_in (statement_at b.statements 2)) (is_param_in (statement_at b.statements 3)) behind).0)

-- `main` has no `param`
takes_one : (b : BlockParts) → KeepsItself b → TakesOne b → (n : ℕ) (s : StatementParts) → statement_at b.statements n ≡ Some s → (not (is_param s.kind) || not (same_name b.name main_name)) ≡ true
takes_one b keeps one n s at = by s.kind refl (same_name b.name main_name) refl
  where
    by : (k : Kind) → s.kind ≡ k → (m : Bool) → same_name b.name main_name ≡ m → (not (is_param k) || not m) ≡ true
    by (Param k) e true main = absurd (no_param b n s at (one main) k e (subst (λ (c : Kind). comes_in_order b.statements n s c ≡ true) e (keeps.params n s at)))
    by (Param k) e false main = refl
    by k e m main = refl

module _ (bs : List BlockParts) (are : AreBlocks bs) (main : names_block bs main_name ≡ true) (gives : give_blocks bs bs ≡ true) where
  as_whole : (rule : Rule) → program_keeps rule bs ≡ true
  as_whole MainExists = main
  as_whole rule = refl

  as_block : (rule : Rule) (n : ℕ) (b : BlockParts) → slice_get bs (n - 1) ≡ Some b → block_keeps rule bs n b ≡ true
  as_block BlockNamesDiffer n b at = ap not (are.differ (n - 1) b at)
  as_block rule n b at = refl

  -- a procedure that a statement gives is one of the blocks
  given : (k : ℕ) (b : BlockParts) → slice_get bs k ≡ Some b → (n : ℕ) (s : StatementParts) → statement_at b.statements n ≡ Some s → gives_block bs s.kind ≡ true
  given k b at n s stands =
      let each = all_get (λ (c : BlockParts). list_all (λ (t : StatementParts). gives_block bs t.kind) c.statements) bs k b at gives in
      all_get (λ (t : StatementParts). gives_block bs t.kind) b.statements (n - 1) s (has_number b.statements n s stands).1 each

  module _ (k : ℕ) (b : BlockParts) (at : slice_get bs k ≡ Some b) where
    keeps : KeepsItself b
    keeps = (are.kept b (member bs k b at)).0

    as_statement : (rule : Rule) (n : ℕ) (s : StatementParts) → statement_at b.statements n ≡ Some s → itself_keeps rule bs b n s ≡ true
    as_statement BeginComesFirst n s e = keeps.begins n s e
    as_statement RegionExists n s e = keeps.regions n s e
    as_statement EnterReachesItsLoop n s e = keeps.enters n s e
    as_statement ApplyNamesBack n s e = keeps.names_backs n s e
    as_statement BackIsNamed n s e = keeps.named_backs n s e
    as_statement ConstantNamesBlock n s e = given k b at n s e
    as_statement LoopStatementsInLoops n s e = keeps.turns n s e
    as_statement EndInOuterRegion n s e = keeps.ends n s e
    as_statement PortsAreFed n s e = keeps.fed n s e
    as_statement ParamsComeInOrder n s e = keeps.params n s e
    as_statement MainTakesOne n s e = takes_one b keeps (are.kept b (member bs k b at)).1 n s e
    as_statement rule n s e = refl

    as_arc : (rule : Rule) (a : Arc) (s : StatementParts) (d : Destination) → statement_at b.statements a.statement ≡ Some s → destination_of b.statements a ≡ Some d → destination_keeps rule b s d ≡ true
    as_arc DestinationExists a s d e l = keeps.reaches a s d e l
    as_arc BeginAndBackTakeNothing a s d e l = keeps.takes a s d e l
    as_arc EnterReachesItsLoop a s d e l = keeps.enters_loop a s d e l
    as_arc LastSendsToLeave a s d e l = keeps.leaves_last a s d e l
    as_arc LeaveSendsOut a s d e l = keeps.leaves_out a s d e l
    as_arc OwnRegion a s d e l = keeps.own_region a s d e l
    as_arc rule a s d e l = refl

  no_breach : (rule : Rule) (block statement : ℕ) → Breaches bs rule block statement → ⊥
  no_breach rule block statement (inl p) = false≢true (sym p.broken ∙ as_whole rule)
  no_breach rule block statement (inr (inl b)) = false≢true (sym b.broken ∙ as_block rule block b.it b.stands)
  no_breach rule block statement (inr (inr i)) = elim i.breach.broken [
    | inl itself ↦ false≢true (sym itself ∙ as_statement (block - 1) i.it i.stands rule statement i.breach.it i.breach.stands)
    | inr a ↦ false≢true (sym a.broken ∙ as_arc (block - 1) i.it i.stands rule a.arc i.breach.it a.to (ap (statement_at i.it.statements) a.from ∙ i.breach.stands) a.leads)
  ]

  -- such a program breaks no rule
  pub breaks_none : IsChecked bs
  breaks_none = record { keeps_all = no_breach }

-- What a picture shows beside clusters and statements is of the program.
use Rattle.std.proofs.Common.{◌≡◌, ℕ, suc, Bool, true, false, List, [], ◌∷◌, ◌++◌, refl, map, inl, inr}
use Rattle.std.specs.Prelude.{◌==◌, if◌then◌else◌}
use Rattle.std.specs.List.{AllByRecursion}
use Rattle.u_program.specs.declared.program.Kind.{Kind}
use Rattle.u_program.specs.declared.program.Kind.TheVariants.{Apply}
use Rattle.u_program.specs.declared.program.Version.{Version}
use Rattle.u_compile.specs.declared.origins.BlockOrigins.{BlockOrigins}
use Rattle.u_program.specs.Parts.{StatementParts, BlockParts}
use Rattle.u_pictures.specs.declared.styles.Exit.TheVariants.{OnFalse, FromPoint}
use Rattle.u_pictures.specs.ProgramNames.{statement_name, point_name}
use Rattle.u_pictures.specs.Styles.{exit_of}
use Rattle.u_pictures.specs.Sharing.{times, shares}
use Rattle.u_pictures.specs.Arcs.{arc_to, arcs_to, the_point, point_node, shared_arcs, join_arc, list_arcs, result_arcs, statement_arcs, the_arcs}
use Rattle.u_pictures.specs.Leads.{Among, IsNumbered, IsOf, ListArc, OtherwiseArc, JoinArc, PointArc, ResultArc, Point, DrawsBlock}
use Rattle.u_pictures.proofs.ArcLaws.{list_leads, otherwise_leads, result_shown}

all_append : {X : Type 0} (P : X → Type 0) (a b : List X) → AllByRecursion P a → AllByRecursion P b → AllByRecursion P (a ++ b)
all_append P [] b v w = w
all_append P (x ∷ a) b v w = (v.0, all_append P a b v.1 w)

all_map : {X Y : Type 0} (P : Y → Type 0) (f : X → Y) (xs : List X) → ((x : X) → Among x xs → P (f x)) → AllByRecursion P (map f xs)
all_map P f [] h = tt
all_map P f (x ∷ xs) h = (h x (inl refl), all_map P f xs (λ y a. h y (inr a)))

all_either : {X : Type 0} (P : X → Type 0) (c : Bool) (a b : List X) → AllByRecursion P a → AllByRecursion P b → AllByRecursion P (if c then a else b)
all_either P true a b v w = v
all_either P false a b v w = w

module _ (b : BlockParts) where
  module _ (n : ℕ) (s : StatementParts) (at : IsNumbered 1 b.statements n s) where
    abbrev from : List ℕ
    from = statement_name b.name n

    point_is : (behind : List StatementParts) → AllByRecursion (IsOf b) (the_point b s behind)
    unfolding the_point
    point_is behind =
        all_either (IsOf b) (times s.to behind == 1) (point_node b s ∷ arcs_to b.name (point_name b.name s.to) FromPoint s.to) []
        (Point n s at, all_map (IsOf b) (arc_to b.name (point_name b.name s.to) FromPoint) s.to (λ d a. PointArc n s d at a)) tt

    list_is : (behind : List StatementParts) → AllByRecursion (IsOf b) (list_arcs b from s behind)
    unfolding list_arcs
    list_is behind =
        all_either (IsOf b) (shares b.statements s) (shared_arcs b from s behind) (arcs_to b.name from (exit_of s.kind) s.to)
        (all_append (IsOf b) (the_point b s behind) (join_arc b.name from s ∷ []) (point_is behind) (JoinArc n s at, tt))
        (all_map (IsOf b) (arc_to b.name from (exit_of s.kind)) s.to (λ d a. ListArc n s d at a))

    result_is : (k : Kind) → s.kind ≡ k → AllByRecursion (IsOf b) (result_arcs b.name from k)
    unfolding result_arcs
    result_is (Apply back c) e = (ResultArc n back c s at e, tt)
    result_is k e = tt

    statement_is : (behind : List StatementParts) → AllByRecursion (IsOf b) (statement_arcs b n s behind)
    unfolding statement_arcs
    statement_is behind =
        all_append (IsOf b) (list_arcs b from s behind) (arcs_to b.name from OnFalse s.otherwise ++ result_arcs b.name from s.kind) (list_is behind)
        (all_append (IsOf b) (arcs_to b.name from OnFalse s.otherwise) (result_arcs b.name from s.kind)
        (all_map (IsOf b) (arc_to b.name from OnFalse) s.otherwise (λ d a. OtherwiseArc n s d at a))
        (result_is s.kind refl))

  statements_are : (k : ℕ) (ss : List StatementParts) → ((n : ℕ) (s : StatementParts) → IsNumbered k ss n s → IsNumbered 1 b.statements n s) → AllByRecursion (IsOf b) (the_arcs b k ss)
  statements_are k [] h = tt
  statements_are k (s ∷ ss) h =
      all_append (IsOf b) (statement_arcs b k s ss) (the_arcs b (suc k) ss)
      (statement_is k s (h k s (inl (refl, refl))) ss)
      (statements_are (suc k) ss (λ n t a. h n t (inr a)))

  -- all that is shown of a block behind its clusters and statements
  pub arcs_are : AllByRecursion (IsOf b) (the_arcs b 1 b.statements)
  arcs_are = statements_are 1 b.statements (λ n s a. a)

draws_block : (origins : List BlockOrigins) (version : Version) (b : BlockParts) → DrawsBlock origins version b
draws_block origins version b = record {
  lists = list_leads origins version b;
  for_false = λ n s d at a. otherwise_leads origins version b n s at d a;
  results = λ n back c s at k. result_shown origins version b n s at back c k;
  only = arcs_are b;
}

pub draws_blocks : (origins : List BlockOrigins) (version : Version) (p : List BlockParts) → AllByRecursion (DrawsBlock origins version) p
draws_blocks origins version [] = tt
draws_blocks origins version (b ∷ bs) = (draws_block origins version b, draws_blocks origins version bs)

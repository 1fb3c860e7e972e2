-- The text of a program can be read off its picture: it is what the tooltips say, in their order.
use Rattle.std.proofs.Common.{◌≡◌, ℕ, suc, Bool, true, false, List, [], ◌∷◌, ◌++◌, sym, ap, refl, ◌∙◌, append_assoc}
use Rattle.std.proofs.lemmas.List.{append-nil}
use Rattle.std.specs.Prelude.{◌==◌, if◌then◌else◌}
use Rattle.u_base.specs.Spaced.{ended}
use Rattle.u_program.specs.declared.program.Kind.{Kind}
use Rattle.u_program.specs.declared.program.Kind.TheVariants.{Apply}
use Rattle.u_program.specs.declared.program.Destination.{Destination}
use Rattle.u_program.specs.declared.program.Version.{Version}
use Rattle.u_program.specs.Parts.{StatementParts, BlockParts}
use Rattle.u_compile.specs.declared.origins.BlockOrigins.{BlockOrigins}
use Rattle.u_program.specs.Text.{header, loop_line, loop_lines, statement_line, statement_lines, block_line, block_lines, blocks_lines, program_lines, program_text}
use Rattle.u_pictures.specs.declared.styles.Exit.{Exit}
use Rattle.u_pictures.specs.declared.styles.Exit.TheVariants.{OnFalse, FromPoint}
use Rattle.u_pictures.specs.Dot.{Shown, Cluster, Node, Arc, numbered}
use Rattle.u_pictures.specs.ProgramNames.{statement_name, point_name}
use Rattle.u_pictures.specs.Styles.{exit_of}
use Rattle.u_pictures.specs.Sharing.{times, shares}
use Rattle.u_pictures.specs.Clusters.{the_loop}
use Rattle.u_pictures.specs.Arcs.{arcs_to, the_point, shared_arcs, join_arc, list_arcs, result_arcs, statement_arcs, the_arcs}
use Rattle.u_pictures.specs.ProgramPicture.{statement_tip, the_node, block_picture, picture}
use Rattle.u_pictures.specs.Told.{tooltips, told, statement_tips, tips}

told-append : (a b : List Shown) → told (a ++ b) ≡ told a ++ told b
told-append [] b = refl
told-append (Cluster names list ∷ a) b = ap (λ t. tooltips list ++ t) (told-append a b) ∙ sym (append_assoc (tooltips list) (told a) (told b))
told-append (Node names name list ∷ a) b = ap (λ t. tooltips list ++ t) (told-append a b) ∙ sym (append_assoc (tooltips list) (told a) (told b))
told-append (Arc from to list ∷ a) b = told-append a b

told_silent : (a b : List Shown) → told a ≡ [] → told b ≡ [] → told (a ++ b) ≡ []
told_silent a b p q = told-append a b ∙ ap (λ t. t ++ told b) p ∙ q

arcs_silent : (block from : List ℕ) (exit : Exit) (to : List Destination) → told (arcs_to block from exit to) ≡ []
arcs_silent block from exit [] = refl
arcs_silent block from exit (d ∷ to) = arcs_silent block from exit to

either_silent : (c : Bool) (a b : List Shown) → told a ≡ [] → told b ≡ [] → told (if c then a else b) ≡ []
either_silent true a b p q = p
either_silent false a b p q = q

module _ (b : BlockParts) where
  point_silent : (s : StatementParts) (behind : List StatementParts) → told (the_point b s behind) ≡ []
  unfolding the_point
  point_silent s behind = either_silent (times s.to behind == 1) _ [] (arcs_silent b.name (point_name b.name s.to) FromPoint s.to) refl

  list_silent : (from : List ℕ) (s : StatementParts) (behind : List StatementParts) → told (list_arcs b from s behind) ≡ []
  unfolding list_arcs
  list_silent from s behind =
      either_silent (shares b.statements s) (shared_arcs b from s behind) (arcs_to b.name from (exit_of s.kind) s.to)
      (told_silent (the_point b s behind) (join_arc b.name from s ∷ []) (point_silent s behind) refl)
      (arcs_silent b.name from (exit_of s.kind) s.to)

  result_silent : (from : List ℕ) (k : Kind) → told (result_arcs b.name from k) ≡ []
  unfolding result_arcs
  result_silent from (Apply n c) = refl
  result_silent from k = refl

  statement_silent : (n : ℕ) (s : StatementParts) (behind : List StatementParts) → told (statement_arcs b n s behind) ≡ []
  unfolding statement_arcs
  statement_silent n s behind =
      let from = statement_name b.name n in
      told_silent (list_arcs b from s behind) (arcs_to b.name from OnFalse s.otherwise ++ result_arcs b.name from s.kind) (list_silent from s behind)
      (told_silent (arcs_to b.name from OnFalse s.otherwise) (result_arcs b.name from s.kind) (arcs_silent b.name from OnFalse s.otherwise) (result_silent from s.kind))

  all_silent : (n : ℕ) (ss : List StatementParts) → told (the_arcs b n ss) ≡ []
  all_silent n [] = refl
  all_silent n (s ∷ ss) = told_silent (statement_arcs b n s ss) (the_arcs b (suc n) ss) (statement_silent n s ss) (all_silent (suc n) ss)

  loops_told : (n : ℕ) (hs : List ℕ) → told (numbered (the_loop b) n hs) ≡ loop_lines n hs
  loops_told n [] = refl
  loops_told n (h ∷ hs) = ap (λ t. loop_line n h ∷ t) (loops_told (suc n) hs)

  module _ (origins : List BlockOrigins) (version : Version) where
    nodes_told : (n : ℕ) (ss : List StatementParts) → told (numbered (the_node origins version b) n ss) ≡ statement_tips origins version b.name n ss
    nodes_told n [] = refl
    nodes_told n (s ∷ ss) = ap (λ t. statement_tip origins version b.name n s ∷ t) (nodes_told (suc n) ss)

    block_told : told (block_picture origins version b) ≡ block_line b.name ∷ (loop_lines 1 b.loops ++ statement_tips origins version b.name 1 b.statements)
    unfolding block_picture
    block_told =
        let loops = numbered (the_loop b) 1 b.loops in
        let nodes = numbered (the_node origins version b) 1 b.statements in
        let arcs = the_arcs b 1 b.statements in
        ap (λ t. block_line b.name ∷ t)
        (told-append loops (nodes ++ arcs)
        ∙ ap (λ t. told loops ++ t) (told-append nodes arcs ∙ ap (λ t. told nodes ++ t) (all_silent 1 b.statements) ∙ append-nil (told nodes) ∙ nodes_told 1 b.statements)
        ∙ ap (λ t. t ++ statement_tips origins version b.name 1 b.statements) (loops_told 1 b.loops))

-- the tooltips say the lines behind the first, those of statements with their places
pub tips_told : (origins : List BlockOrigins) (version : Version) (p : List BlockParts) → told (picture origins version p) ≡ tips origins version p
tips_told origins version [] = refl
tips_told origins version (b ∷ bs) =
    told-append (block_picture origins version b) (picture origins version bs)
    ∙ ap (λ t. t ++ told (picture origins version bs)) (block_told b origins version)
    ∙ ap (λ t. (block_line b.name ∷ (loop_lines 1 b.loops ++ statement_tips origins version b.name 1 b.statements)) ++ t) (tips_told origins version bs)

plain_statements : (version : Version) (block : List ℕ) (n : ℕ) (ss : List StatementParts) → statement_tips [] version block n ss ≡ statement_lines version n ss
plain_statements version block n [] = refl
plain_statements version block n (s ∷ ss) =
    ap (λ l. l ∷ statement_tips [] version block (suc n) ss) (append-nil (statement_line version n s))
    ∙ ap (λ t. statement_line version n s ∷ t) (plain_statements version block (suc n) ss)

plain_blocks : (version : Version) (p : List BlockParts) → tips [] version p ≡ blocks_lines version p
plain_blocks version [] = refl
plain_blocks version (b ∷ bs) =
    ap (λ t. (block_line b.name ∷ (loop_lines 1 b.loops ++ t)) ++ tips [] version bs) (plain_statements version b.name 1 b.statements)
    ∙ ap (λ t. block_lines version b ++ t) (plain_blocks version bs)

-- without origins the tooltips say the lines of the program
pub lines_told : (version : Version) (p : List BlockParts) → header version ∷ told (picture [] version p) ≡ program_lines version p
lines_told version p = ap (λ t. header version ∷ t) (tips_told [] version p ∙ plain_blocks version p)

-- two programs of one version with the same picture have the same text
pub same_picture_same_text : (version : Version) (p q : List BlockParts) → picture [] version p ≡ picture [] version q → program_text version p ≡ program_text version q
unfolding program_text
same_picture_same_text version p q h = ap ended (sym (lines_told version p) ∙ ap (λ t. header version ∷ told t) h ∙ lines_told version q)

-- The lines that may stand at a place are those with which a program goes on there.
use Rattle.std.specs.Prelude.{◌≡◌, ℕ, suc, ◌≤◌, ◌<◌, List, [], ◌∷◌, ◌++◌, length, refl}
use Rattle.std.proofs.Common.{sym, ◌∙◌, ap, subst, arith, inl, inr}
use Rattle.std.proofs.lemmas.List.{append-nil}
use Rattle.u_program.specs.declared.program.Version.{Version}
use Rattle.u_program.specs.declared.program.Version.TheVariants as versions
use Rattle.u_program.specs.Parts.{BlockParts, block}
use Rattle.u_program.specs.Limits.{limits_of}
use Rattle.u_program.specs.Text.{header, block_line, loop_line, statement_line}
use Rattle.u_program.specs.Begun.{IsPart, part_lines}
use Rattle.u_program.specs.FirstBad.{Begins}
use Rattle.u_program.proofs.Lists.{heads}
use Rattle.u_program.proofs.Next.{new_block, new_loop, new_statement}
use Rattle.u_program.proofs.Steps.{next_of, completes, block_taken, loop_taken, statement_taken, lifted}
use Rattle.u_program.proofs.Whole.{begins_header, first_lines, first_part}
use Rattle.u_explain.specs.declared.text_place.TextPlace.{TextPlace}
use Rattle.u_explain.specs.declared.text_place.TextPlace.TheVariants as places
use Rattle.u_explain.specs.Left.{IsLeft}
use Rattle.u_explain.specs.Lines.{BlockOn, LoopOn, StatementOn}
use Rattle.u_explain.specs.Places.{IsAllowed, IsInside, IsPlace, BlockWhere, LoopWhere, StatementWhere, InsideOn, VersionOn, HeaderOn, PlaceOn}
use Rattle.u_explain.proofs.LeftLaws.{same, nothing}

-- the first line

version_onto : (version : Version) → (t : List ℕ) → VersionOn version t → IsAllowed [] t
version_onto version t m = subst (λ l. Begins limits_of (l ∷ [])) (sym (m.1 ∙ ap (λ i. header version ++ i) m.2 ∙ append-nil (header version))) (begins_header version)

version_back : (version : Version) (t : List ℕ) → t ≡ header version → VersionOn version t
version_back version t e = ([], e ∙ sym (append-nil (header version)), refl)

header_onto : (t : List ℕ) → HeaderOn t → IsAllowed [] t
header_onto t (inl m) = version_onto versions.One t m
header_onto t (inr m) = version_onto versions.Two t m

header_back : (t : List ℕ) → IsAllowed [] t → HeaderOn t
header_back t b = at b.version (sym (heads b.there))
  where
    at : (version : Version) → t ≡ header version → HeaderOn t
    at versions.One e = inl (version_back versions.One t e)
    at versions.Two e = inr (version_back versions.Two t e)

module _ (version : Version) where
  -- the second line

  first_onto : (t : List ℕ) → BlockOn t → IsAllowed (header version ∷ []) t
  first_onto t m = subst (λ l. Begins limits_of (header version ∷ (l ∷ []))) (sym m.2) (completes version limits_of [] (block m.0 [] []) (first_part version m.0 m.1))

  pub first_back : (t : List ℕ) → IsAllowed (header version ∷ []) t → BlockOn t
  first_back t b = first_lines version limits_of t b

  -- a line behind the first block's

  -- a part with one more line begins a program
  goes_on : (done : List BlockParts) (last : BlockParts) (new : List BlockParts) (open_block : BlockParts) (t : List ℕ) → IsPart (limits_of version) new open_block × (part_lines version new open_block ≡ part_lines version done last ++ (t ∷ [])) → Begins limits_of ((header version ∷ part_lines version done last) ++ (t ∷ []))
  goes_on done last new open_block t v = subst (λ ls. Begins limits_of (header version ∷ ls)) v.1 (completes version limits_of new open_block v.0)

  module _ (done : List BlockParts) (last : BlockParts) (v : IsPart (limits_of version) done last) where
    abbrev lines_before : List (List ℕ)
    lines_before = header version ∷ part_lines version done last

    inside_onto : (t : List ℕ) → InsideOn version (suc (length done)) (length last.loops) (length last.statements) t → Begins limits_of (lines_before ++ (t ∷ []))
    inside_onto t (inl m) =
        let n = m.2 in
        subst (λ l. Begins limits_of (lines_before ++ (l ∷ []))) (sym n.2) (goes_on done last (done ++ (last ∷ [])) (block n.0 [] []) (block_line n.0) (block_taken version done last n.0 v n.1 m.0 (omega (arith, m.1))))
    inside_onto t (inr (inl m)) =
        let h = m.2 in
        subst (λ l. Begins limits_of (lines_before ++ (l ∷ []))) (sym h.3) (goes_on done last done (block last.name (last.loops ++ (h.0 ∷ [])) last.statements) (loop_line (suc (length last.loops)) h.0)
        (loop_taken version done last (suc (length last.loops)) h.0 v ((omega arith, omega (arith, m.1)), omega (arith, h.2, m.1)) m.0 (omega arith) (omega (arith, h.2)) (omega (arith, m.1))))
    inside_onto t (inr (inr m)) =
        let s = m.1 in
        let w = s.1 in
        subst (λ l. Begins limits_of (lines_before ++ (l ∷ []))) (sym s.2) (goes_on done last done (block last.name last.loops (last.statements ++ (s.0 ∷ []))) (statement_line version (suc (length last.statements)) s.0)
        (statement_taken version done last (suc (length last.statements)) s.0 v ((omega arith, omega (arith, m.0)), lifted version s.0 w) (omega arith) (omega (arith, m.0)) w.few w.few_otherwise))

    inside_back : (t : List ℕ) → Begins limits_of (lines_before ++ (t ∷ [])) → InsideOn version (suc (length done)) (length last.loops) (length last.statements) t
    inside_back t b =
        elim (next_of version limits_of done last t v b) [
          | new_block name w e f g ↦ inl (f, omega arith, (name, w, e))
          | new_loop h u w z e f ↦ inr (inl (z, omega arith, (h, omega arith, omega (arith, u), e)))
          | new_statement s w e f ↦ inr (inr (omega arith, (s, w, e)))
        ]

  -- the same by the counts

  by_counts : (before : List (List ℕ)) (blocks loops statements : ℕ) → IsInside before version blocks loops statements → (t : List ℕ) → InsideOn version blocks loops statements t → IsAllowed before t
  by_counts before blocks loops statements v t m =
      subst (λ ls. Begins limits_of (ls ++ (t ∷ []))) (sym v.lines) (inside_onto v.done v.last v.part t
      (subst (λ n. InsideOn version n (length v.last.loops) (length v.last.statements) t) v.blocks_are
      (subst (λ n. InsideOn version blocks n (length v.last.statements) t) v.loops_are
      (subst (λ n. InsideOn version blocks loops n t) v.statements_are m))))

  to_counts : (before : List (List ℕ)) (blocks loops statements : ℕ) → IsInside before version blocks loops statements → (t : List ℕ) → IsAllowed before t → InsideOn version blocks loops statements t
  to_counts before blocks loops statements v t b =
      let m = inside_back v.done v.last v.part t (subst (λ ls. Begins limits_of (ls ++ (t ∷ []))) v.lines b) in
      subst (λ n. InsideOn version blocks loops n t) (sym v.statements_are)
      (subst (λ n. InsideOn version blocks n (length v.last.statements) t) (sym v.loops_are)
      (subst (λ n. InsideOn version n (length v.last.loops) (length v.last.statements) t) (sym v.blocks_are) m))

allowed_onto : (place : TextPlace) (before : List (List ℕ)) → IsPlace before place → (t : List ℕ) → PlaceOn place t → IsAllowed before t
allowed_onto places.Header before e t m = subst (λ ls. Begins limits_of (ls ++ (t ∷ []))) (sym e) (header_onto t m)
allowed_onto (places.FirstBlock version) before e t m = subst (λ ls. Begins limits_of (ls ++ (t ∷ []))) (sym e) (first_onto version t m)
allowed_onto (places.Inside version blocks loops statements) before v t m = by_counts version before blocks loops statements v t m

allowed_back : (place : TextPlace) (before : List (List ℕ)) → IsPlace before place → (t : List ℕ) → IsAllowed before t → PlaceOn place t
allowed_back places.Header before e t b = header_back t (subst (λ ls. Begins limits_of (ls ++ (t ∷ []))) e b)
allowed_back (places.FirstBlock version) before e t b = first_back version t (subst (λ ls. Begins limits_of (ls ++ (t ∷ []))) e b)
allowed_back (places.Inside version blocks loops statements) before v t b = to_counts version before blocks loops statements v t b

-- what is left of a line at the place is left of it where lines are those with which a program goes on
pub left_at : (place : TextPlace) (before : List (List ℕ)) (bs rest : List ℕ) → IsPlace before place → IsLeft (PlaceOn place) bs rest → IsLeft (IsAllowed before) bs rest
left_at place before bs rest p v = same (PlaceOn place) (IsAllowed before) bs rest (allowed_onto place before p) (allowed_back place before p) v

-- lines that may not stand there

pub no_block : (blocks statements : ℕ) (bs : List ℕ) → (1 ≤ statements → blocks < 64 → ⊥) → IsLeft (BlockWhere blocks statements) bs bs
no_block blocks statements bs n = nothing (BlockWhere blocks statements) bs (λ t m. n m.0 m.1)

pub a_block : (blocks statements : ℕ) (bs rest : List ℕ) → 1 ≤ statements → blocks < 64 → IsLeft BlockOn bs rest → IsLeft (BlockWhere blocks statements) bs rest
a_block blocks statements bs rest f g v = same BlockOn (BlockWhere blocks statements) bs rest (λ t m. (f, g, m)) (λ t m. m.2) v

pub no_loop : (loops statements : ℕ) (bs : List ℕ) → (statements ≡ 0 → loops < 99 → ⊥) → IsLeft (LoopWhere loops statements) bs bs
no_loop loops statements bs n = nothing (LoopWhere loops statements) bs (λ t m. n m.0 m.1)

pub a_loop : (loops statements n : ℕ) (bs rest : List ℕ) → statements ≡ 0 → loops < 99 → n ≡ suc loops → IsLeft (LoopOn n) bs rest → IsLeft (LoopWhere loops statements) bs rest
a_loop loops statements n bs rest f g e v = same (LoopOn n) (LoopWhere loops statements) bs rest (λ t m. (f, g, subst (λ i. LoopOn i t) e m)) (λ t m. subst (λ i. LoopOn i t) (sym e) m.2) v

pub no_statement : (version : Version) (statements : ℕ) (bs : List ℕ) → (statements < 999 → ⊥) → IsLeft (StatementWhere version statements) bs bs
no_statement version statements bs n = nothing (StatementWhere version statements) bs (λ t m. n m.0)

pub a_statement : (version : Version) (statements n : ℕ) (bs rest : List ℕ) → statements < 999 → n ≡ suc statements → IsLeft (StatementOn version n) bs rest → IsLeft (StatementWhere version statements) bs rest
a_statement version statements n bs rest f e v = same (StatementOn version n) (StatementWhere version statements) bs rest (λ t m. (f, subst (λ i. StatementOn version i t) e m)) (λ t m. subst (λ i. StatementOn version i t) (sym e) m.1) v

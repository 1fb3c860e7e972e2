-- The place behind one more line.
use Rattle.std.specs.Prelude.{◌≡◌, ℕ, suc, ◌+◌, ◌≤◌, ◌==◌, Bool, true, false, if◌then◌else◌, List, [], ◌∷◌, ◌++◌, length, refl}
use Rattle.std.proofs.Common.{sym, ◌∙◌, ap, subst, arith, length-append}
use Rattle.std.proofs.lemmas.Bool.Decides.{nat_tests}
use Rattle.u_base.specs.Spaced.{spaced}
use Rattle.std.specs.Fmt.{decimal}
use Rattle.u_base.proofs.NumberLaws.{decimal_first}
use Rattle.u_program.specs.declared.program.Version.{Version}
use Rattle.u_program.specs.Parts.{StatementParts, BlockParts, block}
use Rattle.u_program.specs.Limits.{limits_of}
use Rattle.u_program.specs.Text.{header, block_line, loop_line, statement_line, statement_words}
use Rattle.u_program.specs.Begun.{part_lines}
use Rattle.u_program.specs.FirstBad.{Begins}
use Rattle.u_program.proofs.Lists.{heads}
use Rattle.u_program.proofs.Next.{new_block, new_loop, new_statement}
use Rattle.u_program.proofs.Steps.{next_of, block_taken, loop_taken, statement_taken, lifted}
use Rattle.u_program.proofs.Whole.{first_part}
use Rattle.u_explain.specs.declared.text_place.Sort.{Sort}
use Rattle.u_explain.specs.declared.text_place.Sort.TheVariants as sorts
use Rattle.u_explain.specs.declared.text_place.TextPlace.{TextPlace}
use Rattle.u_explain.specs.declared.text_place.TextPlace.TheVariants as places
use Rattle.u_explain.specs.Places.{IsAllowed, IsInside, IsPlace, sort_of}
use Rattle.u_explain.proofs.PlaceLaws.{first_back}

-- what the place behind a first line is, which says that version
pub behind_header : (before : List (List ℕ)) (t : List ℕ) (new : Version) → ((v : Version) → t ≡ header v → new ≡ v) → before ≡ [] → IsAllowed before t → IsPlace (before ++ (t ∷ [])) (places.FirstBlock new)
behind_header before t new says e b =
    let f : Begins limits_of (t ∷ []) = subst (λ ls. Begins limits_of (ls ++ (t ∷ []))) e b in
    let h = sym (heads f.there) in
    let n = says f.version h in
    ap (λ ls. ls ++ (t ∷ [])) e ∙ ap (λ l. l ∷ []) (h ∙ ap header (sym n))

pub behind_first : (version : Version) (before : List (List ℕ)) (t : List ℕ) → before ≡ header version ∷ [] → IsAllowed before t → IsInside (before ++ (t ∷ [])) version 1 0 0
behind_first version before t e b =
    let m = first_back version t (subst (λ ls. Begins limits_of (ls ++ (t ∷ []))) e b) in
    record {
      done = [];
      last = block m.0 [] [];
      part = first_part version m.0 m.1;
      lines = ap (λ ls. ls ++ (t ∷ [])) e ∙ ap (λ l. header version ∷ (l ∷ [])) m.2;
      blocks_are = refl;
      loops_are = refl;
      statements_are = refl;
    }

-- the sorts of lines

of_block : (name : List ℕ) → sort_of (block_line name) ≡ sorts.Block
unfolding block_line
of_block name = refl

of_loop : (n h : ℕ) → sort_of (loop_line n h) ≡ sorts.Loop
unfolding loop_line
of_loop n h = refl

chosen : Bool → Bool → Sort
chosen p q = if p then sorts.Block else (if q then sorts.Loop else sorts.Statement)

neither : (p q : Bool) → p ≡ false → q ≡ false → (if p then sorts.Block else (if q then sorts.Loop else sorts.Statement)) ≡ sorts.Statement
neither true q e f = cc
neither false true e f = cc
neither false false e f = refl

of_low : (xs : List ℕ) → ((c : ℕ) (v : List ℕ) → xs ≡ c ∷ v → c ≤ 57) → sort_of xs ≡ sorts.Statement
of_low [] h = refl
of_low (c ∷ v) h =
    let low = h c v refl in
    let p : (c == 98) ≡ false = grind (arith, nat_tests) in
    let q : (c == 108) ≡ false = grind (arith, nat_tests) in
    neither (c == 98) (c == 108) p q

of_statement : (version : Version) (n : ℕ) (s : StatementParts) → n ≤ 1000 → sort_of (statement_line version n s) ≡ sorts.Statement
unfolding statement_line
of_statement version n s h = of_low (decimal n ++ spaced (statement_words version s)) (λ c v e. (decimal_first n (omega arith) c (spaced (statement_words version s)) v e).1)

-- what one more line makes of a place inside of a program
pub data Step (before : List (List ℕ)) (version : Version) (blocks loops statements : ℕ) (t : List ℕ) : Type 0 where
  begins_block : sort_of t ≡ sorts.Block → IsInside (before ++ (t ∷ [])) version (blocks + 1) 0 0 → Step before version blocks loops statements t
  adds_loop : sort_of t ≡ sorts.Loop → IsInside (before ++ (t ∷ [])) version blocks (loops + 1) statements → Step before version blocks loops statements t
  adds_statement : sort_of t ≡ sorts.Statement → IsInside (before ++ (t ∷ [])) version blocks loops (statements + 1) → Step before version blocks loops statements t

module _ (before : List (List ℕ)) (version : Version) (blocks loops statements : ℕ) (v : IsInside before version blocks loops statements) (t : List ℕ) where
  grown : (done : List BlockParts) (last : BlockParts) → part_lines version done last ≡ part_lines version v.done v.last ++ (t ∷ []) → before ++ (t ∷ []) ≡ header version ∷ part_lines version done last
  grown done last e = ap (λ ls. ls ++ (t ∷ [])) v.lines ∙ ap (λ ls. header version ∷ ls) (sym e)

  pub step : IsAllowed before t → Step before version blocks loops statements t
  step b =
      elim (next_of version limits_of v.done v.last t v.part (subst (λ ls. Begins limits_of (ls ++ (t ∷ []))) v.lines b)) [
        | new_block name w e f g ↦
            let new = block_taken version v.done v.last name v.part w f (omega arith) in
            begins_block (ap sort_of e ∙ of_block name) (record {
              done = v.done ++ (v.last ∷ []);
              last = block name [] [];
              part = new.0;
              lines = grown (v.done ++ (v.last ∷ [])) (block name [] []) (new.1 ∙ ap (λ l. part_lines version v.done v.last ++ (l ∷ [])) (sym e));
              blocks_are = omega (arith, v.blocks_are, length-append v.done (v.last ∷ []));
              loops_are = refl;
              statements_are = refl;
            })
        | new_loop h u w z e f ↦
            let new = loop_taken version v.done v.last (suc (length v.last.loops)) h v.part ((omega arith, omega (arith, f)), w) z (omega arith) (omega (arith, u)) (omega (arith, f)) in
            adds_loop (ap sort_of e ∙ of_loop (suc (length v.last.loops)) h) (record {
              done = v.done;
              last = block v.last.name (v.last.loops ++ (h ∷ [])) v.last.statements;
              part = new.0;
              lines = grown v.done (block v.last.name (v.last.loops ++ (h ∷ [])) v.last.statements) (new.1 ∙ ap (λ l. part_lines version v.done v.last ++ (l ∷ [])) (sym e));
              blocks_are = v.blocks_are;
              loops_are = omega (arith, v.loops_are, length-append v.last.loops (h ∷ []));
              statements_are = v.statements_are;
            })
        | new_statement s w e f ↦
            let new = statement_taken version v.done v.last (suc (length v.last.statements)) s v.part ((omega arith, omega (arith, f)), lifted version s w) (omega arith) (omega (arith, f)) w.few w.few_otherwise in
            adds_statement (ap sort_of e ∙ of_statement version (suc (length v.last.statements)) s (omega (arith, f))) (record {
              done = v.done;
              last = block v.last.name v.last.loops (v.last.statements ++ (s ∷ []));
              part = new.0;
              lines = grown v.done (block v.last.name v.last.loops (v.last.statements ++ (s ∷ []))) (new.1 ∙ ap (λ l. part_lines version v.done v.last ++ (l ∷ [])) (sym e));
              blocks_are = v.blocks_are;
              loops_are = v.loops_are;
              statements_are = omega (arith, v.statements_are, length-append v.last.statements (s ∷ []));
            })
      ]

  few_blocks : blocks ≤ 999
  few_blocks = let f : length v.done + 1 ≤ 64 = v.part.blocks in omega (arith, v.blocks_are, f)

  few_loops : loops ≤ 999
  few_loops = let f : length v.last.loops ≤ 99 = v.part.few_loops in omega (arith, v.loops_are, f)

  few_statements : statements ≤ 999
  few_statements = let f : length v.last.statements ≤ 999 = v.part.few in omega (arith, v.statements_are, f)

  pub behind_block : IsAllowed before t → sort_of t ≡ sorts.Block → (n : ℕ) → (blocks ≤ 999 → n ≡ blocks + 1) → IsPlace (before ++ (t ∷ [])) (places.Inside version n 0 0)
  behind_block b e n h =
      elim (step b) [
        | begins_block f w ↦ subst (λ i. IsInside (before ++ (t ∷ [])) version i 0 0) (sym (h few_blocks)) w
        | adds_loop f w ↦ absurd (cc)
        | adds_statement f w ↦ absurd (cc)
      ]

  pub behind_loop : IsAllowed before t → sort_of t ≡ sorts.Loop → (n : ℕ) → (loops ≤ 999 → n ≡ loops + 1) → IsPlace (before ++ (t ∷ [])) (places.Inside version blocks n statements)
  behind_loop b e n h =
      elim (step b) [
        | begins_block f w ↦ absurd (cc)
        | adds_loop f w ↦ subst (λ i. IsInside (before ++ (t ∷ [])) version blocks i statements) (sym (h few_loops)) w
        | adds_statement f w ↦ absurd (cc)
      ]

  pub behind_statement : IsAllowed before t → sort_of t ≡ sorts.Statement → (n : ℕ) → (statements ≤ 999 → n ≡ statements + 1) → IsPlace (before ++ (t ∷ [])) (places.Inside version blocks loops n)
  behind_statement b e n h =
      elim (step b) [
        | begins_block f w ↦ absurd (cc)
        | adds_loop f w ↦ absurd (cc)
        | adds_statement f w ↦ subst (λ i. IsInside (before ++ (t ∷ [])) version blocks loops i) (sym (h few_statements)) w
      ]

-- the place behind a line, of any place
pub first_too : (before : List (List ℕ)) (place : TextPlace) (version : Version) → place ≡ places.FirstBlock version → IsPlace before place → before ≡ header version ∷ []
first_too before place version e v = subst (IsPlace before) e v

-- Whole texts of programs.
use Rattle.std.specs.Prelude.{◌≡◌, ℕ, suc, ◌+◌, ◌≤◌, List, [], ◌∷◌, ◌++◌, length, Some, None, refl}
use Rattle.std.proofs.Common.{sym, ◌∙◌, ap, subst, arith, append_assoc, length-append}
use Rattle.std.proofs.lemmas.List.{append-nil}
use Rattle.std.specs.List.{AllByRecursion}
use Rattle.u_name.specs.Block.{IsBlock}
use Rattle.u_base.specs.Pieces.{pieces, words}
use Rattle.u_base.proofs.PiecesLaws.{Free, glued, glued-pieces}
use Rattle.u_base.specs.Spaced.{ended}
use Rattle.u_base.proofs.SpacedLaws.{AllFree, all_free_append, pieces-ended, glued-ended}
use Rattle.u_program.specs.declared.reading.Line.TheVariants.{Block, Loop, Statement}
use Rattle.u_program.specs.Parts.{StatementParts, BlockParts, ProgramParts, block}
use Rattle.u_program.specs.Limits.{Limits, AtMost, AreLoops, IsStatement, IsBlockOf, IsProgram, limits_of, no_limits}
use Rattle.u_program.specs.Text.{block_line, loop_lines, statement_lines, block_lines, blocks_lines, program_lines, program_text, header}
use Rattle.u_program.specs.FirstBad.{Begins, IsFirstBad, IsBadLine, IsTooMany, IsTruncated}
use Rattle.u_program.specs.Reading.{line_at}
use Rattle.u_program.specs.Begun.{part_lines, IsPart, IsRead}
use Rattle.u_program.proofs.Lists.{heads, tails}
use Rattle.u_program.proofs.LineLaws.{block_line_free, loop_line_free, statement_line_free, line_none, line_sound}
use Rattle.u_program.proofs.Next.{first, lines_differ, loop_not_block}
use Rattle.u_program.proofs.Steps.{same_version, begun_so, completes, block_closed, blocks_lifted, none_few, least_statement, first_statement, blocks_lines-append, all_append}
use Rattle.u_program.specs.declared.program.Version.{Version}
use Rattle.u_program.specs.declared.program.Version.TheVariants as versions

-- some block
least : BlockParts
least = block (97 ∷ []) [] (least_statement ∷ [])

is_least_name : IsBlock (97 ∷ [])
is_least_name = record { short = omega arith; first = refl; each = (refl, tt) }

is_least : (limits : Limits) → AtMost limits.statements 1 → IsBlockOf limits least
unfolding least
is_least limits f = record { name = is_least_name; loops = tt; few_loops = none_few limits.loops; each = (first_statement limits, tt); few = f; some = omega arith }

-- the header alone can go on
least_program : (v : Version) → IsProgram (limits_of v) (least ∷ [])
least_program v = record { each = (is_least (limits_of v) (omega arith), tt); few = omega arith; some = omega arith }

header_free : (v : Version) → Free 10 (header v)
header_free versions.One = (λ e. omega arith, (λ e. omega arith, (λ e. omega arith, (λ e. omega arith, (λ e. omega arith, (λ e. omega arith, (λ e. omega arith, (λ e. omega arith, (λ e. omega arith, (λ e. omega arith, (λ e. omega arith, tt)))))))))))
header_free versions.Two = (λ e. omega arith, (λ e. omega arith, (λ e. omega arith, (λ e. omega arith, (λ e. omega arith, (λ e. omega arith, (λ e. omega arith, (λ e. omega arith, (λ e. omega arith, (λ e. omega arith, (λ e. omega arith, tt)))))))))))

pub read_none : (bytes : List ℕ) → IsRead bytes [] bytes
read_none bytes = record { all = refl }

pub read_more : (bytes rest text others : List ℕ) (ls : List (List ℕ)) → IsRead bytes ls rest → pieces 10 rest ≡ (text ∷ (pieces 10 others).0, (pieces 10 others).1) → IsRead bytes (ls ++ (text ∷ [])) others
read_more bytes rest text others ls r h = record { all = r.all ∙ ap (λ (p : List (List ℕ) × List ℕ). (ls ++ p.0, p.1)) h ∙ ap (λ t. (t, (pieces 10 others).1)) (sym (append_assoc ls (text ∷ []) (pieces 10 others).0)) }

first_bad : (bytes rest text others : List ℕ) (ls : List (List ℕ)) (V : List (List ℕ) → Type 0) → IsRead bytes ls rest → pieces 10 rest ≡ (text ∷ (pieces 10 others).0, (pieces 10 others).1) → Begins limits_of ls → (Begins limits_of (ls ++ (text ∷ [])) → ⊥) → V (ls ++ (text ∷ [])) → IsFirstBad bytes (suc (length ls)) V
first_bad bytes rest text others ls V r h a b v = record { before = ls; line = text; others = (pieces 10 others).0; there = ap (λ (p : List (List ℕ) × List ℕ). p.0) (r.all ∙ ap (λ (p : List (List ℕ) × List ℕ). (ls ++ p.0, p.1)) h); number = refl; allowed = a; refused = b; verdict = v }

pub lifted : (ls : List (List ℕ)) → Begins limits_of ls → Begins no_limits ls
lifted ls b = record { version = b.version; program = b.program; more = b.more; valid = record { each = blocks_lifted b.version b.program b.valid.each; few = tt; some = b.valid.some }; there = b.there }

pub bad_line : (bytes rest text others : List ℕ) (ls : List (List ℕ)) → IsRead bytes ls rest → pieces 10 rest ≡ (text ∷ (pieces 10 others).0, (pieces 10 others).1) → Begins limits_of ls → (Begins no_limits (ls ++ (text ∷ [])) → ⊥) → IsBadLine bytes (suc (length ls))
bad_line bytes rest text others ls r h a b = first_bad bytes rest text others ls _ r h a (λ c. b (lifted _ c)) b

pub too_many : (bytes rest text others : List ℕ) (ls : List (List ℕ)) → IsRead bytes ls rest → pieces 10 rest ≡ (text ∷ (pieces 10 others).0, (pieces 10 others).1) → Begins limits_of ls → Begins no_limits (ls ++ (text ∷ [])) → (Begins limits_of (ls ++ (text ∷ [])) → ⊥) → IsTooMany bytes (suc (length ls))
too_many bytes rest text others ls r h a b c = first_bad bytes rest text others ls _ r h a c b

-- where nothing more ends with a newline
pub ends : (bytes rest : List ℕ) (ls : List (List ℕ)) → IsRead bytes ls rest → pieces 10 rest ≡ ([], rest) → pieces 10 bytes ≡ (ls, rest)
ends bytes rest ls r h = r.all ∙ ap (λ (p : List (List ℕ) × List ℕ). (ls ++ p.0, p.1)) h ∙ ap (λ t. (t, rest)) (append-nil ls)

module _ (version : Version) where
  -- the numbers of statements of a program are small
  statements_free : (n : ℕ) (ss : List StatementParts) → n + length ss ≤ 1000 → AllByRecursion (IsStatement (limits_of version)) ss → AllFree 10 (statement_lines version n ss)
  statements_free n [] low v = tt
  statements_free n (s ∷ ss) low v = (statement_line_free version 10 (limits_of version) n s (omega arith) (λ e. omega arith) refl (omega arith) v.0, statements_free (suc n) ss (omega arith) v.1)

  loops_free : (n : ℕ) (hs : List ℕ) → n + length hs ≤ 100 → AreLoops n hs → AllFree 10 (loop_lines n hs)
  loops_free n [] low v = tt
  loops_free n (h ∷ hs) low v = (loop_line_free version 10 n h (omega arith) (λ e. omega arith) (omega arith) (omega (arith, v.1)), loops_free (suc n) hs (omega arith) v.2)

  inner_free : (b : BlockParts) → IsBlockOf (limits_of version) b → AllFree 10 (loop_lines 1 b.loops ++ statement_lines version 1 b.statements)
  inner_free b v =
      let f = v.few in
      let g = v.few_loops in
      all_free_append 10 (loop_lines 1 b.loops) (statement_lines version 1 b.statements) (loops_free 1 b.loops (omega arith) v.loops) (statements_free 1 b.statements (omega arith) v.each)

  blocks_free : (bs : List BlockParts) → AllByRecursion (IsBlockOf (limits_of version)) bs → AllFree 10 (blocks_lines version bs)
  blocks_free [] v = tt
  blocks_free (b ∷ bs) v = (block_line_free version 10 b.name (omega arith) (λ e. omega arith) refl v.0.name, all_free_append 10 (loop_lines 1 b.loops ++ statement_lines version 1 b.statements) (blocks_lines version bs) (inner_free b v.0) (blocks_free bs v.1))

  -- the lines of a program's text are its lines
  pub pieces-program_text : (p : List BlockParts) → IsProgram (limits_of version) p → pieces 10 (program_text version p) ≡ (program_lines version p, [])
  unfolding program_text
  pieces-program_text p v = pieces-ended (program_lines version p) (header_free version, blocks_free p v.each)

is_truncated : (bytes rest : List ℕ) (ls : List (List ℕ)) → pieces 10 bytes ≡ (ls, rest) → Begins limits_of ls → ((p : ProgramParts) → IsProgram (limits_of p.version) p.blocks → program_lines p.version p.blocks ≡ ls → rest ≡ [] → ⊥) → IsTruncated bytes
is_truncated bytes rest ls h b n = record {
  allowed = subst (Begins limits_of) (sym (ap (λ (p : List (List ℕ) × List ℕ). p.0) h)) b;
  none = λ p v e.
      let f : ◌≡◌ {A = List (List ℕ) × List ℕ} (program_lines p.version p.blocks, []) (ls, rest) = sym (pieces-program_text p.version p.blocks v) ∙ ap (pieces 10) (sym e) ∙ h in
      n p v (ap (λ t. t.0) f) (sym (ap (λ t. t.1) f));
}

module _ (version : Version) where
  pub begins_header : Begins limits_of (header version ∷ [])
  begins_header = record { version = version; program = least ∷ []; more = blocks_lines version (least ∷ []); valid = least_program version; there = refl }

  -- a program with these lines is of this version
  EndsSo : List BlockParts → List (List ℕ) → Version → Type 0
  EndsSo p ls v = IsProgram (limits_of v) p × (blocks_lines v p ≡ ls)

  so_ends : (p : ProgramParts) (ls : List (List ℕ)) → IsProgram (limits_of p.version) p.blocks → program_lines p.version p.blocks ≡ header version ∷ ls → IsProgram (limits_of version) p.blocks × (blocks_lines version p.blocks ≡ ls)
  unfolding EndsSo
  so_ends p ls w e = subst (EndsSo p.blocks ls) (same_version p.version version (heads e)) (w, tails e)

  pub truncated_rest : (bytes rest : List ℕ) (done : List BlockParts) (last : BlockParts) → IsRead bytes (header version ∷ part_lines version done last) rest → pieces 10 rest ≡ ([], rest) → IsPart (limits_of version) done last → (rest ≡ [] → ⊥) → IsTruncated bytes
  truncated_rest bytes rest done last r h v n = is_truncated bytes rest _ (ends bytes rest _ r h) (completes version limits_of done last v) (λ p w e f. n f)

  -- a program that ends with a block without statements is none
  half : (done : List BlockParts) (last : BlockParts) (p : List BlockParts) → IsPart (limits_of version) done last → length last.statements ≡ 0 → IsProgram (limits_of version) p → program_lines version p ≡ header version ∷ part_lines version done last → ⊥
  unfolding least
  half done last p v h w e = block_closed version done last least.name v h (record {
    version = version;
    program = p ++ (least ∷ []);
    more = statement_lines version 1 least.statements;
    valid = record { each = all_append (IsBlockOf (no_limits version)) p least (blocks_lifted version p w.each) (is_least (no_limits version) tt); few = tt; some = omega (arith, length-append p (least ∷ [])) };
    there = ap (λ t. header version ∷ t) (blocks_lines-append version p least ∙ ap (λ t. t ++ block_lines version least) (tails e) ∙ sym (append_assoc (part_lines version done last) (block_line least.name ∷ []) (statement_lines version 1 least.statements)));
  })

  pub truncated_half : (bytes rest : List ℕ) (done : List BlockParts) (last : BlockParts) → IsRead bytes (header version ∷ part_lines version done last) rest → pieces 10 rest ≡ ([], rest) → IsPart (limits_of version) done last → length last.statements ≡ 0 → IsTruncated bytes
  truncated_half bytes rest done last r h v n = is_truncated bytes rest _ (ends bytes rest _ r h) (completes version limits_of done last v) (λ p w e f. let c = so_ends p (part_lines version done last) w e in half done last p.blocks v n c.0 (ap (λ t. header version ∷ t) c.1))

  pub truncated_header : (bytes rest : List ℕ) → IsRead bytes (header version ∷ []) rest → pieces 10 rest ≡ ([], rest) → IsTruncated bytes
  truncated_header bytes rest r h = is_truncated bytes rest _ (ends bytes rest _ r h) begins_header (λ p w e f. let c = so_ends p [] w e in no_blocks p.blocks c.0 c.1)
    where
      no_blocks : (p : List BlockParts) → IsProgram (limits_of version) p → blocks_lines version p ≡ [] → ⊥
      no_blocks [] w e = let s = w.some in omega arith
      no_blocks (b ∷ bs) w e = cc

  pub whole_program : (bytes rest : List ℕ) (done : List BlockParts) (last : BlockParts) → IsRead bytes (header version ∷ part_lines version done last) rest → pieces 10 rest ≡ ([], rest) → rest ≡ [] → IsPart (limits_of version) done last → 1 ≤ length last.statements → IsProgram (limits_of version) (done ++ (last ∷ [])) × (bytes ≡ program_text version (done ++ (last ∷ [])))
  unfolding program_text
  whole_program bytes rest done last r h n v some =
      let e : pieces 10 bytes ≡ (header version ∷ part_lines version done last, []) = ends bytes rest _ r h ∙ ap (λ t. (header version ∷ part_lines version done last, t)) n in (
        record { each = all_append (IsBlockOf (limits_of version)) done last v.each (record { name = v.name; loops = v.loops; few_loops = v.few_loops; each = v.statements; few = v.few; some = some }); few = omega (arith, v.blocks, length-append done (last ∷ [])); some = omega (arith, length-append done (last ∷ [])) },
        sym (glued-pieces 10 bytes) ∙ ap (λ (p : List (List ℕ) × List ℕ). glued 10 p.0 p.1) e ∙ glued-ended (header version ∷ part_lines version done last) ∙ ap (λ t. ended (header version ∷ t)) (sym (blocks_lines-append version done last)),
      )

  pub first_lines : (limits : Version → Limits) (text : List ℕ) → Begins limits ((header version ∷ []) ++ (text ∷ [])) → (name : List ℕ) × IsBlock name × (text ≡ block_line name)
  first_lines limits text b = let c = begun_so version limits (text ∷ []) b in first version (limits version) text c.1 c.0 c.2.each c.3

  pub not_first : (text : List ℕ) → ((name : List ℕ) → IsBlock name → text ≡ block_line name → ⊥) → Begins no_limits ((header version ∷ []) ++ (text ∷ [])) → ⊥
  not_first text n b = let f = first_lines no_limits text b in n f.0 f.1 f.2

  pub first_part : (name : List ℕ) → IsBlock name → IsPart (limits_of version) [] (block name [] [])
  first_part name n = record { each = tt; name = n; loops = tt; few_loops = omega arith; statements = tt; few = omega arith; one = omega arith; blocks = omega arith }

  pub no_first_line : (text : List ℕ) → line_at version (words text) ≡ None → Begins no_limits ((header version ∷ []) ++ (text ∷ [])) → ⊥
  no_first_line text h = not_first text (λ name n e. line_none version text h (Block name) n e)

  pub statement_first : (text : List ℕ) (n : ℕ) (s : StatementParts) → line_at version (words text) ≡ Some (Statement n s) → Begins no_limits ((header version ∷ []) ++ (text ∷ [])) → ⊥
  statement_first text n s h = not_first text (λ name m e. let l = line_sound version text (Statement n s) h in lines_differ version name n s l.0.0.0 l.0.0.1 (sym e ∙ l.1))

  pub loop_first : (text : List ℕ) (n k : ℕ) → line_at version (words text) ≡ Some (Loop n k) → Begins no_limits ((header version ∷ []) ++ (text ∷ [])) → ⊥
  loop_first text n k h = not_first text (λ name m e. let l = line_sound version text (Loop n k) h in loop_not_block n k name (sym l.1 ∙ e))

-- nothing can go on
pub begins_nothing : Begins limits_of []
begins_nothing = record { version = versions.One; program = least ∷ []; more = program_lines versions.One (least ∷ []); valid = least_program versions.One; there = refl }

-- a line that is no header
pub not_header : (limits : Version → Limits) (text : List ℕ) → ((v : Version) → text ≡ header v → ⊥) → Begins limits ([] ++ (text ∷ [])) → ⊥
not_header limits text n b = n b.version (sym (heads b.there))

pub truncated_nothing : (bytes : List ℕ) → pieces 10 bytes ≡ ([], bytes) → IsTruncated bytes
truncated_nothing bytes h = is_truncated bytes bytes [] h begins_nothing (λ p w e f. let g : header p.version ∷ blocks_lines p.version p.blocks ≡ [] = e in cc)

-- Two programs with one text are one, and a program's text is refused for want of memory alone.
use Rattle.std.specs.Prelude.{◌≡◌, Bool, true, false, ◌==◌, ◌↔◌, IsTrue, ℕ, suc, ◌+◌, ◌≤◌, List, [], ◌∷◌, ◌++◌, length, Result, Ok, Err, MatchResult, refl}
use lib.Pointwise.{pointwise}
use Rattle.std.specs.Cmp.Lexicographic.{same_text}
use Rattle.std.proofs.Common.{sym, ◌∙◌, ap, subst, arith, append_assoc}
use Rattle.std.proofs.lemmas.Bool.{false_from_ne_true, true≢false}
use Rattle.std.proofs.lemmas.Cmp.{nat_list_eq_equiv}
use Rattle.std.specs.List.{AllByRecursion}
use Rattle.u_base.specs.Pieces.{pieces}
use Rattle.u_program.specs.declared.reading.Line.TheVariants.{Block, Loop, Statement}
use Rattle.u_program.specs.Parts.{StatementParts, BlockParts, ProgramParts, block, program}
use Rattle.u_program.specs.Limits.{AreLoops, IsStatement, IsBlockOf, IsProgram, limits_of}
use Rattle.u_program.specs.Text.{loop_lines, statement_lines, inner_lines, blocks_lines, program_lines, program_text}
use Rattle.u_program.specs.FirstBad.{IsFirstBad}
use Rattle.u_program.specs.declared.read_error.ReadError.{ReadError}
use Rattle.u_program.specs.declared.read_error.ReadError.TheVariants as errors
use Rattle.u_program.specs.Answer.{IsTextOf, IsReadError}
use Rattle.u_program.specs.Equality.{text_of, has_same_text}
use Rattle.u_program.proofs.Lists.{heads, tails, empty_is}
use Rattle.u_program.proofs.LineLaws.{line_same}
use Rattle.u_program.proofs.Next.{NoLoop, blocks_no_statement, behind_no_loop}
use Rattle.u_program.proofs.Steps.{same_version, lifted}
use Rattle.u_program.proofs.Whole.{pieces-program_text}
use Rattle.u_program.specs.declared.program.Version.{Version}

module _ (version : Version) where
  same_statements : (n : ℕ) (ss ts : List StatementParts) (ps qs : List BlockParts) → 1 ≤ n → n + length ss ≤ 1000 → n + length ts ≤ 1000 → AllByRecursion (IsStatement (limits_of version)) ss → AllByRecursion (IsStatement (limits_of version)) ts → statement_lines version n ss ++ blocks_lines version ps ≡ statement_lines version n ts ++ blocks_lines version qs → (ss ≡ ts) × (blocks_lines version ps ≡ blocks_lines version qs)
  same_statements n [] [] ps qs low a b v w h = (refl, h)
  same_statements n [] (t ∷ ts) ps qs low a b v w h = absurd (blocks_no_statement version ps n t _ low (omega arith) h)
  same_statements n (s ∷ ss) [] ps qs low a b v w h = absurd (blocks_no_statement version qs n s _ low (omega arith) (sym h))
  same_statements n (s ∷ ss) (t ∷ ts) ps qs low a b v w h =
      let e = line_same version (Statement n s) (Statement n t) ((low, omega arith), lifted version s v.0) ((low, omega arith), lifted version t w.0) (heads h) in
      let f : s ≡ t = cc in
      let i = same_statements (suc n) ss ts ps qs (omega arith) (omega arith) (omega arith) v.1 w.1 (tails h) in
      (ap (λ s. s ∷ ss) f ∙ ap (λ ss. t ∷ ss) i.0, i.1)

  same_loops : (n : ℕ) (gs hs : List ℕ) (X Y : List (List ℕ)) → 1 ≤ n → n + length gs ≤ 100 → n + length hs ≤ 100 → AreLoops n gs → AreLoops n hs → NoLoop X → NoLoop Y → loop_lines n gs ++ X ≡ loop_lines n hs ++ Y → (gs ≡ hs) × (X ≡ Y)
  same_loops n [] [] X Y low a b v w x y e = (refl, e)
  same_loops n [] (h ∷ hs) X Y low a b v w x y e = absurd (x n h _ e)
  same_loops n (g ∷ gs) [] X Y low a b v w x y e = absurd (y n g _ (sym e))
  same_loops n (g ∷ gs) (h ∷ hs) X Y low a b v w x y e =
      let f = line_same version (Loop n g) (Loop n h) ((low, omega arith), v.1) ((low, omega arith), w.1) (heads e) in
      let k : g ≡ h = cc in
      let i = same_loops (suc n) gs hs X Y (omega arith) (omega arith) (omega arith) v.2 w.2 x y (tails e) in
      (ap (λ g. g ∷ gs) k ∙ ap (λ gs. h ∷ gs) i.0, i.1)

  -- loops, and then statements
  same_inner : (p q : BlockParts) (ps qs : List BlockParts) → IsBlockOf (limits_of version) p → IsBlockOf (limits_of version) q → inner_lines version p ++ blocks_lines version ps ≡ inner_lines version q ++ blocks_lines version qs → (p.loops ≡ q.loops) × (p.statements ≡ q.statements) × (blocks_lines version ps ≡ blocks_lines version qs)
  same_inner p q ps qs v w h =
      let a = v.few in
      let b = w.few in
      let c = v.few_loops in
      let d = w.few_loops in
      let X = blocks_lines version ps in
      let Y = blocks_lines version qs in
      let f : loop_lines 1 p.loops ++ (statement_lines version 1 p.statements ++ X) ≡ loop_lines 1 q.loops ++ (statement_lines version 1 q.statements ++ Y) = sym (append_assoc (loop_lines 1 p.loops) (statement_lines version 1 p.statements) X) ∙ h ∙ append_assoc (loop_lines 1 q.loops) (statement_lines version 1 q.statements) Y in
      let i = same_loops 1 p.loops q.loops (statement_lines version 1 p.statements ++ X) (statement_lines version 1 q.statements ++ Y) (omega arith) (omega arith) (omega arith) v.loops w.loops (behind_no_loop version p.statements ps) (behind_no_loop version q.statements qs) f in
      let j = same_statements 1 p.statements q.statements ps qs (omega arith) (omega arith) (omega arith) v.each w.each i.1 in
      (i.0, j.0, j.1)

  same_blocks : (ps qs : List BlockParts) → AllByRecursion (IsBlockOf (limits_of version)) ps → AllByRecursion (IsBlockOf (limits_of version)) qs → blocks_lines version ps ≡ blocks_lines version qs → ps ≡ qs
  same_blocks [] [] v w h = refl
  same_blocks [] (q ∷ qs) v w h = absurd (empty_is h)
  same_blocks (p ∷ ps) [] v w h = absurd (empty_is (sym h))
  same_blocks (p ∷ ps) (q ∷ qs) v w h =
      let e = line_same version (Block p.name) (Block q.name) v.0.name w.0.name (heads h) in
      let f : p.name ≡ q.name = cc in
      let i = same_inner p q ps qs v.0 w.0 (tails h) in
      ap (λ name. block name p.loops p.statements ∷ ps) f ∙ ap (λ ls. block q.name ls p.statements ∷ ps) i.0 ∙ ap (λ ss. block q.name q.loops ss ∷ ps) i.1 ∙ ap (λ ps. q ∷ ps) (same_blocks ps qs v.1 w.1 i.2)

  -- two programs of this version with one text
  pub same_written : (p q : List BlockParts) → IsProgram (limits_of version) p → IsProgram (limits_of version) q → program_lines version p ≡ program_lines version q → p ≡ q
  same_written p q v w h = same_blocks p q v.each w.each (tails h)

-- a program within the limits of its version
abbrev pub IsOne : ProgramParts → Type 0
IsOne p = IsProgram (limits_of p.version) p.blocks

OfVersion : List BlockParts → List (List ℕ) → Version → Type 0
OfVersion p ls v = IsProgram (limits_of v) p × (program_lines v p ≡ ls)

pub same_program : (p q : ProgramParts) → IsOne p → IsOne q → program_text p.version p.blocks ≡ program_text q.version q.blocks → p ≡ q
unfolding OfVersion
same_program p q v w h =
    let e = sym (pieces-program_text p.version p.blocks v) ∙ ap (pieces 10) h ∙ pieces-program_text q.version q.blocks w in
    let ls : program_lines p.version p.blocks ≡ program_lines q.version q.blocks = ap (λ (t : List (List ℕ) × List ℕ). t.0) e in
    let one = same_version p.version q.version (heads ls) in
    let c : OfVersion p.blocks (program_lines q.version q.blocks) q.version = subst (OfVersion p.blocks (program_lines q.version q.blocks)) one (v, ls) in
    let same = same_written q.version p.blocks q.blocks c.0 w c.1 in
    ap (λ v. program v p.blocks) one ∙ ap (program q.version) same

-- the first lines of a program's text are allowed
none_bad : (p : ProgramParts) (bytes : List ℕ) (n : ℕ) (V : List (List ℕ) → Type 0) → IsOne p → bytes ≡ program_text p.version p.blocks → IsFirstBad bytes n V → ⊥
none_bad p bytes n V v e b =
    let f : program_lines p.version p.blocks ≡ b.before ++ (b.line ∷ b.others) = sym (ap (λ (t : List (List ℕ) × List ℕ). t.0) (ap (pieces 10) e ∙ pieces-program_text p.version p.blocks v)) ∙ b.there in
    b.refused (record { version = p.version; program = p.blocks; more = b.others; valid = v; there = f ∙ sym (append_assoc b.before (b.line ∷ []) b.others) })

-- what is returned for the text of a program
pub read_back : (bytes : List ℕ) (p : ProgramParts) (result : Result ProgramParts ReadError) → MatchResult result (λ x. IsTextOf bytes x) (λ fault. IsReadError bytes fault) → IsTextOf bytes p → MatchResult result (λ x. x ≡ p) (λ fault. fault ≡ errors.NoMemory)
read_back bytes p (Ok x) h v = same_program x p h.0 v.0 (sym h.1 ∙ v.1)
read_back bytes p (Err (errors.BadLine n)) h v = absurd (none_bad p bytes n _ v.0 v.1 h)
read_back bytes p (Err (errors.TooMany n)) h v = absurd (none_bad p bytes n _ v.0 v.1 h)
read_back bytes p (Err errors.Truncated) h v = absurd (h.none p v.0 v.1)
read_back bytes p (Err errors.NoMemory) h v = refl

-- Where a test tells whether two programs are equal, it tells whether they have one text.
pub same_by_text : (p q : ProgramParts) (r : Bool) → IsOne p → IsOne q → IsTrue r ↔ (p ≡ q) → r ≡ has_same_text p q
same_by_text p q r v w e = by (has_same_text p q) refl
  where
    by : (b : Bool) → has_same_text p q ≡ b → r ≡ has_same_text p q
    by true h = e.1 (same_program p q v w (same_text (text_of p) (text_of q) (sym h))) ∙ sym h
    by false h = false_from_ne_true r (λ t. true≢false (sym (nat_list_eq_equiv.refl (text_of p)) ∙ ap (λ (x : ProgramParts). pointwise ◌==◌ (text_of p) (text_of x)) (e.0 t) ∙ h)) ∙ sym h

-- Two programs within the limits have one text exactly where they are equal.
pub equal_exactly : (p q : ProgramParts) → IsOne p → IsOne q → IsTrue (has_same_text p q) ↔ (p ≡ q)
equal_exactly p q v w = (
  λ t. same_program p q v w (same_text (text_of p) (text_of q) (sym t)),
  λ e. subst (λ (x : ProgramParts). has_same_text p x ≡ true) e (nat_list_eq_equiv.refl (text_of p)),
)

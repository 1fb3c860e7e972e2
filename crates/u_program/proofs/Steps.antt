-- Parts of programs, and the next line.
use Rattle.std.specs.Prelude.{◌≡◌, ℕ, suc, ◌+◌, ◌≤◌, ◌<◌, ◌⊎◌, List, [], ◌∷◌, ◌++◌, length, Option, Some, None, refl}
use Rattle.std.proofs.Common.{sym, ◌∙◌, ap, subst, arith, inl, inr, append_assoc, length-append}
use Rattle.std.proofs.lemmas.List.{append-nil}
use Rattle.std.specs.List.{AllByRecursion}
use Rattle.u_name.specs.Block.{IsBlock}
use Rattle.u_base.specs.Pieces.{words}
use Rattle.u_program.specs.declared.program.Kind.TheVariants.{Begin}
use Rattle.u_program.specs.declared.reading.Line.TheVariants.{Block, Loop, Statement}
use Rattle.u_program.specs.Parts.{StatementParts, BlockParts, statement, block}
use Rattle.u_program.specs.Limits.{Limits, AtMost, AreLoops, IsStatement, IsBlockOf, IsProgram, limits_of, no_limits}
use Rattle.u_program.specs.Text.{block_line, loop_line, loop_lines, statement_line, statement_lines, block_lines, blocks_lines, header}
use Rattle.u_program.specs.FirstBad.{Begins}
use Rattle.u_program.specs.Reading.{line_at}
use Rattle.u_program.specs.Begun.{IsLine, part_lines, IsPart}
use Rattle.u_program.proofs.Lists.{heads, tails}
use Rattle.u_program.proofs.LineLaws.{line_none, line_same}
use Rattle.u_program.proofs.Next.{IsShort, NextLine, new_block, new_loop, new_statement, next, lines_differ, loop_not_block, loop_not_statement}
use Rattle.u_program.specs.declared.program.Version.{Version}
use Rattle.u_program.specs.declared.program.Version.TheVariants as versions

pub loop_lines-append : (n : ℕ) (hs : List ℕ) (h : ℕ) → loop_lines n (hs ++ (h ∷ [])) ≡ loop_lines n hs ++ (loop_line (n + length hs) h ∷ [])
loop_lines-append n [] h = let e : n ≡ n + 0 = omega arith in ap (λ m. loop_line m h ∷ []) e
loop_lines-append n (k ∷ ks) h = let e : suc n + length ks ≡ n + suc (length ks) = omega arith in ap (λ u. loop_line n k ∷ u) (loop_lines-append (suc n) ks h ∙ ap (λ m. loop_lines (suc n) ks ++ (loop_line m h ∷ [])) e)

are_loops_append : (n : ℕ) (hs : List ℕ) (h : ℕ) → AreLoops n hs → h < n + length hs → h ≤ 99 → AreLoops n (hs ++ (h ∷ []))
are_loops_append n [] h v low high = (omega arith, high, tt)
are_loops_append n (k ∷ ks) h v low high = (v.0, v.1, are_loops_append (suc n) ks h v.2 (omega arith) high)

pub all_append : {A : Type 0} (P : A → Type 0) (xs : List A) (x : A) → AllByRecursion P xs → P x → AllByRecursion P (xs ++ (x ∷ []))
all_append P [] x v w = (w, tt)
all_append P (y ∷ ys) x v w = (v.0, all_append P ys x v.1 w)

pub none_few : (m : Option ℕ) → AtMost m 0
none_few None = tt
none_few (Some m) = omega arith

-- the least statement
pub least_statement : StatementParts
least_statement = statement 0 Begin [] []

pub first_statement : (limits : Limits) → IsStatement limits least_statement
unfolding least_statement
first_statement limits = record { region = omega arith; kind = tt; has_kind = tt; to = tt; ports = tt; listed = tt; few = none_few limits.destinations; otherwise = tt; ports_otherwise = tt; listed_otherwise = refl; few_otherwise = none_few limits.destinations }

-- the first line says the version
pub same_version : (v w : Version) → header v ≡ header w → v ≡ w
same_version versions.One versions.One h = refl
same_version versions.Two versions.Two h = refl
same_version versions.One versions.Two h = absurd (ones_differ h)
  where
    ones_differ : header versions.One ≡ header versions.Two → ⊥
    ones_differ e = let f : ◌≡◌ {A = ℕ} 49 50 = cc in omega (arith, f)
same_version versions.Two versions.One h = absurd (ones_differ h)
  where
    ones_differ : header versions.Two ≡ header versions.One → ⊥
    ones_differ e = let f : ◌≡◌ {A = ℕ} 50 49 = cc in omega (arith, f)

module _ (version : Version) where
  -- the program that begins so is of this version
  abbrev pub BeginsSo : (Version → Limits) → List (List ℕ) → Version → Type 0
  BeginsSo limits ls v = (p : List BlockParts) × (more : List (List ℕ)) × IsProgram (limits v) p × (blocks_lines v p ≡ ls ++ more)

  pub begun_so : (limits : Version → Limits) (ls : List (List ℕ)) → Begins limits (header version ∷ ls) → BeginsSo limits ls version
  begun_so limits ls b = subst (BeginsSo limits ls) (same_version b.version version (heads b.there)) (b.program, b.more, b.valid, tails b.there)

  pub blocks_lines-append : (done : List BlockParts) (b : BlockParts) → blocks_lines version (done ++ (b ∷ [])) ≡ part_lines version done b
  blocks_lines-append [] b = append-nil (block_lines version b)
  blocks_lines-append (d ∷ ds) b = ap (λ t. block_lines version d ++ t) (blocks_lines-append ds b) ∙ sym (append_assoc (block_lines version d) (blocks_lines version ds) (block_lines version b))

  pub statement_lines-append : (n : ℕ) (ss : List StatementParts) (s : StatementParts) → statement_lines version n (ss ++ (s ∷ [])) ≡ statement_lines version n ss ++ (statement_line version (n + length ss) s ∷ [])
  statement_lines-append n [] s = let e : n ≡ n + 0 = omega arith in ap (λ m. statement_line version m s ∷ []) e
  statement_lines-append n (t ∷ ts) s = let e : suc n + length ts ≡ n + suc (length ts) = omega arith in ap (λ u. statement_line version n t ∷ u) (statement_lines-append (suc n) ts s ∙ ap (λ m. statement_lines version (suc n) ts ++ (statement_line version m s ∷ [])) e)

  -- a part can go on to a program
  pub completes : (limits : Version → Limits) → (done : List BlockParts) (last : BlockParts) → IsPart (limits version) done last → Begins limits (header version ∷ part_lines version done last)
  completes limits done last v = at last.statements refl
    where
      whole : (b : BlockParts) (more : List (List ℕ)) → IsBlockOf (limits version) b → block_lines version b ≡ block_lines version last ++ more → Begins limits (header version ∷ part_lines version done last)
      whole b more w e = record {
        version = version;
        program = done ++ (b ∷ []);
        more = more;
        valid = record { each = all_append (IsBlockOf (limits version)) done b v.each w; few = subst (AtMost (limits version).blocks) (sym (length-append done (b ∷ []))) v.blocks; some = omega (arith, length-append done (b ∷ [])) };
        there = ap (λ t. header version ∷ t) (blocks_lines-append done b ∙ ap (λ t. blocks_lines version done ++ t) e ∙ sym (append_assoc (blocks_lines version done) (block_lines version last) more));
      }

      at : (ss : List StatementParts) → last.statements ≡ ss → Begins limits (header version ∷ part_lines version done last)
      at [] e =
          let ls = loop_lines 1 last.loops in
          let x = statement_line version 1 least_statement in
          whole (block last.name last.loops (least_statement ∷ [])) (x ∷ []) (record { name = v.name; loops = v.loops; few_loops = v.few_loops; each = (first_statement (limits version), tt); few = v.one; some = omega arith })
          (ap (λ t. block_line last.name ∷ t) (sym (append_assoc ls [] (x ∷ [])) ∙ ap (λ ss. (ls ++ statement_lines version 1 ss) ++ (x ∷ [])) (sym e)))
      at (s ∷ ss) e = whole last [] (record { name = v.name; loops = v.loops; few_loops = v.few_loops; each = v.statements; few = v.few; some = let f = ap length e in omega arith }) (sym (append-nil (block_lines version last)))

  short : (done : List BlockParts) → AllByRecursion (IsBlockOf (limits_of version)) done → AllByRecursion IsShort done
  short [] v = tt
  short (d ∷ ds) v = (v.0.few, short ds v.1)

  -- what the line can be
  pub next_of : (limits : Version → Limits) (done : List BlockParts) (last : BlockParts) (line : List ℕ) → IsPart (limits_of version) done last → Begins limits ((header version ∷ part_lines version done last) ++ (line ∷ [])) → NextLine version (limits version) 0 done last line
  next_of limits done last line v b =
      let c = begun_so limits (part_lines version done last ++ (line ∷ [])) b in
      next version (limits version) 0 done last line c.1 c.0 (short done v.each) v.few c.2.each (subst (AtMost (limits version).blocks) (let e : length c.0 ≡ 0 + length c.0 = omega arith in e) c.2.few)
      (c.3 ∙ append_assoc (part_lines version done last) (line ∷ []) c.1)

  pub lifted : (s : StatementParts) → IsStatement (limits_of version) s → IsStatement (no_limits version) s
  lifted s v = record { region = v.region; kind = v.kind; has_kind = v.has_kind; to = v.to; ports = v.ports; listed = v.listed; few = tt; otherwise = v.otherwise; ports_otherwise = v.ports_otherwise; listed_otherwise = v.listed_otherwise; few_otherwise = tt }

  each_lifted : (ss : List StatementParts) → AllByRecursion (IsStatement (limits_of version)) ss → AllByRecursion (IsStatement (no_limits version)) ss
  each_lifted [] v = tt
  each_lifted (s ∷ ss) v = (lifted s v.0, each_lifted ss v.1)

  pub blocks_lifted : (bs : List BlockParts) → AllByRecursion (IsBlockOf (limits_of version)) bs → AllByRecursion (IsBlockOf (no_limits version)) bs
  blocks_lifted [] v = tt
  blocks_lifted (b ∷ bs) v = (record { name = v.0.name; loops = v.0.loops; few_loops = tt; each = each_lifted b.statements v.0.each; few = tt; some = v.0.some }, blocks_lifted bs v.1)

  -- no line at all
  pub no_line : (done : List BlockParts) (last : BlockParts) (text : List ℕ) → IsPart (limits_of version) done last → line_at version (words text) ≡ None → Begins no_limits ((header version ∷ part_lines version done last) ++ (text ∷ [])) → ⊥
  no_line done last text v h b =
      elim (next_of no_limits done last text v b) [
        | new_block name w e f g ↦ line_none version text h (Block name) w e
        | new_loop k u w n e f ↦ line_none version text h (Loop (suc (length last.loops)) k) ((omega arith, (let n = v.few_loops in omega arith)), w) e
        | new_statement s w e f ↦ line_none version text h (Statement (suc (length last.statements)) s) ((omega arith, (let n = v.few in omega arith)), w) e
      ]

  block_not_statement : (name : List ℕ) (last : BlockParts) (s : StatementParts) → length last.statements ≤ 999 → block_line name ≡ statement_line version (suc (length last.statements)) s → ⊥
  block_not_statement name last s h e = lines_differ version name (suc (length last.statements)) s (omega arith) (omega arith) e

  pub block_closed : (done : List BlockParts) (last : BlockParts) (name : List ℕ) → IsPart (limits_of version) done last → length last.statements ≡ 0 → Begins no_limits ((header version ∷ part_lines version done last) ++ (block_line name ∷ [])) → ⊥
  block_closed done last name v h b =
      elim (next_of no_limits done last (block_line name) v b) [
        | new_block other w e f g ↦ omega arith
        | new_loop k u w n e f ↦ loop_not_block (suc (length last.loops)) k name (sym e)
        | new_statement s w e f ↦ block_not_statement name last s v.few e
      ]

  part_lines-block : (done : List BlockParts) (last : BlockParts) (name : List ℕ) → part_lines version (done ++ (last ∷ [])) (block name [] []) ≡ part_lines version done last ++ (block_line name ∷ [])
  part_lines-block done last name = ap (λ t. t ++ (block_line name ∷ [])) (blocks_lines-append done last)

  closed : (limits : Limits) (done : List BlockParts) (last : BlockParts) (name : List ℕ) → IsBlock name → AllByRecursion (IsBlockOf limits) done → IsBlockOf limits last → AtMost limits.statements 1 → AtMost limits.blocks (length done + 2) → IsPart limits (done ++ (last ∷ [])) (block name [] [])
  closed limits done last name n v w o f = record { each = all_append (IsBlockOf limits) done last v w; name = n; loops = tt; few_loops = none_few limits.loops; statements = tt; few = none_few limits.statements; one = o; blocks = subst (AtMost limits.blocks) (let e : length done + 2 ≡ length (done ++ (last ∷ [])) + 1 = omega (arith, length-append done (last ∷ [])) in e) f }

  pub block_over : (done : List BlockParts) (last : BlockParts) (name : List ℕ) → IsPart (limits_of version) done last → IsBlock name → 1 ≤ length last.statements → length done ≡ 63 → Begins no_limits ((header version ∷ part_lines version done last) ++ (block_line name ∷ [])) × (Begins limits_of ((header version ∷ part_lines version done last) ++ (block_line name ∷ [])) → ⊥)
  block_over done last name v n some h = (
    subst (λ ls. Begins no_limits (header version ∷ ls)) (part_lines-block done last name) (completes no_limits (done ++ (last ∷ [])) (block name [] []) (closed (no_limits version) done last name n (blocks_lifted done v.each) (record { name = v.name; loops = v.loops; few_loops = tt; each = each_lifted last.statements v.statements; few = tt; some = some }) tt tt)),
    λ b. elim (next_of limits_of done last (block_line name) v b) [
      | new_block other w e f g ↦ omega arith
      | new_loop k u w n e f ↦ loop_not_block (suc (length last.loops)) k name (sym e)
      | new_statement s w e f ↦ block_not_statement name last s v.few e
    ],
  )

  pub block_taken : (done : List BlockParts) (last : BlockParts) (name : List ℕ) → IsPart (limits_of version) done last → IsBlock name → 1 ≤ length last.statements → length done < 63 → IsPart (limits_of version) (done ++ (last ∷ [])) (block name [] []) × (part_lines version (done ++ (last ∷ [])) (block name [] []) ≡ part_lines version done last ++ (block_line name ∷ []))
  block_taken done last name v n some h = (closed (limits_of version) done last name n v.each (record { name = v.name; loops = v.loops; few_loops = v.few_loops; each = v.statements; few = v.few; some = some }) (omega arith) (omega arith), part_lines-block done last name)

  statements_same : (n m : ℕ) (s t : StatementParts) → IsLine version (Statement n s) → IsLine version (Statement m t) → statement_line version n s ≡ statement_line version m t → (n ≡ m) × (s ≡ t)
  statements_same n m s t v w e = let f = line_same version (Statement n s) (Statement m t) v w e in (cc, cc)

  pub number_wrong : (done : List BlockParts) (last : BlockParts) (n : ℕ) (s : StatementParts) → IsPart (limits_of version) done last → IsLine version (Statement n s) → (n ≡ length last.statements + 1 → ⊥) → Begins no_limits ((header version ∷ part_lines version done last) ++ (statement_line version n s ∷ [])) → ⊥
  number_wrong done last n s v l h b =
      elim (next_of no_limits done last (statement_line version n s) v b) [
        | new_block name w e f g ↦ lines_differ version name n s l.0.0 l.0.1 (sym e)
        | new_loop k u w z e f ↦ loop_not_statement version (suc (length last.loops)) k n s l.0.0 l.0.1 (sym e)
        | new_statement t w e f ↦
            let c = v.few in
            let g = statements_same n (suc (length last.statements)) s t l ((omega arith, omega arith), w) e in
            h (omega (arith, g.0))
      ]

  part_lines-statement : (done : List BlockParts) (last : BlockParts) (n : ℕ) (s : StatementParts) → n ≡ length last.statements + 1 → part_lines version done (block last.name last.loops (last.statements ++ (s ∷ []))) ≡ part_lines version done last ++ (statement_line version n s ∷ [])
  part_lines-statement done last n s h =
      let e : 1 + length last.statements ≡ n = omega arith in
      let ls = loop_lines 1 last.loops in
      let x = statement_line version n s ∷ [] in
      ap (λ t. blocks_lines version done ++ (block_line last.name ∷ (ls ++ t))) (statement_lines-append 1 last.statements s ∙ ap (λ m. statement_lines version 1 last.statements ++ (statement_line version m s ∷ [])) e)
      ∙ ap (λ t. blocks_lines version done ++ (block_line last.name ∷ t)) (sym (append_assoc ls (statement_lines version 1 last.statements) x))
      ∙ sym (append_assoc (blocks_lines version done) (block_lines version last) x)

  pub statement_over : (done : List BlockParts) (last : BlockParts) (n : ℕ) (s : StatementParts) → IsPart (limits_of version) done last → IsLine version (Statement n s) → n ≡ length last.statements + 1 → (999 < n) ⊎ ((16 < length s.to) ⊎ (16 < length s.otherwise)) → Begins no_limits ((header version ∷ part_lines version done last) ++ (statement_line version n s ∷ [])) × (Begins limits_of ((header version ∷ part_lines version done last) ++ (statement_line version n s ∷ [])) → ⊥)
  statement_over done last n s v l h over = (
    subst (λ ls. Begins no_limits (header version ∷ ls)) (part_lines-statement done last n s h) (completes no_limits done (block last.name last.loops (last.statements ++ (s ∷ []))) (record { each = blocks_lifted done v.each; name = v.name; loops = v.loops; few_loops = tt; statements = all_append (IsStatement (no_limits version)) last.statements s (each_lifted last.statements v.statements) l.1; few = tt; one = tt; blocks = tt })),
    λ b. elim (next_of limits_of done last (statement_line version n s) v b) [
      | new_block name w e f g ↦ lines_differ version name n s l.0.0 l.0.1 (sym e)
      | new_loop k u w z e f ↦ loop_not_statement version (suc (length last.loops)) k n s l.0.0 l.0.1 (sym e)
      | new_statement t w e f ↦
          let c = v.few in
          let g = statements_same n (suc (length last.statements)) s t l ((omega arith, omega arith), lifted t w) e in
          elim over [
            | inl o ↦ omega arith
            | inr (inl o) ↦ let k : length t.to ≤ 16 = w.few in let i = ap (λ (s : StatementParts). length s.to) g.1 in omega arith
            | inr (inr o) ↦ let k : length t.otherwise ≤ 16 = w.few_otherwise in let i = ap (λ (s : StatementParts). length s.otherwise) g.1 in omega arith
          ]
    ],
  )

  pub statement_taken : (done : List BlockParts) (last : BlockParts) (n : ℕ) (s : StatementParts) → IsPart (limits_of version) done last → IsLine version (Statement n s) → n ≡ length last.statements + 1 → n ≤ 999 → length s.to ≤ 16 → length s.otherwise ≤ 16 → IsPart (limits_of version) done (block last.name last.loops (last.statements ++ (s ∷ []))) × (part_lines version done (block last.name last.loops (last.statements ++ (s ∷ []))) ≡ part_lines version done last ++ (statement_line version n s ∷ []))
  statement_taken done last n s v l h low few few_otherwise = (
    record {
      each = v.each;
      name = v.name;
      loops = v.loops;
      few_loops = v.few_loops;
      statements = all_append (IsStatement (limits_of version)) last.statements s v.statements (record { region = l.1.region; kind = l.1.kind; has_kind = l.1.has_kind; to = l.1.to; ports = l.1.ports; listed = l.1.listed; few = few; otherwise = l.1.otherwise; ports_otherwise = l.1.ports_otherwise; listed_otherwise = l.1.listed_otherwise; few_otherwise = few_otherwise });
      few = omega (arith, length-append last.statements (s ∷ []));
      one = v.one;
      blocks = v.blocks;
    },
    part_lines-statement done last n s h,
  )

  -- loops

  loops_same : (n m h k : ℕ) → IsLine version (Loop n h) → IsLine version (Loop m k) → loop_line n h ≡ loop_line m k → (n ≡ m) × (h ≡ k)
  loops_same n m h k v w e = let f = line_same version (Loop n h) (Loop m k) v w e in (cc, cc)

  inner_lines-loop : (hs : List ℕ) (ss : List StatementParts) (n h : ℕ) → length ss ≡ 0 → n ≡ length hs + 1 → loop_lines 1 (hs ++ (h ∷ [])) ++ statement_lines version 1 ss ≡ (loop_lines 1 hs ++ statement_lines version 1 ss) ++ (loop_line n h ∷ [])
  inner_lines-loop hs [] n h z e =
      let f : 1 + length hs ≡ n = omega arith in
      append-nil (loop_lines 1 (hs ++ (h ∷ [])))
      ∙ loop_lines-append 1 hs h
      ∙ ap (λ m. loop_lines 1 hs ++ (loop_line m h ∷ [])) f
      ∙ ap (λ t. t ++ (loop_line n h ∷ [])) (sym (append-nil (loop_lines 1 hs)))
  inner_lines-loop hs (s ∷ ss) n h z e = absurd (omega arith)

  part_lines-loop : (done : List BlockParts) (last : BlockParts) (n h : ℕ) → length last.statements ≡ 0 → n ≡ length last.loops + 1 → part_lines version done (block last.name (last.loops ++ (h ∷ [])) last.statements) ≡ part_lines version done last ++ (loop_line n h ∷ [])
  part_lines-loop done last n h z e =
      ap (λ t. blocks_lines version done ++ (block_line last.name ∷ t)) (inner_lines-loop last.loops last.statements n h z e)
      ∙ sym (append_assoc (blocks_lines version done) (block_lines version last) (loop_line n h ∷ []))

  -- a loop's line that goes on stands before the statements, has the next number, and names region 0 or an earlier loop
  pub loop_wrong : (done : List BlockParts) (last : BlockParts) (n h : ℕ) → IsPart (limits_of version) done last → IsLine version (Loop n h) → (length last.statements ≡ 0 → n ≡ length last.loops + 1 → h < n → ⊥) → Begins no_limits ((header version ∷ part_lines version done last) ++ (loop_line n h ∷ [])) → ⊥
  loop_wrong done last n h v l wrong b =
      elim (next_of no_limits done last (loop_line n h) v b) [
        | new_block name w e f g ↦ loop_not_block n h name e
        | new_loop k u w z e f ↦
            let c = v.few_loops in
            let g = loops_same n (suc (length last.loops)) h k l ((omega arith, omega arith), w) e in
            wrong z (omega (arith, g.0)) (omega (arith, g.0, g.1))
        | new_statement t w e f ↦ let c = v.few in loop_not_statement version n h (suc (length last.statements)) t (omega arith) (omega arith) e
      ]

  pub loop_over : (done : List BlockParts) (last : BlockParts) (n h : ℕ) → IsPart (limits_of version) done last → IsLine version (Loop n h) → length last.statements ≡ 0 → n ≡ length last.loops + 1 → h < n → 99 < n → Begins no_limits ((header version ∷ part_lines version done last) ++ (loop_line n h ∷ [])) × (Begins limits_of ((header version ∷ part_lines version done last) ++ (loop_line n h ∷ [])) → ⊥)
  loop_over done last n h v l z e low over = (
    subst (λ ls. Begins no_limits (header version ∷ ls)) (part_lines-loop done last n h z e) (completes no_limits done (block last.name (last.loops ++ (h ∷ [])) last.statements) (record { each = blocks_lifted done v.each; name = v.name; loops = are_loops_append 1 last.loops h v.loops (omega arith) l.1; few_loops = tt; statements = each_lifted last.statements v.statements; few = tt; one = tt; blocks = tt })),
    λ b. elim (next_of limits_of done last (loop_line n h) v b) [
      | new_block name w f g i ↦ loop_not_block n h name f
      | new_loop k u w y f g ↦ omega arith
      | new_statement t w f g ↦ let c = v.few in loop_not_statement version n h (suc (length last.statements)) t (omega arith) (omega arith) f
    ],
  )

  pub loop_taken : (done : List BlockParts) (last : BlockParts) (n h : ℕ) → IsPart (limits_of version) done last → IsLine version (Loop n h) → length last.statements ≡ 0 → n ≡ length last.loops + 1 → h < n → n ≤ 99 → IsPart (limits_of version) done (block last.name (last.loops ++ (h ∷ [])) last.statements) × (part_lines version done (block last.name (last.loops ++ (h ∷ [])) last.statements) ≡ part_lines version done last ++ (loop_line n h ∷ []))
  loop_taken done last n h v l z e low few =
      (record { each = v.each; name = v.name; loops = are_loops_append 1 last.loops h v.loops (omega arith) l.1; few_loops = omega (arith, length-append last.loops (h ∷ [])); statements = v.statements; few = v.few; one = v.one; blocks = v.blocks }, part_lines-loop done last n h z e)

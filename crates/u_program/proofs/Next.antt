-- What a line can be that goes on behind a program of which a part was read.
use Rattle.std.specs.Prelude.{◌≡◌, ℕ, suc, ◌+◌, ◌≤◌, ◌<◌, List, [], ◌∷◌, ◌++◌, length, Option, Some, None, refl}
use Rattle.std.proofs.Common.{sym, ◌∙◌, ap, arith, append_assoc}
use Rattle.std.specs.List.{AllByRecursion}
use Rattle.std.specs.Fmt.{decimal}
use Rattle.u_name.specs.Block.{IsBlock}
use Rattle.u_base.proofs.NumberLaws.{number_first}
use Rattle.u_base.specs.Spaced.{spaced}
use Rattle.u_program.specs.Parts.{StatementParts, BlockParts}
use Rattle.u_program.specs.Limits.{Limits, AtMost, AreLoops, IsStatement, IsBlockOf}
use Rattle.u_program.specs.Text.{block_line, loop_line, loop_lines, statement_line, statement_lines, inner_lines, block_lines, blocks_lines, statement_words}
use Rattle.u_program.specs.Begun.{part_lines}
use Rattle.u_program.proofs.Lists.{heads, tails, empty_is}
use Rattle.u_program.specs.declared.program.Version.{Version}

pub down : (m : Option ℕ) (a b : ℕ) → b ≤ a → AtMost m a → AtMost m b
down None a b h v = tt
down (Some m) a b h v = omega arith

abbrev pub IsShort : BlockParts → Type 0
IsShort b = length b.statements ≤ 999

pub loop_not_block : (k h : ℕ) (name : List ℕ) → loop_line k h ≡ block_line name → ⊥
unfolding loop_line block_line
loop_not_block k h name e = let f : 108 ≡ 98 = heads e in omega (arith, f)

abbrev pub NoLoop : List (List ℕ) → Type 0
NoLoop X = (k h : ℕ) (t : List (List ℕ)) → X ≡ loop_line k h ∷ t → ⊥

module _ (version : Version) where
  -- lines of different sorts differ

  pub lines_differ : (name : List ℕ) (n : ℕ) (s : StatementParts) → 1 ≤ n → n ≤ 1000 → block_line name ≡ statement_line version n s → ⊥
  unfolding block_line statement_line
  lines_differ name n s low high h =
      number_first 1000 (omega arith) (omega arith) n (low, high) 98 (spaced (statement_words version s)) (108 ∷ 111 ∷ 99 ∷ 107 ∷ spaced (name ∷ [])) (omega arith) (sym h)

  pub loop_not_statement : (k h n : ℕ) (s : StatementParts) → 1 ≤ n → n ≤ 1000 → loop_line k h ≡ statement_line version n s → ⊥
  unfolding loop_line statement_line
  loop_not_statement k h n s low high e =
      number_first 1000 (omega arith) (omega arith) n (low, high) 108 (spaced (statement_words version s)) (111 ∷ 111 ∷ 112 ∷ spaced (decimal k ∷ decimal h ∷ [])) (omega arith) (sym e)

  -- what no statement's line, and no loop's line, begins

  abbrev pub NoStatement : List (List ℕ) → Type 0
  NoStatement X = (n : ℕ) (s : StatementParts) (t : List (List ℕ)) → 1 ≤ n → n ≤ 1000 → X ≡ statement_line version n s ∷ t → ⊥

  pub blocks_no_statement : (ps : List BlockParts) → NoStatement (blocks_lines version ps)
  blocks_no_statement [] n s t low high h = empty_is h
  blocks_no_statement (p ∷ ps) n s t low high h = lines_differ p.name n s low high (heads h)

  blocks_no_loop : (ps : List BlockParts) → NoLoop (blocks_lines version ps)
  blocks_no_loop [] k h t e = empty_is e
  blocks_no_loop (p ∷ ps) k h t e = loop_not_block k h p.name (sym (heads e))

  pub behind_no_loop : (ss : List StatementParts) (ps : List BlockParts) → NoLoop (statement_lines version 1 ss ++ blocks_lines version ps)
  behind_no_loop [] ps k h t e = blocks_no_loop ps k h t e
  behind_no_loop (s ∷ ss) ps k h t e = loop_not_statement k h 1 s (omega arith) (omega arith) (sym (heads e))

  -- statements of a block, against those that were read

  data Cuts (limits : Limits) (n : ℕ) (qs : List StatementParts) (X : List (List ℕ)) (bs : List StatementParts) (Y : List (List ℕ)) : Type 0 where
    ended : length qs ≡ length bs → X ≡ Y → Cuts limits n qs X bs Y
    longer : (s : StatementParts) → IsStatement limits s → (t : List (List ℕ)) → Y ≡ statement_line version (n + length bs) s ∷ t → suc (length bs) ≤ length qs → Cuts limits n qs X bs Y

  one_more : (limits : Limits) (n : ℕ) (q b : StatementParts) (qs bs : List StatementParts) (X Y : List (List ℕ)) → Cuts limits (suc n) qs X bs Y → Cuts limits n (q ∷ qs) X (b ∷ bs) Y
  one_more limits n q b qs bs X Y (ended e f) = ended (ap (λ m. suc m) e) f
  one_more limits n q b qs bs X Y (longer s v t e f) =
      let g : suc n + length bs ≡ n + suc (length bs) = omega arith in
      longer s v t (e ∙ ap (λ m. statement_line version m s ∷ t) g) (omega arith)

  cuts : (limits : Limits) (n : ℕ) (qs : List StatementParts) (X : List (List ℕ)) (bs : List StatementParts) (Y : List (List ℕ)) → AllByRecursion (IsStatement limits) qs → NoStatement X → 1 ≤ n → n + length bs ≤ 1000 → statement_lines version n qs ++ X ≡ statement_lines version n bs ++ Y → Cuts limits n qs X bs Y
  cuts limits n [] X [] Y v none low high h = ended refl h
  cuts limits n (q ∷ qs) X [] Y v none low high h =
      let g : n ≡ n + 0 = omega arith in
      longer q v.0 (statement_lines version (suc n) qs ++ X) (sym h ∙ ap (λ m. statement_line version m q ∷ (statement_lines version (suc n) qs ++ X)) g) (omega arith)
  cuts limits n [] X (b ∷ bs) Y v none low high h = absurd (none n b (statement_lines version (suc n) bs ++ Y) low (omega arith) h)
  cuts limits n (q ∷ qs) X (b ∷ bs) Y v none low high h =
      one_more limits n q b qs bs X Y (cuts limits (suc n) qs X bs Y v.1 none (omega arith) (omega arith) (tails h))

  -- loops of a block, against those that were read

  data LoopCuts (n : ℕ) (gs : List ℕ) (X : List (List ℕ)) (hs : List ℕ) (Y : List (List ℕ)) : Type 0 where
    same_loops : X ≡ Y → LoopCuts n gs X hs Y
    more_loops : (h : ℕ) → h < n + length hs → h ≤ 99 → (t : List (List ℕ)) → Y ≡ loop_line (n + length hs) h ∷ t → suc (length hs) ≤ length gs → LoopCuts n gs X hs Y

  one_more_loop : (n g h : ℕ) (gs hs : List ℕ) (X Y : List (List ℕ)) → LoopCuts (suc n) gs X hs Y → LoopCuts n (g ∷ gs) X (h ∷ hs) Y
  one_more_loop n g h gs hs X Y (same_loops e) = same_loops e
  one_more_loop n g h gs hs X Y (more_loops k v w t e f) =
      let i : suc n + length hs ≡ n + suc (length hs) = omega arith in
      more_loops k (omega arith) w t (e ∙ ap (λ m. loop_line m k ∷ t) i) (omega arith)

  loop_cuts : (n : ℕ) (gs : List ℕ) (X : List (List ℕ)) (hs : List ℕ) (Y : List (List ℕ)) → AreLoops n gs → NoLoop X → loop_lines n gs ++ X ≡ loop_lines n hs ++ Y → LoopCuts n gs X hs Y
  loop_cuts n [] X [] Y v none e = same_loops e
  loop_cuts n (g ∷ gs) X [] Y v none e =
      let i : n ≡ n + 0 = omega arith in
      more_loops g (omega (arith, v.0)) v.1 (loop_lines (suc n) gs ++ X) (sym e ∙ ap (λ m. loop_line m g ∷ (loop_lines (suc n) gs ++ X)) i) (omega arith)
  loop_cuts n [] X (h ∷ hs) Y v none e = absurd (none n h (loop_lines (suc n) hs ++ Y) e)
  loop_cuts n (g ∷ gs) X (h ∷ hs) Y v none e = one_more_loop n g h gs hs X Y (loop_cuts (suc n) gs X hs Y v.2 none (tails e))

  -- a block of a program, against what was read of it

  data BlockCuts (limits : Limits) (X : List (List ℕ)) (b : BlockParts) (Y : List (List ℕ)) : Type 0 where
    whole : 1 ≤ length b.statements → X ≡ Y → BlockCuts limits X b Y
    loop_ahead : (h : ℕ) → h < suc (length b.loops) → h ≤ 99 → length b.statements ≡ 0 → (t : List (List ℕ)) → Y ≡ loop_line (suc (length b.loops)) h ∷ t → AtMost limits.loops (suc (length b.loops)) → BlockCuts limits X b Y
    statement_ahead : (s : StatementParts) → IsStatement limits s → (t : List (List ℕ)) → Y ≡ statement_line version (suc (length b.statements)) s ∷ t → AtMost limits.statements (suc (length b.statements)) → BlockCuts limits X b Y

  loop_next : (ss : List StatementParts) (Y : List (List ℕ)) (k h : ℕ) (t : List (List ℕ)) → statement_lines version 1 ss ++ Y ≡ loop_line k h ∷ t → (length ss ≡ 0) × (Y ≡ loop_line k h ∷ t)
  loop_next [] Y k h t e = (refl, e)
  loop_next (s ∷ ss) Y k h t e = absurd (loop_not_statement k h 1 s (omega arith) (omega arith) (sym (heads e)))

  behind_loops : (limits : Limits) (q : BlockParts) (X : List (List ℕ)) (b : BlockParts) (Y : List (List ℕ)) → IsBlockOf limits q → Cuts limits 1 q.statements X b.statements Y → BlockCuts limits X b Y
  behind_loops limits q X b Y v (ended e f) = whole (let g = v.some in omega arith) f
  behind_loops limits q X b Y v (longer s u t e f) =
      let g : 1 + length b.statements ≡ suc (length b.statements) = omega arith in
      statement_ahead s u t (e ∙ ap (λ m. statement_line version m s ∷ t) g) (down limits.statements (length q.statements) (suc (length b.statements)) f v.few)

  at_loops : (limits : Limits) (q : BlockParts) (X : List (List ℕ)) (b : BlockParts) (Y : List (List ℕ)) → IsBlockOf limits q → NoStatement X → length b.statements ≤ 999 → LoopCuts 1 q.loops (statement_lines version 1 q.statements ++ X) b.loops (statement_lines version 1 b.statements ++ Y) → BlockCuts limits X b Y
  at_loops limits q X b Y v none low (same_loops e) = behind_loops limits q X b Y v (cuts limits 1 q.statements X b.statements Y v.each none (omega arith) (omega arith) e)
  at_loops limits q X b Y v none low (more_loops h u w t e f) =
      let g : 1 + length b.loops ≡ suc (length b.loops) = omega arith in
      let i = loop_next b.statements Y (suc (length b.loops)) h t (e ∙ ap (λ m. loop_line m h ∷ t) g) in
      loop_ahead h (omega arith) w i.0 t i.1 (down limits.loops (length q.loops) (suc (length b.loops)) f v.few_loops)

  block_cuts : (limits : Limits) (q : BlockParts) (ps : List BlockParts) (b : BlockParts) (Y : List (List ℕ)) → IsBlockOf limits q → length b.statements ≤ 999 → inner_lines version q ++ blocks_lines version ps ≡ inner_lines version b ++ Y → BlockCuts limits (blocks_lines version ps) b Y
  block_cuts limits q ps b Y v low e =
      let X = blocks_lines version ps in
      let f : loop_lines 1 q.loops ++ (statement_lines version 1 q.statements ++ X) ≡ loop_lines 1 b.loops ++ (statement_lines version 1 b.statements ++ Y) = sym (append_assoc (loop_lines 1 q.loops) (statement_lines version 1 q.statements) X) ∙ e ∙ append_assoc (loop_lines 1 b.loops) (statement_lines version 1 b.statements) Y in
      at_loops limits q X b Y v (blocks_no_statement ps) low (loop_cuts 1 q.loops (statement_lines version 1 q.statements ++ X) b.loops (statement_lines version 1 b.statements ++ Y) v.loops (behind_no_loop q.statements ps) f)

  -- what the next line can be, where k blocks stood before
  pub data NextLine (limits : Limits) (k : ℕ) (done : List BlockParts) (last : BlockParts) (l : List ℕ) : Type 0 where
    new_block : (name : List ℕ) → IsBlock name → l ≡ block_line name → 1 ≤ length last.statements → AtMost limits.blocks (k + (length done + 2)) → NextLine limits k done last l
    new_loop : (h : ℕ) → h < suc (length last.loops) → h ≤ 99 → length last.statements ≡ 0 → l ≡ loop_line (suc (length last.loops)) h → AtMost limits.loops (suc (length last.loops)) → NextLine limits k done last l
    new_statement : (s : StatementParts) → IsStatement limits s → l ≡ statement_line version (suc (length last.statements)) s → AtMost limits.statements (suc (length last.statements)) → NextLine limits k done last l

  part_headed : (done : List BlockParts) (last : BlockParts) (X : List (List ℕ)) → (name : List ℕ) × (t : List (List ℕ)) × (part_lines version done last ++ X ≡ block_line name ∷ t)
  part_headed [] last X = (last.name, inner_lines version last ++ X, refl)
  part_headed (d ∷ ds) last X = (d.name, ((inner_lines version d ++ blocks_lines version ds) ++ block_lines version last) ++ X, refl)

  after_open : (limits : Limits) (k : ℕ) (last : BlockParts) (l : List ℕ) (more : List (List ℕ)) (ps : List BlockParts) → AllByRecursion (IsBlockOf limits) ps → AtMost limits.blocks (k + suc (length ps)) → BlockCuts limits (blocks_lines version ps) last (l ∷ more) → NextLine limits k [] last l
  after_open limits k last l more [] w few (whole e f) = absurd (empty_is f)
  after_open limits k last l more (r ∷ rs) w few (whole e f) = new_block r.name (w.0.name) (sym (heads f)) e (down limits.blocks (k + suc (suc (length rs))) (k + 2) (omega arith) few)
  after_open limits k last l more ps w few (loop_ahead h u i j t e f) = new_loop h u i j (heads e) f
  after_open limits k last l more ps w few (statement_ahead s u t e f) = new_statement s u (heads e) f

  skipped : (limits : Limits) (k : ℕ) (d : BlockParts) (ds : List BlockParts) (last : BlockParts) (l : List ℕ) → NextLine limits (suc k) ds last l → NextLine limits k (d ∷ ds) last l
  skipped limits k d ds last l (new_block name v e f g) = new_block name v e f (down limits.blocks (suc k + (length ds + 2)) (k + (suc (length ds) + 2)) (omega arith) g)
  skipped limits k d ds last l (new_loop h u v w e f) = new_loop h u v w e f
  skipped limits k d ds last l (new_statement s v e f) = new_statement s v e f

  pub next : (limits : Limits) (k : ℕ) (done : List BlockParts) (last : BlockParts) (l : List ℕ) (more : List (List ℕ)) (p : List BlockParts) → AllByRecursion IsShort done → IsShort last → AllByRecursion (IsBlockOf limits) p → AtMost limits.blocks (k + length p) → blocks_lines version p ≡ part_lines version done last ++ (l ∷ more) → NextLine limits k done last l
  next limits k [] last l more [] a b v few h = absurd (empty_is h)
  next limits k (d ∷ ds) last l more [] a b v few h = absurd (empty_is h)
  next limits k [] last l more (q ∷ ps) a b v few h =
      after_open limits k last l more ps v.1 few (block_cuts limits q ps last (l ∷ more) v.0 b (tails h))
  next limits k (d ∷ ds) last l more (q ∷ ps) a b v few h =
      let Y = part_lines version ds last ++ (l ∷ more) in
      let e : (inner_lines version d ++ blocks_lines version ds) ++ block_lines version last ≡ inner_lines version d ++ part_lines version ds last = append_assoc (inner_lines version d) (blocks_lines version ds) (block_lines version last) in
      let f : inner_lines version q ++ blocks_lines version ps ≡ inner_lines version d ++ Y = tails h ∙ ap (λ t. t ++ (l ∷ more)) e ∙ append_assoc (inner_lines version d) (part_lines version ds last) (l ∷ more) in
      let g = part_headed ds last (l ∷ more) in
      elim (block_cuts limits q ps d Y v.0 a.0 f) [
        | whole i j ↦ skipped limits k d ds last l (next limits (suc k) ds last l more ps a.1 b v.1 (down limits.blocks (k + suc (length ps)) (suc k + length ps) (omega arith) few) j)
        | loop_ahead u i j m t n o ↦ absurd (loop_not_block (suc (length d.loops)) u g.0 (heads (sym n ∙ g.2)))
        | statement_ahead s u t i j ↦ absurd (lines_differ g.0 (suc (length d.statements)) s (omega arith) (let w = a.0 in omega arith) (heads (sym g.2 ∙ i)))
      ]

  -- before the first block
  pub first : (limits : Limits) (l : List ℕ) (more : List (List ℕ)) (p : List BlockParts) → AllByRecursion (IsBlockOf limits) p → blocks_lines version p ≡ l ∷ more → (name : List ℕ) × IsBlock name × (l ≡ block_line name)
  first limits l more [] v h = absurd (empty_is h)
  first limits l more (q ∷ ps) v h = (q.name, v.0.name, sym (heads h))

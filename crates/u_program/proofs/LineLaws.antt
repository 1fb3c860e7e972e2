-- The reader of lines reads exactly their texts.
use Rattle.std.specs.Prelude.{◌≡◌, ℕ, ◌^◌, ◌<◌, ◌≤◌, Bool, true, false, cond, nat_le, List, [], ◌∷◌, ◌++◌, map, codes, Option, Some, None, IsTrue, refl}
use Rattle.std.specs.List.{AllByRecursion, list_all}
use Rattle.std.proofs.lemmas.Bool.{and_parts, leb-true}
use Rattle.std.proofs.Common.{sym, ◌∙◌, ap, subst, arith, inl, inr}
use Rattle.std.specs.Fmt.{decimal}
use Rattle.u_name.specs.Block.{IsBlock, is_block_byte}
use Rattle.u_base.specs.Number.{IsUpTo}
use Rattle.u_base.proofs.NumberLaws.{AllDigit, decimal_digits}
use Rattle.u_base.proofs.PiecesLaws.{Free}
use Rattle.u_base.specs.Pieces.{words}
use Rattle.u_base.specs.Spaced.{spaced}
use Rattle.u_base.proofs.SpacedLaws.{AllFree, free_append, all_free_append, free_spaced, free_above, free_decimal, free_signed, words_spaced, words_are}
use Rattle.u_base.specs.WholeWords.{◌then◌, is, number_word, number0_word}
use Rattle.u_base.proofs.WholeWordsLaws.{number_word_sound, number_word_complete, number0_word_sound, number0_word_complete, told, then_some}
use Rattle.std.proofs.lemmas.Option.{same_Some, none-some}
use Rattle.u_program.specs.declared.reading.Line.{Line}
use Rattle.u_program.specs.declared.reading.Line.TheVariants.{Block, Loop, Statement}
use Rattle.u_program.specs.declared.program.Constant.{Constant}
use Rattle.u_program.specs.declared.program.Constant.TheVariants as constants
use Rattle.u_program.specs.declared.program.Kind.{Kind}
use Rattle.u_program.specs.declared.program.Kind.TheVariants.{Const, Unary, Binary, Enter, Apply, Ask, Param}
use Rattle.u_program.specs.declared.program.Version.TheVariants as versions
use Rattle.u_program.specs.declared.program.Arguments.{Arguments}
use Rattle.u_program.specs.declared.program.Arguments.TheVariants as arguments
use Rattle.u_program.specs.declared.program.Parameter.{Parameter}
use Rattle.u_program.specs.declared.program.Parameter.TheVariants as parameters
use Rattle.u_value.specs.declared.operators.UnaryOperator.{UnaryOperator}
use Rattle.u_value.specs.declared.operators.UnaryOperator.TheVariants.{Not}
use Rattle.u_value.specs.declared.operators.BinaryOperator.{BinaryOperator}
use Rattle.u_value.specs.declared.operators.BinaryOperator.TheVariants.{And}
use Rattle.u_program.specs.declared.program.Destination.{Destination}
use Rattle.u_program.specs.Parts.{StatementParts}
use Rattle.u_program.specs.Limits.{Limits, IsConstant, IsKind, IsDestination, Ascending, rank, has_otherwise, IsStatement, no_limits}
use Rattle.u_program.specs.Text.{arrow, slash, unary_word, binary_word, kind_word, constant_word, count_word, place_word, count_words, argument_words, destination_word, otherwise_words, lists_words, statement_words, block_line, loop_line, statement_line}
use Rattle.u_program.specs.Reading.{Words, word_at, name_word, statement_at, name_line, alone, numbers_at, numbered, line_of, line_at}
use Rattle.u_program.specs.Begun.{line_text, IsLine}
use Rattle.u_program.proofs.WordLaws.{name_word_sound, name_word_complete}
use Rattle.u_program.proofs.ListLaws.{statement_sound, statement_complete}
use Rattle.u_program.specs.declared.program.Version.{Version}

-- no byte of a word but a block's name is below 45

-- whether each byte is at least 45
all_high : List ℕ → Bool
all_high w = list_all (λ b. nat_le 45 b) w

unary_high : (o : UnaryOperator) → all_high (unary_word o) ≡ true
unfolding all_high
unary_high Not = refl
unary_high o = refl

binary_high : (o : BinaryOperator) → all_high (binary_word o) ≡ true
unfolding all_high
binary_high And = refl
binary_high o = refl

module _ (version : Version) where
  module _ (c : ℕ) where
    block_free : (bs : List ℕ) → is_block_byte c ≡ false → AllByRecursion (λ b. IsTrue (is_block_byte b)) bs → Free c bs
    block_free [] n v = tt
    block_free (b ∷ bs) n v = (λ e. not_both (subst (λ b. IsTrue (is_block_byte b)) e v.0) n, block_free bs n v.1)
      where
        not_both : {t : Bool} → IsTrue t → t ≡ false → ⊥
        not_both h e = cc

    written_free : (w : List ℕ) → c < 45 → all_high w ≡ true → Free c w
    unfolding all_high
    written_free [] low h = tt
    written_free (b ∷ w) low h =
        let a = and_parts (nat_le 45 b) (list_all (λ d. nat_le 45 d) w) h in
        let l = leb-true 45 b a.0 in
        (λ e. omega arith, written_free w low a.1)

    kind_free : (k : Kind) → c < 45 → Free c (kind_word k)
    unfolding all_high
    kind_free (Unary o) low = written_free (unary_word o) low (unary_high o)
    kind_free (Binary o) low = written_free (binary_word o) low (binary_high o)
    kind_free k low = written_free (kind_word k) low refl

    constant_free : (k : Constant) → c < 45 → is_block_byte c ≡ false → IsConstant k → Free c (constant_word k)
    constant_free (constants.Int n) low m v = free_signed c n low v
    constant_free (constants.Bool true) low m v = free_above c (codes "true") low (omega arith, (omega arith, (omega arith, (omega arith, tt))))
    constant_free (constants.Bool false) low m v = free_above c (codes "false") low (omega arith, (omega arith, (omega arith, (omega arith, (omega arith, tt)))))
    constant_free (constants.Proc name) low m v = (λ e. omega arith, block_free name m v.each)

    count_free : (n : Arguments) → c < 45 → Free c (count_word n)
    unfolding all_high
    count_free arguments.One low = written_free (codes "1") low refl
    count_free arguments.Two low = written_free (codes "2") low refl
    count_free arguments.Three low = written_free (codes "3") low refl
    count_free arguments.Four low = written_free (codes "4") low refl

    place_free : (p : Parameter) → c < 45 → Free c (place_word p)
    unfolding all_high
    place_free parameters.Second low = written_free (codes "2") low refl
    place_free parameters.Third low = written_free (codes "3") low refl
    place_free parameters.Fourth low = written_free (codes "4") low refl

    counts_free : (v : Version) (n : Arguments) → c < 45 → AllFree c (count_words v n)
    counts_free versions.One n low = tt
    counts_free versions.Two n low = (count_free n low, tt)

    argument_free : (k : Kind) → c < 45 → is_block_byte c ≡ false → IsKind k → AllFree c (argument_words version k)
    argument_free (Const k) low m v = (constant_free k low m v, tt)
    argument_free (Enter l) low m v = (free_decimal c l low (omega (arith, v.1)), tt)
    argument_free (Apply b n) low m v = (free_decimal c b low (omega (arith, v.1)), counts_free version n low)
    argument_free (Param p) low m v = (place_free p low, tt)
    argument_free (Ask s n) low m v = (block_free s m v.each, (count_free n low, tt))
    argument_free k low m v = tt

    destination_free : (d : Destination) → c < 45 → IsDestination d → Free c (destination_word d)
    destination_free d low v = free_append c (decimal d.statement) (46 ∷ decimal d.port) (free_decimal c d.statement low (omega (arith, v.statement.1))) (λ e. omega arith, free_decimal c d.port low (omega (arith, v.port.1)))

    destinations_free : (below : ℕ) (ds : List Destination) → c < 45 → Ascending below ds → AllFree c (map destination_word ds)
    destinations_free below [] low v = tt
    destinations_free below (d ∷ ds) low v = (destination_free d low v.0, destinations_free (rank d) ds low v.2)

    otherwise_free : (b : Bool) (ds : List Destination) → c < 45 → Ascending 0 ds → AllFree c (otherwise_words b ds)
    otherwise_free true ds low v = (free_above c slash low (omega arith, tt), destinations_free 0 ds low v)
    otherwise_free false ds low v = tt

    lists_free : (limits : Limits) (s : StatementParts) → c < 45 → IsStatement limits s → AllFree c (lists_words s.kind s.to s.otherwise)
    lists_free limits s low v = all_free_append c (map destination_word s.to) (otherwise_words (has_otherwise s.kind) s.otherwise) (destinations_free 0 s.to low v.to) (otherwise_free (has_otherwise s.kind) s.otherwise low v.otherwise)

    statement_free : (limits : Limits) (s : StatementParts) → c < 45 → is_block_byte c ≡ false → IsStatement limits s → AllFree c (statement_words version s)
    statement_free limits s low m v =
        (free_decimal c s.region low (omega (arith, v.region)), (kind_free s.kind low, all_free_append c (argument_words version s.kind) (arrow ∷ lists_words s.kind s.to s.otherwise) (argument_free s.kind low m v.kind) (free_above c arrow low (omega arith, (omega arith, tt)), lists_free limits s low v)))

    loop_free : c < 45 → Free c (codes "loop")
    loop_free low = free_above c (codes "loop") low (omega arith, (omega arith, (omega arith, (omega arith, tt))))

    pub block_line_free : (name : List ℕ) → c < 45 → (32 ≡ c → ⊥) → is_block_byte c ≡ false → IsBlock name → Free c (block_line name)
    unfolding block_line
    block_line_free name low n m v = free_append c (codes "block") (spaced (name ∷ [])) (free_above c (codes "block") low (omega arith, (omega arith, (omega arith, (omega arith, (omega arith, tt)))))) (free_spaced c (name ∷ []) n (block_free name m v.each, tt))

    pub loop_line_free : (k h : ℕ) → c < 45 → (32 ≡ c → ⊥) → k < 2 ^ 64 → h < 2 ^ 64 → Free c (loop_line k h)
    unfolding loop_line
    loop_line_free k h low n f g = free_append c (codes "loop") (spaced (decimal k ∷ decimal h ∷ [])) (loop_free low) (free_spaced c (decimal k ∷ decimal h ∷ []) n (free_decimal c k low f, (free_decimal c h low g, tt)))

    pub statement_line_free : (limits : Limits) (k : ℕ) (s : StatementParts) → c < 45 → (32 ≡ c → ⊥) → is_block_byte c ≡ false → k < 2 ^ 64 → IsStatement limits s → Free c (statement_line version k s)
    unfolding statement_line
    statement_line_free limits k s low n m h v = free_append c (decimal k) (spaced (statement_words version s)) (free_decimal c k low h) (free_spaced c (statement_words version s) n (statement_free limits s low m v))

  -- exactness

  name_line_sound : (ws : Words) (l : Line) → name_line ws ≡ Some l → IsLine version l × ((first : List ℕ) → first ≡ (codes "block") → first ++ spaced ws ≡ line_text version l)
  unfolding block_line
  name_line_sound [] l h = absurd (none-some l h)
  name_line_sound (w ∷ []) l h =
      let a = then_some (name_word w) (λ name. alone (Block name) []) l h in
      let s = name_word_sound w a.0 a.1 in
      let e : Block a.0 ≡ l = same_Some (Block a.0) l a.2 in
      subst (λ l. IsLine version l × ((first : List ℕ) → first ≡ (codes "block") → first ++ spaced (w ∷ []) ≡ line_text version l)) e
      (s.0, λ first g. ap (λ t. t ++ spaced (w ∷ [])) g ∙ ap (λ w. (codes "block") ++ spaced (w ∷ [])) s.1)
  name_line_sound (w ∷ v ∷ ws) l h =
      let a = then_some (name_word w) (λ name. None) l h in
      absurd (none-some l a.2)

  -- what stands behind a loop's number
  abbrev held_at : Words → ℕ → Option Line
  held_at ws n = word_at ws then λ b. number0_word 99 b.0 then λ h. alone (Loop n h) b.1

  held_sound : (n : ℕ) (ws : Words) (l : Line) → IsUpTo 100 n → held_at ws n ≡ Some l → IsLine version l × (codes "loop" ++ spaced (decimal n ∷ ws) ≡ line_text version l)
  unfolding loop_line
  held_sound n [] l v h = absurd (none-some l h)
  held_sound n (w ∷ []) l v h =
      let a = then_some (number0_word 99 w) (λ k. alone (Loop n k) []) l h in
      let s = number0_word_sound 99 w a.0 (omega arith) (omega arith) a.1 in
      let e : Loop n a.0 ≡ l = same_Some (Loop n a.0) l a.2 in
      subst (λ l. IsLine version l × (codes "loop" ++ spaced (decimal n ∷ w ∷ []) ≡ line_text version l)) e
      ((v, s.0), ap (λ w. codes "loop" ++ spaced (decimal n ∷ w ∷ [])) s.1)
  held_sound n (w ∷ u ∷ ws) l v h =
      let a = then_some (number0_word 99 w) (λ k. None) l h in
      absurd (none-some l a.2)

  numbers_sound : (w : List ℕ) (ws : Words) (l : Line) → w ≡ codes "loop" → numbers_at ws ≡ Some l → IsLine version l × (w ++ spaced ws ≡ line_text version l)
  unfolding numbers_at
  numbers_sound w [] l e h = absurd (none-some l h)
  numbers_sound w (v ∷ ws) l e h =
      let a = then_some (number_word 100 v) (held_at ws) l h in
      let s = number_word_sound 100 v a.0 (omega arith) (omega arith) a.1 in
      let t = held_sound a.0 ws l s.0 a.2 in
      (t.0, ap (λ w. w ++ spaced (v ∷ ws)) e ∙ ap (λ v. codes "loop" ++ spaced (v ∷ ws)) s.1 ∙ t.1)

  numbered_sound : (w : List ℕ) (ws : Words) (l : Line) → numbered version w ws ≡ Some l → IsLine version l × (w ++ spaced ws ≡ line_text version l)
  unfolding statement_line
  numbered_sound w ws l h =
      let a = then_some (number_word 1000 w) (λ n. statement_at version ws then λ s. Some (Statement n s)) l h in
      let s = number_word_sound 1000 w a.0 (omega arith) (omega arith) a.1 in
      let b = then_some (statement_at version ws) (λ s. Some (Statement a.0 s)) l a.2 in
      let t = statement_sound version ws b.0 b.1 in
      let e : Statement a.0 b.0 ≡ l = same_Some (Statement a.0 b.0) l b.2 in
      subst (λ l. IsLine version l × (w ++ spaced ws ≡ line_text version l)) e ((s.0, t.0), ap (λ w. w ++ spaced ws) s.1 ∙ ap (λ ws. decimal a.0 ++ spaced ws) t.1)

  abbrev after_block : Bool → List ℕ → Words → Option Line
  after_block b w ws = cond b (numbers_at ws) (numbered version w ws)

  line_sound_at : (w : List ℕ) (ws : Words) (l : Line) → line_of version w ws ≡ Some l → IsLine version l × (w ++ spaced ws ≡ line_text version l)
  line_sound_at w ws l h =
      elim (told w (codes "block") (is w (codes "block")) refl) [
        | inl a ↦ let s = name_line_sound ws l (ap (λ b. cond b (name_line ws) (after_block (is w (codes "loop")) w ws)) (sym a.0) ∙ h) in (s.0, s.1 w a.1)
        | inr a ↦
            let i = ap (λ b. cond b (name_line ws) (after_block (is w (codes "loop")) w ws)) (sym a) ∙ h in
            elim (told w (codes "loop") (is w (codes "loop")) refl) [
              | inl d ↦ numbers_sound w ws l d.1 (ap (λ b. after_block b w ws) (sym d.0) ∙ i)
              | inr d ↦ numbered_sound w ws l (ap (λ b. after_block b w ws) (sym d) ∙ i)
            ]
      ]

  pub line_sound : (text : List ℕ) (l : Line) → line_at version (words text) ≡ Some l → IsLine version l × (text ≡ line_text version l)
  line_sound text l h = at (words text) refl h
    where
      at : (ws : Words) → words text ≡ ws → line_at version ws ≡ Some l → IsLine version l × (text ≡ line_text version l)
      at [] e k = absurd (none-some l k)
      at (w ∷ ws) e k = let s = line_sound_at w ws l k in (s.0, words_are text w ws e ∙ s.1)

  -- a number is no word that begins with a letter
  not_word : (n c : ℕ) (cs : List ℕ) → IsUpTo 1000 n → 58 ≤ c → is (decimal n) (c ∷ cs) ≡ false
  not_word n c cs v low =
      elim (told (decimal n) (c ∷ cs) (is (decimal n) (c ∷ cs)) refl) [
        | inl a ↦ let d : AllDigit (c ∷ cs) = subst AllDigit a.1 (decimal_digits n (omega (arith, v.1))) in absurd (omega (arith, d.0.1))
        | inr a ↦ a
      ]

  pub line_complete : (l : Line) → IsLine version l → line_at version (words (line_text version l)) ≡ Some l
  unfolding block_line loop_line numbers_at statement_line
  line_complete (Block name) v =
      ap (line_at version) (words_spaced (codes "block") (name ∷ []) (free_above 32 (codes "block") (omega arith) (omega arith, (omega arith, (omega arith, (omega arith, (omega arith, tt)))))) (block_free 32 name refl v.each, tt))
      ∙ ap (λ r. r then λ name. alone (Block name) []) (name_word_complete name v)
  line_complete (Loop n h) v =
      ap (line_at version) (words_spaced (codes "loop") (decimal n ∷ decimal h ∷ []) (loop_free 32 (omega arith)) (free_decimal 32 n (omega arith) (omega (arith, v.0.1)), (free_decimal 32 h (omega arith) (omega (arith, v.1)), tt)))
      ∙ ap (λ r. r then held_at (decimal h ∷ [])) (number_word_complete 100 n (omega arith) (omega arith) v.0)
      ∙ ap (λ r. r then λ k. alone (Loop n k) []) (number0_word_complete 99 h (omega arith) (omega arith) v.1)
  line_complete (Statement n s) v =
      let ws = statement_words version s in
      ap (line_at version) (words_spaced (decimal n) ws (free_decimal 32 n (omega arith) (omega (arith, v.0.1))) (statement_free 32 (no_limits version) s (omega arith) refl v.1))
      ∙ ap (λ b. cond b (name_line ws) (after_block (is (decimal n) (codes "loop")) (decimal n) ws)) (not_word n 98 _ v.0 (omega arith))
      ∙ ap (λ b. after_block b (decimal n) ws) (not_word n 108 _ v.0 (omega arith))
      ∙ ap (λ r. r then λ n. statement_at version ws then λ s. Some (Statement n s)) (number_word_complete 1000 n (omega arith) (omega arith) v.0)
      ∙ ap (λ r. r then λ s. Some (Statement n s)) (statement_complete version s v.1)

  -- where the reader refuses, the line is none
  pub line_none : (text : List ℕ) → line_at version (words text) ≡ None → (l : Line) → IsLine version l → text ≡ line_text version l → ⊥
  line_none text h l v e = none-some l (sym h ∙ ap (λ t. line_at version (words t)) e ∙ line_complete l v)

  -- two lines with one text are one line
  pub line_same : (a b : Line) → IsLine version a → IsLine version b → line_text version a ≡ line_text version b → a ≡ b
  line_same a b v w e = same_Some a b (sym (line_complete a v) ∙ ap (λ t. line_at version (words t)) e ∙ line_complete b w)

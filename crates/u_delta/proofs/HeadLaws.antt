-- The reader of first lines reads exactly their texts.
use Rattle.std.specs.Prelude.{◌≡◌, ℕ, ◌-◌, ◌^◌, ◌<◌, ◌≤◌, Bool, true, false, cond, ◌==◌, nat_le, List, [], ◌∷◌, ◌++◌, codes, Option, Some, None, refl}
use Rattle.std.proofs.Common.{sym, ◌∙◌, ap, subst, arith, inl, inr}
use Rattle.std.proofs.lemmas.Bool.{leb-true, le-leb, ne_eqb}
use Rattle.std.proofs.lemmas.Option.{same_Some, none-some}
use Rattle.std.specs.Cmp.Lexicographic.{same_text}
use Rattle.std.specs.Fmt.{decimal}
use Rattle.u_name.specs.Context.{IsBetween}
use Rattle.u_base.specs.Pieces.{words}
use Rattle.u_base.specs.Spaced.{spaced}
use Rattle.u_base.proofs.PartsLaws.{alike, unlike, same_or}
use Rattle.u_base.proofs.PiecesLaws.{Free}
use Rattle.u_base.proofs.SpacedLaws.{AllFree, free_append, free_spaced, free_above, free_decimal, words_spaced, words_are}
use Rattle.u_base.specs.WholeWords.{◌then◌, is, number_word, number0_word}
use Rattle.u_base.proofs.WholeWordsLaws.{number_word_sound, number_word_complete, number0_word_sound, number0_word_complete, told, then_some}
use Rattle.u_delta.specs.declared.message.Ask.{Ask}
use Rattle.u_delta.specs.declared.head.Opening.{Opening}
use Rattle.u_delta.specs.declared.head.Head.{Head}
use Rattle.u_delta.specs.declared.head.Head.TheVariants as heads
use Rattle.u_delta.specs.MessageText.{ask_words, delta_words, ask_line, delta_line}
use Rattle.u_delta.specs.Messages.{ArePeers, IsAsk}
use Rattle.u_delta.specs.HeadReading.{Words, ask, opening, head_line, IsHead, word_at, replica_word, peers_at, long_at, alone, ask_at, part_at, delta_at, sort_at, head_at}

word_sound : (ws : Words) (a : List ℕ × Words) → word_at ws ≡ Some a → ws ≡ a.0 ∷ a.1
word_sound [] a h = absurd (none-some a h)
word_sound (w ∷ ws) a h = ap (λ (p : List ℕ × Words). p.0 ∷ p.1) (same_Some (w, ws) a h)

some_where : {A : Type 0} (b : Bool) (r : Option A) (y : A) → cond b r None ≡ Some y → (b ≡ true) × (r ≡ Some y)
some_where true r y h = (refl, h)
some_where false r y h = absurd (none-some y h)

some_unless : {A : Type 0} (b : Bool) (r : Option A) (y : A) → cond b None r ≡ Some y → (b ≡ false) × (r ≡ Some y)
some_unless true r y h = absurd (none-some y h)
some_unless false r y h = (refl, h)

unlike_where : (a b : ℕ) → (a == b) ≡ false → a ≡ b → ⊥
unlike_where a b h e = elim (same_or a b) [ alike f g ↦ (let i : true ≡ false = sym g ∙ h in cc) | unlike f g ↦ f e ]

-- what is read is the text of what it is read as

replica_sound : (w : List ℕ) (r : ℕ) → replica_word w ≡ Some r → IsBetween 1 r 8 × (w ≡ decimal r)
unfolding replica_word
replica_sound w r h =
    let a = then_some (number_word 9 w) (λ n. cond (nat_le n 8) (Some n) None) r h in
    let s = number_word_sound 9 w a.0 (omega arith) (omega arith) a.1 in
    let b = some_where (nat_le a.0 8) (Some a.0) r a.2 in
    let e : a.0 ≡ r = same_Some a.0 r b.1 in
    let l = leb-true a.0 8 b.0 in
    ((omega (arith, s.0.0), omega arith), s.1 ∙ ap decimal e)

abbrev second_at : ℕ → Words → Option ((ℕ × ℕ) × Words)
second_at r ws = word_at ws then λ b. replica_word b.0 then λ s. cond (r == s) None (Some ((r, s), b.1))

peers_sound : (ws : Words) (p : (ℕ × ℕ) × Words) → peers_at ws ≡ Some p → ArePeers p.0.0 p.0.1 × (ws ≡ decimal p.0.0 ∷ (decimal p.0.1 ∷ p.1))
unfolding peers_at
peers_sound ws p h =
    let a = then_some (word_at ws) (λ a. replica_word a.0 then λ r. second_at r a.1) p h in
    let r = then_some (replica_word a.0.0) (λ r. second_at r a.0.1) p a.2 in
    let b = then_some (word_at a.0.1) (λ b. replica_word b.0 then λ s. cond (r.0 == s) None (Some ((r.0, s), b.1))) p r.2 in
    let s = then_some (replica_word b.0.0) (λ s. cond (r.0 == s) None (Some ((r.0, s), b.0.1))) p b.2 in
    let u = some_unless (r.0 == s.0) (Some ((r.0, s.0), b.0.1)) p s.2 in
    let e : ((r.0, s.0), b.0.1) ≡ p = same_Some ((r.0, s.0), b.0.1) p u.1 in
    let v = replica_sound a.0.0 r.0 r.1 in
    let w = replica_sound b.0.0 s.0 s.1 in
    subst (λ (p : (ℕ × ℕ) × Words). ArePeers p.0.0 p.0.1 × (ws ≡ decimal p.0.0 ∷ (decimal p.0.1 ∷ p.1))) e (
      (v.0, w.0, unlike_where r.0 s.0 u.0),
      word_sound ws a.0 a.1 ∙ ap (λ t. t ∷ a.0.1) v.1 ∙ ap (λ t. decimal r.0 ∷ t) (word_sound a.0.1 b.0 b.1 ∙ ap (λ t. t ∷ b.0.1) w.1),
    )

long_sound : (ws : Words) (p : ℕ × Words) → long_at ws ≡ Some p → (p.0 < 2 ^ 64) × (ws ≡ decimal p.0 ∷ p.1)
unfolding long_at
long_sound ws p h =
    let a = then_some (word_at ws) (λ a. number0_word (2 ^ 64 - 1) a.0 then λ n. Some (n, a.1)) p h in
    let b = then_some (number0_word (2 ^ 64 - 1) a.0.0) (λ n. Some (n, a.0.1)) p a.2 in
    let s = number0_word_sound (2 ^ 64 - 1) a.0.0 b.0 (omega arith) (omega arith) b.1 in
    let e : (b.0, a.0.1) ≡ p = same_Some (b.0, a.0.1) p b.2 in
    let l : b.0 < 2 ^ 64 = omega (arith, s.0) in
    subst (λ (p : ℕ × Words). (p.0 < 2 ^ 64) × (ws ≡ decimal p.0 ∷ p.1)) e
    (l, word_sound ws a.0 a.1 ∙ ap (λ t. t ∷ a.0.1) s.1)

alone_sound : (h x : Head) (ws : Words) → alone h ws ≡ Some x → (ws ≡ []) × (h ≡ x)
alone_sound h x [] e = (refl, same_Some h x e)
alone_sound h x (w ∷ ws) e = absurd (none-some x e)

ask_sound : (ws : Words) (h : Head) → ask_at ws ≡ Some h → IsHead h × (codes "u-ask" ++ spaced (codes "1" ∷ ws) ≡ head_line h)
unfolding ask_at ask_line
ask_sound ws h e =
    let p = then_some (peers_at ws) (λ p. long_at p.1 then λ l. long_at l.1 then λ c. alone (heads.Ask (ask p.0.0 p.0.1 l.0 c.0)) c.1) h e in
    let l = then_some (long_at p.0.1) (λ l. long_at l.1 then λ c. alone (heads.Ask (ask p.0.0.0 p.0.0.1 l.0 c.0)) c.1) h p.2 in
    let c = then_some (long_at l.0.1) (λ c. alone (heads.Ask (ask p.0.0.0 p.0.0.1 l.0.0 c.0)) c.1) h l.2 in
    let a = alone_sound (heads.Ask (ask p.0.0.0 p.0.0.1 l.0.0 c.0.0)) h c.0.1 c.2 in
    let u = peers_sound ws p.0 p.1 in
    let v = long_sound p.0.1 l.0 l.1 in
    let w = long_sound l.0.1 c.0 c.1 in
    let all : ws ≡ decimal p.0.0.0 ∷ (decimal p.0.0.1 ∷ (decimal l.0.0 ∷ (decimal c.0.0 ∷ []))) = u.1 ∙ ap (λ t. decimal p.0.0.0 ∷ (decimal p.0.0.1 ∷ t)) (v.1 ∙ ap (λ t. decimal l.0.0 ∷ t) (w.1 ∙ ap (λ t. decimal c.0.0 ∷ t) a.0)) in
    subst (λ h. IsHead h × (codes "u-ask" ++ spaced (codes "1" ∷ ws) ≡ head_line h)) a.1
    (record { peers = u.0; life = v.0; count = w.0 }, ap (λ ws. codes "u-ask" ++ spaced (codes "1" ∷ ws)) all)

abbrev rest_at : ℕ × ℕ → ℕ → Words → Option Head
rest_at p l ws = long_at ws then λ s. word_at s.1 then λ c. number0_word 4096 c.0 then λ n. alone (heads.Delta (opening p.0 p.1 l s.0 n)) c.1

positive : (n : ℕ) → (n == 0) ≡ false → 1 ≤ n
positive n h = let d : n ≡ 0 → ⊥ = unlike_where n 0 h in omega (arith, d)

delta_sound : (ws : Words) (h : Head) → delta_at ws ≡ Some h → IsHead h × (codes "u-delta" ++ spaced (codes "1" ∷ ws) ≡ head_line h)
unfolding delta_at delta_line
delta_sound ws h e =
    let p = then_some (peers_at ws) (λ p. part_at p.0 p.1) h e in
    let l = then_some (long_at p.0.1) (λ l. cond (l.0 == 0) None (rest_at p.0.0 l.0 l.1)) h p.2 in
    let z = some_unless (l.0.0 == 0) (rest_at p.0.0 l.0.0 l.0.1) h l.2 in
    let s = then_some (long_at l.0.1) (λ s. word_at s.1 then λ c. number0_word 4096 c.0 then λ n. alone (heads.Delta (opening p.0.0.0 p.0.0.1 l.0.0 s.0 n)) c.1) h z.1 in
    let c = then_some (word_at s.0.1) (λ c. number0_word 4096 c.0 then λ n. alone (heads.Delta (opening p.0.0.0 p.0.0.1 l.0.0 s.0.0 n)) c.1) h s.2 in
    let n = then_some (number0_word 4096 c.0.0) (λ n. alone (heads.Delta (opening p.0.0.0 p.0.0.1 l.0.0 s.0.0 n)) c.0.1) h c.2 in
    let a = alone_sound (heads.Delta (opening p.0.0.0 p.0.0.1 l.0.0 s.0.0 n.0)) h c.0.1 n.2 in
    let u = peers_sound ws p.0 p.1 in
    let v = long_sound p.0.1 l.0 l.1 in
    let w = long_sound l.0.1 s.0 s.1 in
    let x = number0_word_sound 4096 c.0.0 n.0 (omega arith) (omega arith) n.1 in
    let all : ws ≡ decimal p.0.0.0 ∷ (decimal p.0.0.1 ∷ (decimal l.0.0 ∷ (decimal s.0.0 ∷ (decimal n.0 ∷ [])))) = u.1 ∙ ap (λ t. decimal p.0.0.0 ∷ (decimal p.0.0.1 ∷ t)) (v.1 ∙ ap (λ t. decimal l.0.0 ∷ t) (w.1 ∙ ap (λ t. decimal s.0.0 ∷ t) (word_sound s.0.1 c.0 c.1 ∙ ap (λ t. t ∷ c.0.1) x.1 ∙ ap (λ t. decimal n.0 ∷ t) a.0))) in
    subst (λ h. IsHead h × (codes "u-delta" ++ spaced (codes "1" ∷ ws) ≡ head_line h)) a.1
    (record { peers = u.0; born = positive l.0.0 z.0; life_fits = v.0; start_fits = w.0; few = x.0 }, ap (λ ws. codes "u-delta" ++ spaced (codes "1" ∷ ws)) all)

sort_sound : (w : List ℕ) (ws : Words) (h : Head) → sort_at w ws ≡ Some h → IsHead h × (w ++ spaced (codes "1" ∷ ws) ≡ head_line h)
sort_sound w ws h e =
    elim (told w (codes "u-ask") (is w (codes "u-ask")) refl) [
      | inl a ↦
          let s = ask_sound ws h (ap (λ b. cond b (ask_at ws) (cond (is w (codes "u-delta")) (delta_at ws) None)) (sym a.0) ∙ e) in
          (s.0, ap (λ w. w ++ spaced (codes "1" ∷ ws)) a.1 ∙ s.1)
      | inr a ↦
          let d = some_where (is w (codes "u-delta")) (delta_at ws) h (ap (λ b. cond b (ask_at ws) (cond (is w (codes "u-delta")) (delta_at ws) None)) (sym a) ∙ e) in
          let s = delta_sound ws h d.1 in
          (s.0, ap (λ w. w ++ spaced (codes "1" ∷ ws)) (same_text w (codes "u-delta") (sym d.0)) ∙ s.1)
    ]

pub head_sound : (text : List ℕ) (h : Head) → head_at (words text) ≡ Some h → IsHead h × (text ≡ head_line h)
unfolding head_at
head_sound text h e =
    let a = then_some (word_at (words text)) (λ a. word_at a.1 then λ b. cond (is b.0 (codes "1")) (sort_at a.0 b.1) None) h e in
    let b = then_some (word_at a.0.1) (λ b. cond (is b.0 (codes "1")) (sort_at a.0.0 b.1) None) h a.2 in
    let c = some_where (is b.0.0 (codes "1")) (sort_at a.0.0 b.0.1) h b.2 in
    let s = sort_sound a.0.0 b.0.1 h c.1 in
    let f : words text ≡ a.0.0 ∷ (codes "1" ∷ b.0.1) = word_sound (words text) a.0 a.1 ∙ ap (λ t. a.0.0 ∷ t) (word_sound a.0.1 b.0 b.1 ∙ ap (λ t. t ∷ b.0.1) (same_text b.0.0 (codes "1") (sym c.0))) in
    (s.0, words_are text a.0.0 (codes "1" ∷ b.0.1) f ∙ s.1)

-- and each text is read

replica_complete : (r : ℕ) → IsBetween 1 r 8 → replica_word (decimal r) ≡ Some r
unfolding replica_word
replica_complete r v =
    ap (λ o. o then λ n. cond (nat_le n 8) (Some n) None) (number_word_complete 9 r (omega arith) (omega arith) (v.0, omega (arith, v.1)))
    ∙ ap (λ b. cond b (Some r) None) (le-leb r 8 v.1)

peers_complete : (r s : ℕ) (ws : Words) → ArePeers r s → peers_at (decimal r ∷ (decimal s ∷ ws)) ≡ Some ((r, s), ws)
unfolding peers_at
peers_complete r s ws v =
    ap (λ o. o then λ r. second_at r (decimal s ∷ ws)) (replica_complete r v.0)
    ∙ ap (λ o. o then λ s. cond (r == s) None (Some ((r, s), ws))) (replica_complete s v.1)
    ∙ ap (λ b. cond b None (Some ((r, s), ws))) (ne_eqb r s v.2)

long_complete : (n : ℕ) (ws : Words) → n < 2 ^ 64 → long_at (decimal n ∷ ws) ≡ Some (n, ws)
unfolding long_at
long_complete n ws l = ap (λ o. o then λ n. Some (n, ws)) (number0_word_complete (2 ^ 64 - 1) n (omega arith) (omega arith) (omega arith))

ask_complete : (a : Ask) → IsAsk a → ask_at (decimal a.asker ∷ (decimal a.asked ∷ (decimal a.life ∷ (decimal a.count ∷ [])))) ≡ Some (heads.Ask a)
unfolding ask_at
ask_complete a v =
    ap (λ o. o then λ p. long_at p.1 then λ l. long_at l.1 then λ c. alone (heads.Ask (ask p.0.0 p.0.1 l.0 c.0)) c.1) (peers_complete a.asker a.asked (decimal a.life ∷ (decimal a.count ∷ [])) v.peers)
    ∙ ap (λ o. o then λ l. long_at l.1 then λ c. alone (heads.Ask (ask a.asker a.asked l.0 c.0)) c.1) (long_complete a.life (decimal a.count ∷ []) v.life)
    ∙ ap (λ o. o then λ c. alone (heads.Ask (ask a.asker a.asked a.life c.0)) c.1) (long_complete a.count [] v.count)

delta_complete : (o : Opening) → IsHead (heads.Delta o) → delta_at (decimal o.sender ∷ (decimal o.receiver ∷ (decimal o.life ∷ (decimal o.start ∷ (decimal o.count ∷ []))))) ≡ Some (heads.Delta o)
unfolding delta_at
delta_complete o v =
    let ws = decimal o.start ∷ (decimal o.count ∷ []) in
    let n : o.life ≡ 0 → ⊥ = λ e. omega (arith, v.born) in
    ap (λ r. r then λ p. part_at p.0 p.1) (peers_complete o.sender o.receiver (decimal o.life ∷ ws) v.peers)
    ∙ ap (λ r. r then λ l. cond (l.0 == 0) None (rest_at (o.sender, o.receiver) l.0 l.1)) (long_complete o.life ws v.life_fits)
    ∙ ap (λ b. cond b None (rest_at (o.sender, o.receiver) o.life ws)) (ne_eqb o.life 0 n)
    ∙ ap (λ r. r then λ s. word_at s.1 then λ c. number0_word 4096 c.0 then λ n. alone (heads.Delta (opening o.sender o.receiver o.life s.0 n)) c.1) (long_complete o.start (decimal o.count ∷ []) v.start_fits)
    ∙ ap (λ r. r then λ n. alone (heads.Delta (opening o.sender o.receiver o.life o.start n)) []) (number0_word_complete 4096 o.count (omega arith) (omega arith) v.few)

module _ (c : ℕ) (low : c < 45) where
  peers_free : (r s : ℕ) → ArePeers r s → Free c (decimal r) × Free c (decimal s)
  peers_free r s v = (free_decimal c r low (omega (arith, v.0.1)), free_decimal c s low (omega (arith, v.1.1)))

  ask_free : Free c (codes "u-ask")
  ask_free = free_above c (codes "u-ask") low (omega arith, (omega arith, (omega arith, (omega arith, (omega arith, tt)))))

  delta_free : Free c (codes "u-delta")
  delta_free = free_above c (codes "u-delta") low (omega arith, (omega arith, (omega arith, (omega arith, (omega arith, (omega arith, (omega arith, tt)))))))

  one_free : Free c (codes "1")
  one_free = free_above c (codes "1") low (omega arith, tt)

  ask_words_free : (a : Ask) → IsAsk a → AllFree c (ask_words a)
  ask_words_free a v =
      let p = peers_free a.asker a.asked v.peers in
      (one_free, (p.0, (p.1, (free_decimal c a.life low v.life, (free_decimal c a.count low v.count, tt)))))

  delta_words_free : (o : Opening) → IsHead (heads.Delta o) → AllFree c (delta_words o.sender o.receiver o.life o.start o.count)
  delta_words_free o v =
      let p = peers_free o.sender o.receiver v.peers in
      (one_free, (p.0, (p.1, (free_decimal c o.life low v.life_fits, (free_decimal c o.start low v.start_fits, (free_decimal c o.count low (omega (arith, v.few)), tt))))))

  -- a first line has no byte below 45 but spaces
  pub head_free : (h : Head) → (32 ≡ c → ⊥) → IsHead h → Free c (head_line h)
  unfolding ask_line delta_line
  head_free (heads.Ask a) n v = free_append c (codes "u-ask") (spaced (ask_words a)) ask_free (free_spaced c (ask_words a) n (ask_words_free a v))
  head_free (heads.Delta o) n v = free_append c (codes "u-delta") (spaced (delta_words o.sender o.receiver o.life o.start o.count)) delta_free (free_spaced c (delta_words o.sender o.receiver o.life o.start o.count) n (delta_words_free o v))

pub head_complete : (h : Head) → IsHead h → head_at (words (head_line h)) ≡ Some h
unfolding head_at ask_line delta_line
head_complete (heads.Ask a) v =
    ap head_at (words_spaced (codes "u-ask") (ask_words a) (ask_free 32 (omega arith)) (ask_words_free 32 (omega arith) a v))
    ∙ ask_complete a v
head_complete (heads.Delta o) v =
    ap head_at (words_spaced (codes "u-delta") (delta_words o.sender o.receiver o.life o.start o.count) (delta_free 32 (omega arith)) (delta_words_free 32 (omega arith) o v))
    ∙ delta_complete o v

-- where the reader refuses, the line is no first line
pub head_none : (text : List ℕ) → head_at (words text) ≡ None → (h : Head) → IsHead h → text ≡ head_line h → ⊥
head_none text n h v e = none-some h (sym n ∙ ap (λ t. head_at (words t)) e ∙ head_complete h v)

-- two first lines with one text are one
pub head_same : (a b : Head) → IsHead a → IsHead b → head_line a ≡ head_line b → a ≡ b
head_same a b v w e = same_Some a b (sym (head_complete a v) ∙ ap (λ t. head_at (words t)) e ∙ head_complete b w)

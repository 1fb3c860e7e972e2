-- What the generator gives, and the events that are made of it.
use Rattle.std.specs.Prelude.{◌≡◌, ℕ, zero, suc, ◌+◌, ◌-◌, ◌<◌, List, [], ◌∷◌, ◌++◌, length, Bool, refl}
use Rattle.std.proofs.Common.{sym, ◌∙◌, ap, arith, append_assoc, append-nil}
use Rattle.rand_pcg.specs.Lcg.{Lcg, state_after}
use Rattle.rand_pcg.specs.Pcg.{pcg32}
use Rattle.u_world.specs.declared.event.Event.{Event}
use Rattle.u_world.specs.declared.random.Words.{Words}
use Rattle.u_world.specs.Random.{generator, later, next_word, words_of, words_after, random_event, sent_after, random_from, random_list}

-- a word is drawn
module _ (g h : Lcg) (w : ℕ) (drawn : (w, h) ≡ pcg32 g) where
  word_is : w ≡ next_word g
  word_is = ap (λ (p : ℕ × Lcg). p.0) drawn

  rest_is : h ≡ (pcg32 g).1
  rest_is = ap (λ (p : ℕ × Lcg). p.1) drawn

-- the generator one word on
one_later : (g : Lcg) → (pcg32 g).1 ≡ later 1 g
unfolding state_after
one_later g = refl

two_later : (g : Lcg) → (pcg32 (later 1 g)).1 ≡ later 2 g
unfolding state_after
two_later g = refl

three_later : (g : Lcg) → (pcg32 (later 2 g)).1 ≡ later 3 g
unfolding state_after
three_later g = refl

four_later : (g : Lcg) → (pcg32 (later 3 g)).1 ≡ later 4 g
unfolding state_after
four_later g = refl

-- four words are drawn, one after another
module _ (g0 g1 g2 g3 g4 : Lcg) (w0 w1 w2 w3 : ℕ) (e0 : (w0, g1) ≡ pcg32 g0) (e1 : (w1, g2) ≡ pcg32 g1) (e2 : (w2, g3) ≡ pcg32 g2) (e3 : (w3, g4) ≡ pcg32 g3) where
  first : g1 ≡ later 1 g0
  first = rest_is g0 g1 w0 e0 ∙ one_later g0

  second : g2 ≡ later 2 g0
  second = rest_is g1 g2 w1 e1 ∙ ap (λ (g : Lcg). (pcg32 g).1) first ∙ two_later g0

  third : g3 ≡ later 3 g0
  third = rest_is g2 g3 w2 e2 ∙ ap (λ (g : Lcg). (pcg32 g).1) second ∙ three_later g0

  words : ℕ → ℕ → ℕ → ℕ → Words
  words a b c d = record { kind = a; replica = b; other = c; pick = d }

  pub four_words : record { kind = w0; replica = w1; other = w2; pick = w3 } ≡ words_of g0
  unfolding words_of words
  four_words =
      ap (λ (a : ℕ). words a w1 w2 w3) (word_is g0 g1 w0 e0)
      ∙ ap (λ (b : ℕ). words (next_word g0) b w2 w3) (word_is g1 g2 w1 e1 ∙ ap next_word first)
      ∙ ap (λ (c : ℕ). words (next_word g0) (next_word (later 1 g0)) c w3) (word_is g2 g3 w2 e2 ∙ ap next_word second)
      ∙ ap (λ (d : ℕ). words (next_word g0) (next_word (later 1 g0)) (next_word (later 2 g0)) d) (word_is g3 g4 w3 e3 ∙ ap next_word third)

  pub four_after : g4 ≡ words_after g0
  unfolding words_after
  four_after = rest_is g3 g4 w3 e3 ∙ ap (λ (g : Lcg). (pcg32 g).1) third ∙ four_later g0

-- there are as many events as are wanted
random_from_count : (n : ℕ) (g : Lcg) (asks : List Bool) (count : ℕ) → length (random_from n g asks count) ≡ count
unfolding random_from
random_from_count n g asks zero = refl
random_from_count n g asks (suc count) = ap suc (random_from_count n (words_after g) (sent_after (random_event n (length asks) (words_of g)) asks) count)

pub random_list_count : (seed n count : ℕ) → length (random_list seed n count) ≡ count
unfolding random_list
random_list_count seed n count = random_from_count n (generator seed) [] count

-- what is made so far, and what is still to be made
abbrev pub Makes : (seed n count place : ℕ) → List Event → Lcg → List Bool → Type 0
Makes seed n count place es g asks = es ++ random_from n g asks (count - place) ≡ random_list seed n count

pub makes_first : (seed n count : ℕ) (es : List Event) (g : Lcg) (asks : List Bool) → es ≡ [] → g ≡ generator seed → asks ≡ [] → Makes seed n count 0 es g asks
unfolding random_list
makes_first seed n count es g asks e p q =
    let all : count - 0 ≡ count = omega arith in
    ap (λ (xs : List Event). xs ++ random_from n g asks (count - 0)) e
    ∙ ap (λ (h : Lcg). random_from n h asks (count - 0)) p
    ∙ ap (λ (xs : List Bool). random_from n (generator seed) xs (count - 0)) q
    ∙ ap (λ (k : ℕ). random_from n (generator seed) [] k) all

-- one event more is made
pub makes_more : (seed n count place : ℕ) (es es' : List Event) (g h : Lcg) (asks asks' : List Bool) (e : Event) (w : Words) → place < count → w ≡ words_of g → h ≡ words_after g → e ≡ random_event n (length asks) w → asks' ≡ sent_after e asks → es' ≡ es ++ (e ∷ []) → Makes seed n count place es g asks → Makes seed n count (place + 1) es' h asks'
unfolding random_from
makes_more seed n count place es es' g h asks asks' e w l ws after made sent pushed before =
    let next : count - place ≡ suc (count - (place + 1)) = omega (arith, l) in
    let event : e ≡ random_event n (length asks) (words_of g) = made ∙ ap (λ (x : Words). random_event n (length asks) x) ws in
    let k : ℕ = count - (place + 1) in
    ap (λ (xs : List Event). xs ++ random_from n h asks' k) pushed
    ∙ append_assoc es (e ∷ []) (random_from n h asks' k)
    ∙ ap (λ (x : Lcg). es ++ (e ∷ random_from n x asks' k)) after
    ∙ ap (λ (x : List Bool). es ++ (e ∷ random_from n (words_after g) x k)) sent
    ∙ ap (λ (x : Event). es ++ (x ∷ random_from n (words_after g) (sent_after x asks) k)) event
    ∙ ap (λ (i : ℕ). es ++ random_from n g asks i) (sym next)
    ∙ before

-- all are made
pub makes_all : (seed n count place : ℕ) (es : List Event) (g : Lcg) (asks : List Bool) → place ≡ count → Makes seed n count place es g asks → es ≡ random_list seed n count
unfolding random_from
makes_all seed n count place es g asks e before =
    let none : count - place ≡ 0 = omega (arith, e) in
    sym (append-nil es) ∙ ap (λ (i : ℕ). es ++ random_from n g asks i) (sym none) ∙ before

-- The order of contexts is that of their paths.
use Rattle.std.specs.Prelude.{◌≡◌, ℕ, ◌+◌, ◌*◌, ◌≤◌, ◌<◌, ◌/◌, ◌%◌, ◌^◌, min, max, List, [], ◌∷◌, ◌++◌, Some, refl}
use Rattle.std.proofs.Common.{sym, ◌∙◌, ap, arith, append_assoc}
use Rattle.std.specs.Cmp.{nat_cmp_is}
use Rattle.std.specs.Ordering.{MatchOrdering, ordering_then, ordering_reverse, nat_cmp}
use Rattle.std.specs.declared.cmp.Ordering.{Ordering}
use Rattle.std.specs.declared.cmp.Ordering.TheVariants.{Less, Equal, Greater}
use Rattle.std.specs.Cmp.Lexicographic.{slice_cmp}
use Rattle.std.specs.FinMap.{nat_cmp-IsAntisymmetric, slice_cmp-IsAntisymmetric}
use Rattle.u_name.specs.Block.{IsBlock}
use Rattle.u_name.specs.Context.{Tree, Top, InLoop, InCall, depth, InRange, IsContext}
use Rattle.u_name.specs.ContextLaws.{context_cmp_ties}
use Rattle.u_name.specs.ContextOrder.{context_cmp, parts_cmp}
use Rattle.u_name.specs.Path.{kinds, kinds_number, block_in, frames, path, with_kind, kind_by, number_by}
use Rattle.u_name.specs.Words.{words, words_by, same_block, greater_block, block_words, turn_words, own_part, own_word, high_word, low_word}
use Rattle.u_name.specs.declared.context.Linkage.{Linkage}
use Rattle.u_name.specs.declared.context.Linkage.TheVariants.{Loop, Call}
use Rattle.u_name.specs.Greatest.{greatest_turn}
use Rattle.u_name.specs.LinkTree.{tree_by}
use Rattle.u_name.proofs.BlockNumbers.{halves_in_order, last_word}
use Rattle.u_name.proofs.Digits.{digits}
use Rattle.u_name.proofs.KindBits.{kinds_in_order, kind_more}
use Rattle.u_name.proofs.WordParts.{low_behind, own_behind}
use Rattle.std.proofs.lemmas.Cmp.{ranked, nat_list_cmp_total}
use Rattle.std.proofs.lemmas.List.{append-nil}

then_same : (r s t : Ordering) → ordering_then (ordering_then r s) t ≡ ordering_then r (ordering_then s t)
then_same Less s t = refl
then_same Equal s t = refl
then_same Greater s t = refl

-- what ties with a tie is the first
pub then_equal : (r : Ordering) → ordering_then r Equal ≡ r
then_equal Less = refl
then_equal Equal = refl
then_equal Greater = refl

-- words of blocks, with more behind each
blocks_behind : (b c us vs : List ℕ) → IsBlock b → IsBlock c
    → slice_cmp nat_cmp (block_words b ++ us) (block_words c ++ vs) ≡ ordering_then (slice_cmp nat_cmp b c) (slice_cmp nat_cmp us vs)
blocks_behind b c us vs v w =
    low_behind (high_word b) (high_word c) (low_word b) (low_word c) us vs (nat_cmp (high_word b) (high_word c)) refl (last_word b v) (last_word c w)
    ∙ sym (then_same (nat_cmp (high_word b) (high_word c)) (nat_cmp (low_word b) (low_word c)) (slice_cmp nat_cmp us vs))
    ∙ ap (λ r. ordering_then r (slice_cmp nat_cmp us vs)) (halves_in_order b c v w)

-- words of numbers and initiations, with more behind each
turns_behind : (n i m j : ℕ) (us vs : List ℕ)
    → slice_cmp nat_cmp (turn_words n i ++ us) (turn_words m j ++ vs) ≡ ordering_then (ordering_then (nat_cmp n m) (nat_cmp i j)) (slice_cmp nat_cmp us vs)
turns_behind n i m j us vs =
    ap (λ r. ordering_then r (slice_cmp nat_cmp (own_part i ++ us) (own_part j ++ vs))) (digits (2 ^ 48) n m (min i own_word) (min j own_word) (omega arith) (omega arith))
    ∙ then_same (nat_cmp n m) (nat_cmp (min i own_word) (min j own_word)) (slice_cmp nat_cmp (own_part i ++ us) (own_part j ++ vs))
    ∙ ap (λ r. ordering_then (nat_cmp n m) r) (own_behind i j us vs)
    ∙ sym (then_same (nat_cmp n m) (nat_cmp i j) (slice_cmp nat_cmp us vs))

-- words of loops or calls, with more behind each
words_behind : (b : List ℕ) (n i : ℕ) (c : List ℕ) (m j : ℕ) (us vs : List ℕ) → IsBlock b → IsBlock c
    → slice_cmp nat_cmp (words b n i ++ us) (words c m j ++ vs) ≡ ordering_then (parts_cmp b n i c m j) (slice_cmp nat_cmp us vs)
words_behind b n i c m j us vs v w =
    ap (λ l. slice_cmp nat_cmp l (words c m j ++ vs)) (append_assoc (block_words b) (turn_words n i) us)
    ∙ ap (λ l. slice_cmp nat_cmp (block_words b ++ (turn_words n i ++ us)) l) (append_assoc (block_words c) (turn_words m j) vs)
    ∙ blocks_behind b c (turn_words n i ++ us) (turn_words m j ++ vs) v w
    ∙ ap (λ r. ordering_then (slice_cmp nat_cmp b c) r) (turns_behind n i m j us vs)
    ∙ sym (then_same (slice_cmp nat_cmp b c) (ordering_then (nat_cmp n m) (nat_cmp i j)) (slice_cmp nat_cmp us vs))

-- numbers that are as much more are in the same order
as_much_more : (k n m : ℕ) → nat_cmp (k + n) (k + m) ≡ nat_cmp n m
as_much_more k n m = sym (nat_cmp_is (k + n) (k + m) (nat_cmp n m) (decide (nat_cmp n m) (ranked n m (nat_cmp n m) refl)))
  where
    decide : (r : Ordering) → MatchOrdering r (n < m) (n ≡ m) (m < n) → MatchOrdering r (k + n < k + m) (k + n ≡ k + m) (k + m < k + n)
    decide Less h = omega arith
    decide Equal h = omega arith
    decide Greater h = omega arith

back : (b c : List ℕ) (r : Ordering) → slice_cmp nat_cmp b c ≡ r → slice_cmp nat_cmp c b ≡ ordering_reverse r
back b c r e = nat_list_cmp_total.antisymm c b ∙ ap ordering_reverse e

-- words in a loop or call in the block d, with more behind each
inside_behind : (d b : List ℕ) (n i : ℕ) (c : List ℕ) (m j : ℕ) (us vs : List ℕ) → IsBlock b → IsBlock c → n ≤ 999 → m ≤ 999
    → slice_cmp nat_cmp (words_by (Some (slice_cmp nat_cmp b d)) b n i ++ us) (words_by (Some (slice_cmp nat_cmp c d)) c m j ++ vs)
    ≡ ordering_then (parts_cmp b n i c m j) (slice_cmp nat_cmp us vs)
inside_behind d b n i c m j us vs v w h k = decide (slice_cmp nat_cmp b d) (slice_cmp nat_cmp c d) refl refl
  where
    same : slice_cmp nat_cmp b d ≡ Equal → slice_cmp nat_cmp b c ≡ slice_cmp nat_cmp d c
    same e = nat_list_cmp_total.congr b d c e

    into : slice_cmp nat_cmp c d ≡ Equal → slice_cmp nat_cmp b c ≡ slice_cmp nat_cmp b d
    into f = ap (λ l. slice_cmp nat_cmp b l) (slice_cmp-IsAntisymmetric nat_cmp-IsAntisymmetric c d f)

    decide : (r s : Ordering) → slice_cmp nat_cmp b d ≡ r → slice_cmp nat_cmp c d ≡ s
        → slice_cmp nat_cmp (words_by (Some r) b n i ++ us) (words_by (Some s) c m j ++ vs) ≡ ordering_then (parts_cmp b n i c m j) (slice_cmp nat_cmp us vs)
    decide Less Less e f = words_behind b n i c m j us vs v w
    decide Less Equal e f =
        let x : slice_cmp nat_cmp b c ≡ Less = into f ∙ e in
        let a : Less ≡ nat_cmp 0 ((same_block + m) * 2 ^ 48 + min j own_word) = nat_cmp_is 0 ((same_block + m) * 2 ^ 48 + min j own_word) Less (omega arith) in
        rw (← a, x) refl
    decide Less Greater e f =
        let x : slice_cmp nat_cmp b c ≡ Less = nat_list_cmp_total.trans b d c e (back c d Greater f) in
        rw x refl
    decide Equal Less e f =
        let x : slice_cmp nat_cmp b c ≡ Greater = same e ∙ back c d Less f in
        let a : Greater ≡ nat_cmp ((same_block + n) * 2 ^ 48 + min i own_word) 0 = nat_cmp_is ((same_block + n) * 2 ^ 48 + min i own_word) 0 Greater (omega arith) in
        rw (← a, x) refl
    decide Equal Equal e f =
        let x : slice_cmp nat_cmp b c ≡ Equal = same e ∙ back c d Equal f in
        turns_behind (same_block + n) i (same_block + m) j us vs
        ∙ rw (as_much_more same_block n m, x) refl
    decide Equal Greater e f =
        let x : slice_cmp nat_cmp b c ≡ Less = same e ∙ back c d Greater f in
        let a : Less ≡ nat_cmp ((same_block + n) * 2 ^ 48 + min i own_word) greater_block = nat_cmp_is ((same_block + n) * 2 ^ 48 + min i own_word) greater_block Less (omega arith) in
        rw (← a, x) refl
    decide Greater Less e f =
        let x : slice_cmp nat_cmp b c ≡ Greater = back c b Less (nat_list_cmp_total.trans c d b f (back b d Greater e)) in
        rw x refl
    decide Greater Equal e f =
        let x : slice_cmp nat_cmp b c ≡ Greater = into f ∙ e in
        let a : Greater ≡ nat_cmp greater_block ((same_block + m) * 2 ^ 48 + min j own_word) = nat_cmp_is greater_block ((same_block + m) * 2 ^ 48 + min j own_word) Greater (omega arith) in
        rw (← a, x) refl
    decide Greater Greater e f = words_behind b n i c m j us vs v w

-- words in the same outer context, with more behind each
within_behind : (x : Tree) (b : List ℕ) (n i : ℕ) (c : List ℕ) (m j : ℕ) (us vs : List ℕ) → IsBlock b → IsBlock c → n ≤ 999 → m ≤ 999
    → slice_cmp nat_cmp (words_by (block_in x b) b n i ++ us) (words_by (block_in x c) c m j ++ vs)
    ≡ ordering_then (parts_cmp b n i c m j) (slice_cmp nat_cmp us vs)
within_behind Top b n i c m j us vs v w h k = words_behind b n i c m j us vs v w
within_behind (InLoop o d p q) b n i c m j us vs v w h k = inside_behind d b n i c m j us vs v w h k
within_behind (InCall o d p q) b n i c m j us vs v w h k = inside_behind d b n i c m j us vs v w h k

-- the words count only where the outer contexts tie, and are then the same
ties_behind : (x y : Tree) (b : List ℕ) (n i : ℕ) (c : List ℕ) (m j : ℕ) (us vs : List ℕ) → IsBlock b → IsBlock c → n ≤ 999 → m ≤ 999
    → (r : Ordering) → context_cmp x y ≡ r
    → ordering_then r (slice_cmp nat_cmp (words_by (block_in x b) b n i ++ us) (words_by (block_in y c) c m j ++ vs))
    ≡ ordering_then r (ordering_then (parts_cmp b n i c m j) (slice_cmp nat_cmp us vs))
ties_behind x y b n i c m j us vs v w h k Less e = refl
ties_behind x y b n i c m j us vs v w h k Equal e =
    ap (λ z. slice_cmp nat_cmp (words_by (block_in x b) b n i ++ us) (words_by (block_in z c) c m j ++ vs)) (sym (context_cmp_ties x y e))
    ∙ within_behind x b n i c m j us vs v w h k
ties_behind x y b n i c m j us vs v w h k Greater e = refl

abbrev ahead : Tree → List ℕ → ℕ → ℕ → List ℕ → List ℕ
ahead x b n i us = words_by (block_in x b) b n i ++ us

-- one more loop or call, given what is so of the outer contexts
deeper : (x y : Tree) (b : List ℕ) (n i : ℕ) (c : List ℕ) (m j : ℕ) (us vs : List ℕ) → IsBlock b → IsBlock c → n ≤ 999 → m ≤ 999
    → slice_cmp nat_cmp (frames x ++ ahead x b n i us) (frames y ++ ahead y c m j vs)
    ≡ ordering_then (context_cmp x y) (slice_cmp nat_cmp (ahead x b n i us) (ahead y c m j vs))
    → slice_cmp nat_cmp ((frames x ++ words_by (block_in x b) b n i) ++ us) ((frames y ++ words_by (block_in y c) c m j) ++ vs)
    ≡ ordering_then (ordering_then (context_cmp x y) (parts_cmp b n i c m j)) (slice_cmp nat_cmp us vs)
deeper x y b n i c m j us vs v w h k e =
    ap (λ l. slice_cmp nat_cmp l ((frames y ++ words_by (block_in y c) c m j) ++ vs)) (append_assoc (frames x) (words_by (block_in x b) b n i) us)
    ∙ ap (λ l. slice_cmp nat_cmp (frames x ++ ahead x b n i us) l) (append_assoc (frames y) (words_by (block_in y c) c m j) vs)
    ∙ e
    ∙ ties_behind x y b n i c m j us vs v w h k (context_cmp x y) refl
    ∙ sym (then_same (context_cmp x y) (parts_cmp b n i c m j) (slice_cmp nat_cmp us vs))

-- words of contexts of the same kinds, with more behind each
behind : (x y : Tree) (us vs : List ℕ) → InRange x → InRange y → kinds x ≡ kinds y
    → slice_cmp nat_cmp (frames x ++ us) (frames y ++ vs) ≡ ordering_then (context_cmp x y) (slice_cmp nat_cmp us vs)
behind Top Top us vs f g h = refl
behind Top (InLoop p c m j) us vs f g h = cc
behind Top (InCall p c m j) us vs f g h = cc
behind (InLoop o b n i) Top us vs f g h = cc
behind (InLoop o b n i) (InLoop p c m j) us vs f g h =
    deeper o p b n i c m j us vs f.1 g.1 (omega (arith, f.2)) (omega (arith, g.2)) (behind o p (ahead o b n i us) (ahead p c m j vs) f.0 g.0 cc)
behind (InLoop o b n i) (InCall p c m j) us vs f g h = cc
behind (InCall o b n i) Top us vs f g h = cc
behind (InCall o b n i) (InLoop p c m j) us vs f g h = cc
behind (InCall o b n i) (InCall p c m j) us vs f g h =
    deeper o p b n i c m j us vs f.1 g.1 f.2.1 g.2.1 (behind o p (ahead o b n i us) (ahead p c m j vs) f.0 g.0 cc)

-- the kinds alone decide, where they differ
by_kinds : (x y : Tree) → ordering_then (slice_cmp nat_cmp (kinds x) (kinds y)) (context_cmp x y) ≡ context_cmp x y
by_kinds Top Top = refl
by_kinds Top (InLoop p c m j) = refl
by_kinds Top (InCall p c m j) = refl
by_kinds (InLoop o b n i) Top = refl
by_kinds (InLoop o b n i) (InLoop p c m j) =
    sym (then_same (slice_cmp nat_cmp (kinds o) (kinds p)) (context_cmp o p) (parts_cmp b n i c m j)) ∙ ap (λ r. ordering_then r (parts_cmp b n i c m j)) (by_kinds o p)
by_kinds (InLoop o b n i) (InCall p c m j) = refl
by_kinds (InCall o b n i) Top = refl
by_kinds (InCall o b n i) (InLoop p c m j) = refl
by_kinds (InCall o b n i) (InCall p c m j) =
    sym (then_same (slice_cmp nat_cmp (kinds o) (kinds p)) (context_cmp o p) (parts_cmp b n i c m j)) ∙ ap (λ r. ordering_then r (parts_cmp b n i c m j)) (by_kinds o p)

same_kinds : (x y : Tree) → InRange x → InRange y → kinds x ≡ kinds y → slice_cmp nat_cmp (frames x) (frames y) ≡ context_cmp x y
same_kinds x y f g h =
    sym (ap (λ l. slice_cmp nat_cmp l (frames y)) (append-nil (frames x)))
    ∙ sym (ap (λ l. slice_cmp nat_cmp (frames x ++ []) l) (append-nil (frames y)))
    ∙ behind x y [] [] f g h
    ∙ then_equal (context_cmp x y)

compared : (x y : Tree) → InRange x → InRange y → (r : Ordering) → slice_cmp nat_cmp (kinds x) (kinds y) ≡ r
    → ordering_then r (slice_cmp nat_cmp (frames x) (frames y)) ≡ ordering_then r (context_cmp x y)
compared x y f g Less h = refl
compared x y f g Equal h = same_kinds x y f g (slice_cmp-IsAntisymmetric nat_cmp-IsAntisymmetric (kinds x) (kinds y) h)
compared x y f g Greater h = refl

pub by_paths : (x y : Tree) → IsContext x → IsContext y → slice_cmp nat_cmp (path x) (path y) ≡ context_cmp x y
by_paths x y f g =
    let k : Ordering = slice_cmp nat_cmp (kinds x) (kinds y) in
    let s : Ordering = slice_cmp nat_cmp (frames x) (frames y) in
    sym (then_same (nat_cmp (kinds_number x / 2 ^ 64) (kinds_number y / 2 ^ 64)) (nat_cmp (kinds_number x % 2 ^ 64) (kinds_number y % 2 ^ 64)) s)
    ∙ ap (λ r. ordering_then r s) (kinds_in_order x y f.shallow g.shallow)
    ∙ compared x y f.in_range g.in_range k refl
    ∙ by_kinds x y

-- the path of a loop or a call goes around that of the outer context
pub path_by : (s : Linkage) (o : Tree) (b : List ℕ) (i : ℕ) → depth o < 64
    → with_kind (kind_by s) (path o) ++ words_by (block_in o b) b (number_by s) i ≡ path (tree_by s o b i)
path_by (Loop n) o b i h = let k = kind_more 1 o (InLoop o b n i) refl h in cc
path_by (Call n) o b i h = let k = kind_more 2 o (InCall o b n i) refl h in cc

-- the root's path has two words, which are 0
pub path_of_root : (0 ∷ 0 ∷ []) ≡ path Top
unfolding kinds_number
path_of_root = refl

-- the greatest initiation of a loop or a call is its own, or that of the outer context
pub greatest_by : (s : Linkage) (o : Tree) (b : List ℕ) (i : ℕ) → max (greatest_turn o) i ≡ greatest_turn (tree_by s o b i)
greatest_by (Loop n) o b i = refl
greatest_by (Call n) o b i = refl

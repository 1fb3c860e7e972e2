-- The words of a line and the lines of a text come back from what is put together of them.
use Rattle.std.specs.Prelude.{◌≡◌, ℕ, suc, ◌^◌, ◌≤◌, ◌<◌, List, [], ◌∷◌, ◌++◌, FitsSigned, refl}
use Rattle.std.proofs.Common.{sym, ◌∙◌, ap, arith, append_assoc}
use Rattle.std.specs.List.{AllByRecursion}
use Rattle.std.proofs.lemmas.List.{append-nil}
use Rattle.std.specs.Fmt.{decimal, signed_decimal}
use Rattle.std.specs.Int.{w64}
use lib.IntN.{ℤ, pos, negsuc}
use Rattle.u_base.proofs.NumberLaws.{AllDigit, decimal_digits}
use Rattle.u_base.specs.Pieces.{pieces, words}
use Rattle.u_base.proofs.PiecesLaws.{pieces_cut, pieces_free, Free, glued, glued-pieces}
use Rattle.u_base.specs.Spaced.{spaced, ended}

-- the byte stands in none of them
abbrev pub AllFree : ℕ → List (List ℕ) → Type 0
AllFree c [] = Unit {0}
AllFree c (w ∷ ws) = Free c w × AllFree c ws

module _ (c : ℕ) where
  pub free_append : (a b : List ℕ) → Free c a → Free c b → Free c (a ++ b)
  free_append [] b v w = w
  free_append (x ∷ a) b v w = (v.0, free_append a b v.1 w)

  pub all_free_append : (a b : List (List ℕ)) → AllFree c a → AllFree c b → AllFree c (a ++ b)
  all_free_append [] b v w = w
  all_free_append (x ∷ a) b v w = (v.0, all_free_append a b v.1 w)

  pub free_spaced : (ws : List (List ℕ)) → (32 ≡ c → ⊥) → AllFree c ws → Free c (spaced ws)
  free_spaced [] n v = tt
  free_spaced (w ∷ ws) n v = (n, free_append w (spaced ws) v.0 (free_spaced ws n v.1))

  -- where each byte is at least 45, the least byte of a word but for names' parentheses
  pub free_above : (bs : List ℕ) → c < 45 → AllByRecursion (λ b. 45 ≤ b) bs → Free c bs
  free_above [] low v = tt
  free_above (b ∷ bs) low v = (λ e. omega (arith, v.0), free_above bs low v.1)

  free_digits : (ds : List ℕ) → c < 45 → AllDigit ds → Free c ds
  free_digits [] low v = tt
  free_digits (d ∷ ds) low v = (λ e. omega (arith, v.0.0), free_digits ds low v.1)

  pub free_decimal : (n : ℕ) → c < 45 → n < 2 ^ 64 → Free c (decimal n)
  free_decimal n low h = free_digits (decimal n) low (decimal_digits n h)

  pub free_signed : (z : ℤ) → c < 45 → FitsSigned w64 z → Free c (signed_decimal z)
  free_signed (pos n) low v = let b : n < 2 ^ 63 = v.sfits in free_decimal n low (omega arith)
  free_signed (negsuc n) low v = let b : n < 2 ^ 63 = v.sfits in (λ e. omega arith, free_decimal (suc n) low (omega arith))

-- words and their line

pub words_spaced : (first : List ℕ) (ws : List (List ℕ)) → Free 32 first → AllFree 32 ws → words (first ++ spaced ws) ≡ first ∷ ws
unfolding words
words_spaced first [] f v = ap (λ (p : List (List ℕ) × List ℕ). p.0 ++ (p.1 ∷ [])) (ap (pieces 32) (append-nil first) ∙ pieces_free 32 first f)
words_spaced first (w ∷ ws) f v = ap (λ (p : List (List ℕ) × List ℕ). p.0 ++ (p.1 ∷ [])) (pieces_cut 32 first (w ++ spaced ws) f) ∙ ap (λ t. first ∷ t) (words_spaced w ws v.0 v.1)

not_empty : (ps : List (List ℕ)) (r : List ℕ) → ps ++ (r ∷ []) ≡ [] → ⊥
not_empty [] r h = cc
not_empty (p ∷ ps) r h = cc

unspaced : (ps : List (List ℕ)) (r first : List ℕ) (ws : List (List ℕ)) → ps ++ (r ∷ []) ≡ first ∷ ws → glued 32 ps r ≡ first ++ spaced ws
unspaced [] r first [] h = let e : r ≡ first = cc in e ∙ sym (append-nil first)
unspaced [] r first (w ∷ ws) h = cc
unspaced (p ∷ ps) r first [] h = let f : ps ++ (r ∷ []) ≡ [] = cc in absurd (not_empty ps r f)
unspaced (p ∷ ps) r first (w ∷ ws) h =
    let e : p ≡ first = cc in
    let f : ps ++ (r ∷ []) ≡ w ∷ ws = cc in
    ap (λ p. p ++ (32 ∷ glued 32 ps r)) e ∙ ap (λ t. first ++ (32 ∷ t)) (unspaced ps r w ws f)

pub words_are : (text first : List ℕ) (ws : List (List ℕ)) → words text ≡ first ∷ ws → text ≡ first ++ spaced ws
unfolding words
words_are text first ws h = sym (glued-pieces 32 text) ∙ unspaced (pieces 32 text).0 (pieces 32 text).1 first ws h

-- lines and their text

pieces_nil : pieces 10 [] ≡ ([], [])
unfolding pieces
pieces_nil = refl

pub pieces-ended : (ls : List (List ℕ)) → AllFree 10 ls → pieces 10 (ended ls) ≡ (ls, [])
pieces-ended [] v = pieces_nil
pieces-ended (l ∷ ls) v = pieces_cut 10 l (ended ls) v.0 ∙ ap (λ (p : List (List ℕ) × List ℕ). (l ∷ p.0, p.1)) (pieces-ended ls v.1)

pub glued-ended : (ls : List (List ℕ)) → glued 10 ls [] ≡ ended ls
glued-ended [] = refl
glued-ended (l ∷ ls) = ap (λ t. l ++ (10 ∷ t)) (glued-ended ls)

pub ended-append : (a b : List (List ℕ)) → ended (a ++ b) ≡ ended a ++ ended b
ended-append [] b = refl
ended-append (l ∷ a) b = ap (λ t. l ++ (10 ∷ t)) (ended-append a b) ∙ sym (append_assoc l (10 ∷ ended a) (ended b))

pub spaced-append : (a b : List (List ℕ)) → spaced (a ++ b) ≡ spaced a ++ spaced b
spaced-append [] b = refl
spaced-append (w ∷ a) b = ap (λ t. 32 ∷ (w ++ t)) (spaced-append a b) ∙ ap (λ t. 32 ∷ t) (sym (append_assoc w (spaced a) (spaced b)))

-- Bytes cut at the first newline.
use Rattle.std.specs.Prelude.{◌≡◌, ℕ, zero, suc, ◌+◌, ◌≤◌, ◌<◌, Some, None, List, [], ◌∷◌, length, take, drop, slice_index}
use Rattle.std.proofs.Common.{sym, ◌∙◌, ap, arith}
use Rattle.std.proofs.lemmas.Bool.{eqb-true, eq-eqb}
use Rattle.memchr.specs.Find.{IsFirstByte, is_byte}
use Rattle.u_base.specs.Pieces.{pieces, IsCutInto}
use Rattle.u_base.proofs.PiecesLaws.{Free, cut_here, cut_nowhere}

free_before : (c k : ℕ) (bs : List ℕ) → k ≤ length bs → ((j : ℕ) → j < k → slice_index bs j ≡ c → ⊥) → Free c (take k bs)
free_before c zero bs l n = tt
free_before c (suc k) [] l n = tt
free_before c (suc k) (b ∷ bs) l n = (n 0 (omega arith), free_before c k bs (omega arith) (λ j h. n (suc j) (omega arith)))

found : (c k : ℕ) (bs : List ℕ) → k < length bs → slice_index bs k ≡ c → c ∷ drop (k + 1) bs ≡ drop k bs
found c k [] l e = absurd (omega arith)
found c zero (b ∷ bs) l e = ap (λ x. x ∷ bs) (sym e)
found c (suc k) (b ∷ bs) l e =
    let n : suc k + 1 ≡ suc (k + 1) = omega arith in
    ap (λ m. c ∷ drop m (b ∷ bs)) n ∙ found c k bs (omega arith) e

pub within : (bs : List ℕ) (k : ℕ) → IsFirstByte (is_byte 10) bs (Some k) → k < length bs
within bs k h = h.0.high

pub cut_at_first : (bs : List ℕ) (k : ℕ) → IsFirstByte (is_byte 10) bs (Some k) → IsCutInto 10 bs (take k bs) (drop (k + 1) bs)
cut_at_first bs k h =
    let l : k < length bs = h.0.high in
    cut_here 10 k bs (drop (k + 1) bs)
    (free_before 10 k bs (omega arith) (λ j m e. h.0.before j (omega arith) m (eq-eqb (slice_index bs j) 10 e)))
    (found 10 k bs l (eqb-true (slice_index bs k) 10 h.1))

pub cut_at_none : (bs : List ℕ) → IsFirstByte (is_byte 10) bs None → pieces 10 bs ≡ ([], bs)
cut_at_none bs h =
    cut_nowhere 10 (length bs) bs
    (free_before 10 (length bs) bs (omega arith) (λ j m e. h j (omega arith) m (eq-eqb (slice_index bs j) 10 e)))
    (omega arith)

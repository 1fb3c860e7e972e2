-- Bytes that begin with a text, found byte by byte.
use Rattle.std.specs.Prelude.{◌≡◌, ℕ, zero, suc, ◌+◌, ◌<◌, ◌≤◌, List, [], ◌∷◌, ◌++◌, length, take, drop}
use Rattle.std.proofs.Common.{sym, ◌∙◌, ap, arith, get_or}
use Rattle.std.proofs.lemmas.List.{take-append-drop, take_all}

pub one_more : (k : ℕ) (xs ys : List ℕ) → k < length xs → k < length ys → take k xs ≡ take k ys → get_or xs k 0 ≡ get_or ys k 0 → take (k + 1) xs ≡ take (k + 1) ys
one_more k [] ys l m e h = absurd (omega arith)
one_more k (x ∷ xs) [] l m e h = absurd (omega arith)
one_more zero (x ∷ xs) (y ∷ ys) l m e h = ap (λ z. z ∷ []) h
one_more (suc k) (x ∷ xs) (y ∷ ys) l m e h =
    let n : suc k + 1 ≡ suc (k + 1) = omega arith in
    let first : x ≡ y = cc in
    let others : take k xs ≡ take k ys = cc in
    ap (λ n. take n (x ∷ xs)) n
    ∙ ap (λ z. z ∷ take (k + 1) xs) first
    ∙ ap (λ t. y ∷ t) (one_more k xs ys (omega arith) (omega arith) others h)
    ∙ ap (λ n. take n (y ∷ ys)) (sym n)

pub all_there : (bs text rest : List ℕ) (k : ℕ) → length text ≤ k → k ≤ length text → take k bs ≡ take k text → drop k bs ≡ rest → bs ≡ text ++ rest
all_there bs text rest k l m e h =
    sym (take-append-drop k bs)
    ∙ ap (λ t. t ++ drop k bs) (e ∙ take_all k text l)
    ∙ ap (λ t. text ++ t) h

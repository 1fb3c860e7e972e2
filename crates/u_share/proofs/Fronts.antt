-- Lines of which no more than some first bytes are kept.
use Rattle.std.specs.Prelude.{◌≡◌, ℕ, zero, suc, ◌+◌, ◌-◌, ◌≤◌, ◌<◌, min, List, [], ◌∷◌, ◌++◌, take, length, map, refl}
use Rattle.std.proofs.Common.{sym, ◌∙◌, ap, subst, arith, append-nil}
use Rattle.std.proofs.lemmas.List.{take_all, length-take}
use Rattle.u_base.specs.Pieces.{PiecesAndRest, pieces}
use Rattle.u_base.proofs.PiecesLaws.{Free}
use Rattle.u_share.proofs.Pieces.{before, pieces_before, pieces_join, pieces_are_free, free_take}

-- the first bytes of two lists that begin alike
pub take_both : (k : ℕ) (o l : List ℕ) → take k (take k o ++ l) ≡ take k (o ++ l)
take_both zero o l = refl
take_both (suc k) [] l = refl
take_both (suc k) (b ∷ o) l = ap (λ (t : List ℕ). b ∷ t) (take_both k o l)

pub take_twice : (k : ℕ) (o : List ℕ) → take k (take k o) ≡ take k o
take_twice k o = ap (take k) (sym (append-nil (take k o))) ∙ take_both k o [] ∙ ap (take k) (append-nil o)

-- so many more bytes go to the end of what is kept
pub take_more : (k : ℕ) (o bs : List ℕ) → length o ≤ k → o ++ take (k - length o) bs ≡ take k (o ++ bs)
take_more k [] bs l = let e : k - 0 ≡ k = omega arith in ap (λ (n : ℕ). take n bs) e
take_more zero (b ∷ o) bs l = absurd (omega arith)
take_more (suc k) (b ∷ o) bs l =
    let e : suc k - length (b ∷ o) ≡ k - length o = omega arith in
    ap (λ n. b ∷ (o ++ take n bs)) e ∙ ap (λ t. b ∷ t) (take_more k o bs (omega (arith, l)))

take_min : (n : ℕ) (bs : List ℕ) → take (min n (length bs)) bs ≡ take n bs
take_min zero bs = let e : min 0 (length bs) ≡ 0 = omega arith in ap (λ (m : ℕ). take m bs) e
take_min (suc n) [] = let e : min (suc n) 0 ≡ 0 = omega arith in ap (λ (m : ℕ). take {A = ℕ} m []) e
take_min (suc n) (b ∷ bs) =
    let e : min (suc n) (length (b ∷ bs)) ≡ suc (min n (length bs)) = omega arith in
    ap (λ m. take m (b ∷ bs)) e ∙ ap (λ t. b ∷ t) (take_min n bs)

pub take_room : (k room count : ℕ) (o bs : List ℕ) → length o ≤ k → room ≡ k - length o → count ≡ min room (length bs) → o ++ take count bs ≡ take k (o ++ bs)
take_room k room count o bs l r c =
    ap (λ (n : ℕ). o ++ take n bs) (c ∙ ap (λ (n : ℕ). min n (length bs)) r) ∙ ap (λ (t : List ℕ). o ++ t) (take_min (k - length o) bs) ∙ take_more k o bs l

-- the first bytes of each line
abbrev pub fronts : ℕ → List (List ℕ) → List (List ℕ)
fronts k ls = map (take k) ls

-- lines alike up to so many bytes
abbrev pub Alike : ℕ → PiecesAndRest → PiecesAndRest → Type 0
Alike k p q = (fronts k p.0 ≡ fronts k q.0) × (take k p.1 ≡ take k q.1)

before_alike : (k : ℕ) (o : List ℕ) (p : PiecesAndRest) → Alike k (before (take k o) p) (before o p)
before_alike k o p = at p.0 p.1
  where
    at : (ls : List (List ℕ)) (r : List ℕ) → Alike k (before (take k o) (ls, r)) (before o (ls, r))
    at [] r = (refl, take_both k o r)
    at (l ∷ ls) r = (ap (λ (t : List ℕ). t ∷ fronts k ls) (take_both k o l), refl)

-- no more than those bytes matters, of what stands in front
pub pieces_alike : (c k : ℕ) (o bs : List ℕ) → Free c o → Alike k (pieces c (take k o ++ bs)) (pieces c (o ++ bs))
pieces_alike c k o bs f =
    subst (λ p. Alike k p (pieces c (o ++ bs))) (sym (pieces_before c (take k o) bs (free_take c k o f)))
    (subst (λ p. Alike k (before (take k o) (pieces c bs)) p) (sym (pieces_before c o bs f)) (before_alike k o (pieces c bs)))

-- the lines of some bytes and of others behind them, where so many bytes are kept of what stands behind the lines of the first
pub pieces_go_on : (c k : ℕ) (a bs kept : List ℕ) → kept ≡ take k (pieces c a).1 → (rest : List (List ℕ)) × ((pieces c (a ++ bs)).0 ≡ (pieces c a).0 ++ rest) × (fronts k (pieces c (kept ++ bs)).0 ≡ fronts k rest) × (take k (pieces c (kept ++ bs)).1 ≡ take k (pieces c (a ++ bs)).1)
pieces_go_on c k a bs kept e =
    let j = pieces_join c a bs in
    let al = pieces_alike c k (pieces c a).1 bs (pieces_are_free c a).1 in (
      (pieces c ((pieces c a).1 ++ bs)).0,
      ap (λ p. p.0) j,
      ap (λ (o : List ℕ). fronts k (pieces c (o ++ bs)).0) e ∙ al.0,
      ap (λ (o : List ℕ). take k (pieces c (o ++ bs)).1) e ∙ al.1 ∙ sym (ap (λ p. take k p.1) j),
    )

length_map : (k : ℕ) (ls : List (List ℕ)) → length (fronts k ls) ≡ length ls
length_map k [] = refl
length_map k (l ∷ ls) = ap (λ n. suc n) (length_map k ls)

pub fronts_length : (k : ℕ) (ls ls' : List (List ℕ)) → fronts k ls ≡ fronts k ls' → length ls ≡ length ls'
fronts_length k ls ls' e = sym (length_map k ls) ∙ ap length e ∙ length_map k ls'

-- of two lines that begin alike for one byte more than is allowed, both are short and the same, or both are long
pub short_same : (k : ℕ) (l l' : List ℕ) → take (k + 1) l ≡ take (k + 1) l' → length l ≤ k → l ≡ l'
short_same k l l' e s =
    let a = length-take (k + 1) l in
    let b = length-take (k + 1) l' in
    let n = ap length e in
    let s' : length l' ≤ k = omega (arith, a, b, n) in
    let m : length l ≤ k + 1 = omega arith in
    let m' : length l' ≤ k + 1 = omega (arith, s') in
    sym (take_all (k + 1) l m) ∙ e ∙ take_all (k + 1) l' m'

pub long_same : (k : ℕ) (l l' : List ℕ) → take (k + 1) l ≡ take (k + 1) l' → k < length l → k < length l'
long_same k l l' e s =
    let a = length-take (k + 1) l in
    let b = length-take (k + 1) l' in
    let n = ap length e in
    omega (arith, a, b, n)

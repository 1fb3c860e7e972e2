-- A text is cut into its pieces, and put together from them again.
use Rattle.std.specs.Prelude.{◌≡◌, ℕ, zero, suc, ◌+◌, ◌≤◌, length, take, drop, true, false, cond, ◌==◌, List, [], ◌∷◌, ◌++◌, refl}
use Rattle.std.proofs.Common.{sym, ◌∙◌, ap, subst, arith}
use Rattle.std.proofs.lemmas.Bool.{eq-eqb, ne_eqb}
use Rattle.std.proofs.lemmas.List.{take-append-drop, take_all}
use Rattle.u_base.proofs.PartsLaws.{alike, unlike, same_or}
use Rattle.u_base.specs.Pieces.{PiecesAndRest, onto, pieces}

-- the byte stands nowhere in it
abbrev pub Free : ℕ → List ℕ → Type 0
Free c [] = Unit {0}
Free c (b ∷ bs) = (b ≡ c → ⊥) × Free c bs

pieces_same : (c b : ℕ) (bs : List ℕ) → (b == c) ≡ true → pieces c (b ∷ bs) ≡ ([] ∷ (pieces c bs).0, (pieces c bs).1)
unfolding pieces
pieces_same c b bs h = ap (λ t. cond t ([] ∷ (pieces c bs).0, (pieces c bs).1) (onto b (pieces c bs))) h

pieces_other : (c b : ℕ) (bs : List ℕ) → (b == c) ≡ false → pieces c (b ∷ bs) ≡ onto b (pieces c bs)
unfolding pieces
pieces_other c b bs h = ap (λ t. cond t ([] ∷ (pieces c bs).0, (pieces c bs).1) (onto b (pieces c bs))) h

pub pieces_cut : (c : ℕ) (a r : List ℕ) → Free c a → pieces c (a ++ (c ∷ r)) ≡ (a ∷ (pieces c r).0, (pieces c r).1)
pieces_cut c [] r f = pieces_same c c r (eq-eqb c c refl)
pieces_cut c (b ∷ a) r f = pieces_other c b (a ++ (c ∷ r)) (ne_eqb b c f.0) ∙ ap (onto b) (pieces_cut c a r f.1)

pub pieces_free : (c : ℕ) (a : List ℕ) → Free c a → pieces c a ≡ ([], a)
unfolding pieces
pieces_free c [] f = refl
pieces_free c (b ∷ a) f = pieces_other c b a (ne_eqb b c f.0) ∙ ap (onto b) (pieces_free c a f.1)

-- the text of pieces
abbrev pub glued : ℕ → List (List ℕ) → List ℕ → List ℕ
glued c [] r = r
glued c (l ∷ ls) r = l ++ (c ∷ glued c ls r)

glued_onto : (c b : ℕ) (p : PiecesAndRest) → glued c (onto b p).0 (onto b p).1 ≡ b ∷ glued c p.0 p.1
glued_onto c b p = at p.0 p.1
  where
    at : (ls : List (List ℕ)) (r : List ℕ) → glued c (onto b (ls, r)).0 (onto b (ls, r)).1 ≡ b ∷ glued c ls r
    at [] r = refl
    at (l ∷ ls) r = refl

pub glued-pieces : (c : ℕ) (bs : List ℕ) → glued c (pieces c bs).0 (pieces c bs).1 ≡ bs
unfolding pieces
glued-pieces c [] = refl
glued-pieces c (b ∷ bs) =
    elim (same_or b c) [
      | alike e f ↦ ap (λ p. glued c p.0 p.1) (pieces_same c b bs f) ∙ ap (λ t. c ∷ t) (glued-pieces c bs) ∙ ap (λ i. i ∷ bs) (sym e)
      | unlike e f ↦ ap (λ p. glued c p.0 p.1) (pieces_other c b bs f) ∙ glued_onto c b (pieces c bs) ∙ ap (λ t. b ∷ t) (glued-pieces c bs)
    ]

-- for the loop that cuts

pub cut_here : (c k : ℕ) (bs others : List ℕ) → Free c (take k bs) → c ∷ others ≡ drop k bs → pieces c bs ≡ (take k bs ∷ (pieces c others).0, (pieces c others).1)
cut_here c k bs others f h = ap (pieces c) (sym (ap (λ t. take k bs ++ t) h ∙ take-append-drop k bs)) ∙ pieces_cut c (take k bs) others f

pub cut_nowhere : (c k : ℕ) (bs : List ℕ) → Free c (take k bs) → length bs ≤ k → pieces c bs ≡ ([], bs)
cut_nowhere c k bs f h = pieces_free c bs (subst (Free c) (take_all k bs h) f)

pub free_step : (c k b : ℕ) (bs others : List ℕ) → Free c (take k bs) → b ∷ others ≡ drop k bs → (b ≡ c → ⊥) → Free c (take (k + 1) bs)
free_step c zero b [] others f h n = tt
free_step c zero b (x ∷ bs) others f h n = let e : b ≡ x = cc in (λ g. n (e ∙ g), tt)
free_step c (suc k) b [] others f h n = let e : suc (k + 1) ≡ suc k + 1 = omega arith in subst (λ m. Free c (take {A = ℕ} m [])) e tt
free_step c (suc k) b (x ∷ bs) others f h n = let e : suc (k + 1) ≡ suc k + 1 = omega arith in subst (λ m. Free c (take m (x ∷ bs))) e (f.0, free_step c k b bs others f.1 h n)

pub drop_step : (k b : ℕ) (bs others : List ℕ) → b ∷ others ≡ drop k bs → others ≡ drop (k + 1) bs
drop_step zero b [] others h = cc
drop_step zero b (x ∷ bs) others h = cc
drop_step (suc k) b [] others h = cc
drop_step (suc k) b (x ∷ bs) others h = let e : suc (k + 1) ≡ suc k + 1 = omega arith in drop_step k b bs others h ∙ ap (λ m. drop m (x ∷ bs)) e

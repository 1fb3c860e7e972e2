-- How pieces of bytes go on as bytes come.
use Rattle.std.specs.Prelude.{◌≡◌, ℕ, zero, suc, List, [], ◌∷◌, ◌++◌, take, true, false, cond, ◌==◌, refl}
use Rattle.std.proofs.Common.{sym, ◌∙◌, ap, subst}
use Rattle.std.proofs.lemmas.Bool.{ne_eqb}
use Rattle.u_base.proofs.PartsLaws.{alike, unlike, same_or}
use Rattle.u_base.specs.Pieces.{PiecesAndRest, onto, pieces}
use Rattle.u_base.proofs.PiecesLaws.{Free, glued, glued-pieces}

same : (c b : ℕ) (bs : List ℕ) → (b == c) ≡ true → pieces c (b ∷ bs) ≡ ([] ∷ (pieces c bs).0, (pieces c bs).1)
unfolding pieces
same c b bs h = ap (λ t. cond t ([] ∷ (pieces c bs).0, (pieces c bs).1) (onto b (pieces c bs))) h

other : (c b : ℕ) (bs : List ℕ) → (b == c) ≡ false → pieces c (b ∷ bs) ≡ onto b (pieces c bs)
unfolding pieces
other c b bs h = ap (λ t. cond t ([] ∷ (pieces c bs).0, (pieces c bs).1) (onto b (pieces c bs))) h

-- bytes in front of the first piece
abbrev pub before : List ℕ → PiecesAndRest → PiecesAndRest
before o p = elim p.0 [ [] ↦ ([], o ++ p.1) | l ∷ ls ↦ ((o ++ l) ∷ ls, p.1) ]

before_nil : (p : PiecesAndRest) → before [] p ≡ p
before_nil p = at p.0 p.1
  where
    at : (ls : List (List ℕ)) (r : List ℕ) → before [] (ls, r) ≡ (ls, r)
    at [] r = refl
    at (l ∷ ls) r = refl

onto_before : (b : ℕ) (o : List ℕ) (p : PiecesAndRest) → onto b (before o p) ≡ before (b ∷ o) p
onto_before b o p = at p.0 p.1
  where
    at : (ls : List (List ℕ)) (r : List ℕ) → onto b (before o (ls, r)) ≡ before (b ∷ o) (ls, r)
    at [] r = refl
    at (l ∷ ls) r = refl

pub pieces_before : (c : ℕ) (o bs : List ℕ) → Free c o → pieces c (o ++ bs) ≡ before o (pieces c bs)
pieces_before c [] bs f = sym (before_nil (pieces c bs))
pieces_before c (b ∷ o) bs f =
    other c b (o ++ bs) (ne_eqb b c f.0) ∙ ap (onto b) (pieces_before c o bs f.1) ∙ onto_before b o (pieces c bs)

-- the pieces of some bytes, and of what is behind them with the bytes that come
abbrev pub joined : ℕ → PiecesAndRest → List ℕ → PiecesAndRest
joined c p bs = (p.0 ++ (pieces c (p.1 ++ bs)).0, (pieces c (p.1 ++ bs)).1)

onto_joined : (c b : ℕ) (p : PiecesAndRest) (bs : List ℕ) → (b == c) ≡ false → onto b (joined c p bs) ≡ joined c (onto b p) bs
onto_joined c b p bs h = at p.0 p.1
  where
    at : (ls : List (List ℕ)) (r : List ℕ) → onto b (joined c (ls, r) bs) ≡ joined c (onto b (ls, r)) bs
    at [] r = sym (other c b (r ++ bs) h)
    at (l ∷ ls) r = refl

pub pieces_join : (c : ℕ) (a bs : List ℕ) → pieces c (a ++ bs) ≡ joined c (pieces c a) bs
unfolding pieces
pieces_join c [] bs = refl
pieces_join c (b ∷ a) bs =
    elim (same_or b c) [
      | alike e f ↦
          same c b (a ++ bs) f ∙ ap (λ p. ([] ∷ p.0, p.1)) (pieces_join c a bs) ∙ ap (λ p. joined c p bs) (sym (same c b a f))
      | unlike e f ↦
          other c b (a ++ bs) f ∙ ap (onto b) (pieces_join c a bs) ∙ onto_joined c b (pieces c a) bs f ∙ ap (λ p. joined c p bs) (sym (other c b a f))
    ]

-- each piece, and what is behind them, is free of the byte

abbrev pub AllFree : ℕ → List (List ℕ) → Type 0
AllFree c [] = Unit {0}
AllFree c (l ∷ ls) = Free c l × AllFree c ls

abbrev pub AreFree : ℕ → PiecesAndRest → Type 0
AreFree c p = AllFree c p.0 × Free c p.1

onto_free : (c b : ℕ) (p : PiecesAndRest) → (b ≡ c → ⊥) → AreFree c p → AreFree c (onto b p)
onto_free c b p n f = at p.0 p.1 f
  where
    at : (ls : List (List ℕ)) (r : List ℕ) → AreFree c (ls, r) → AreFree c (onto b (ls, r))
    at [] r f = (tt, (n, f.1))
    at (l ∷ ls) r f = (((n, f.0.0), f.0.1), f.1)

pub pieces_are_free : (c : ℕ) (bs : List ℕ) → AreFree c (pieces c bs)
unfolding pieces
pieces_are_free c [] = (tt, tt)
pieces_are_free c (b ∷ bs) =
    elim (same_or b c) [
      | alike e f ↦ let P : PiecesAndRest → Type 0 = AreFree c in subst P (sym (same c b bs f)) ((tt, (pieces_are_free c bs).0), (pieces_are_free c bs).1)
      | unlike e f ↦ let P : PiecesAndRest → Type 0 = AreFree c in subst P (sym (other c b bs f)) (onto_free c b (pieces c bs) e (pieces_are_free c bs))
    ]

-- one piece has the byte nowhere
pub free_of : (c : ℕ) (a : List ℕ) → pieces c a ≡ ([], a) → Free c a
free_of c a e = subst (Free c) (ap (λ p. p.1) e) (pieces_are_free c a).1

pub free_append : (c : ℕ) (a b : List ℕ) → Free c a → Free c b → Free c (a ++ b)
free_append c [] b f g = g
free_append c (x ∷ a) b f g = (f.0, free_append c a b f.1 g)

pub free_take : (c k : ℕ) (a : List ℕ) → Free c a → Free c (take k a)
free_take c zero a f = tt
free_take c (suc k) [] f = tt
free_take c (suc k) (x ∷ a) f = (f.0, free_take c k a f.1)

-- the first piece, taken off
pub first_cut : (c : ℕ) (bs first others : List ℕ) → pieces c bs ≡ (first ∷ (pieces c others).0, (pieces c others).1) → (bs ≡ first ++ (c ∷ others)) × Free c first
first_cut c bs first others e = (
  sym (glued-pieces c bs) ∙ ap (λ p. glued c p.0 p.1) e ∙ ap (λ t. first ++ (c ∷ t)) (glued-pieces c others),
  (subst (AreFree c) e (pieces_are_free c bs)).0.0,
)

-- Texts one after another.
use Rattle.std.proofs.Common.{◌≡◌, ℕ, ◌+◌, ◌<◌, List, [], ◌∷◌, ◌++◌, sym, ap, ◌∙◌, append_assoc, append-nil, length, take, get_or, map, refl, ◌≤◌}
use Rattle.std.proofs.lemmas.List.{take_more, take_all}
use Rattle.u_history.specs.Report.{texts}

module _ {X : Type 0} (f : X → List ℕ) where
  texts_append : (xs : List X) (x : X) → texts f (xs ++ x ∷ []) ≡ texts f xs ++ f x
  texts_append [] x = append-nil (f x)
  texts_append (y ∷ xs) x = ap (λ (t : List ℕ). f y ++ t) (texts_append xs x) ∙ sym (append_assoc (f y) (texts f xs) (f x))

  pub texts_more : (xs : List X) (i : ℕ) (x : X) (o old new : List ℕ) → i < length xs → x ≡ get_or xs i x → old ≡ o ++ texts f (take i xs) → new ≡ old ++ f x → new ≡ o ++ texts f (take (i + 1) xs)
  texts_more xs i x o old new l at p q = rw (take_more xs i x l, ← at, texts_append (take i xs) x, q, p) (append_assoc o (texts f (take i xs)) (f x))

module _ {X Y : Type 0} (f : Y → List ℕ) (g : X → Y) where
  texts_map : (xs : List X) → texts (λ (x : X). f (g x)) xs ≡ texts f (map g xs)
  texts_map [] = refl
  texts_map (x ∷ xs) = ap (λ (t : List ℕ). f (g x) ++ t) (texts_map xs)

  -- the texts of all, of what each says
  pub texts_of : (xs : List X) (i : ℕ) (o out : List ℕ) → length xs ≤ i → out ≡ o ++ texts (λ (x : X). f (g x)) (take i xs) → out ≡ o ++ texts f (map g xs)
  texts_of xs i o out l p = p ∙ ap (λ (t : List ℕ). o ++ t) (ap (λ (ys : List X). texts (λ (x : X). f (g x)) ys) (take_all i xs l) ∙ texts_map xs)

-- Lists that grow by one element at a time, and lists with the same images.
use Rattle.std.proofs.Common.{◌≡◌, ℕ, ◌<◌, ◌≤◌, List, [], ◌∷◌, ◌++◌, All, Result, Ok, Err, IfOk, map, take, drop, length, slice_index_or, refl, sym, subst, ap, ◌∙◌, ⊎_elim, arith}
use Rattle.std.proofs.Math.Seq.{get_or-append_seam, take-append_seam}
use Rattle.std.proofs.lemmas.Bool.{cases_lt}
use Rattle.std.proofs.lemmas.List.{get_or-map, get_or_append_left, length-append, length-map, map-append}
use Rattle.std.proofs.lemmas.List.Elements.{All-map}

-- what holds of each element and its place, and of one more
pub each_on : {A : Type 0} (R : ℕ → A → Type 0) (xs : List A) (x : A) → ((k : ℕ) (d : A) → k < length xs → R k (slice_index_or xs k d)) → R (length xs) x
    → (k : ℕ) (d : A) → k < length (xs ++ x ∷ []) → R k (slice_index_or (xs ++ x ∷ []) k d)
each_on R xs x each last k d small = ⊎_elim
    (λ (before : k < length xs). subst (λ y. R k y) (sym (get_or_append_left xs (x ∷ []) d k before)) (each k d before))
    (λ (at : length xs ≤ k).
    let same : length xs ≡ k = omega (arith, length-append xs (x ∷ []), small, at) in
    subst (λ n. R n (slice_index_or (xs ++ x ∷ []) n d)) same (subst (λ y. R (length xs) y) (sym (get_or-append_seam xs x [] d)) last))
    (cases_lt k (length xs))

-- a part that was lent and is written back, where it is all of the list
pub written_back : {A : Type 0} (n : ℕ) (part xs : List A) → length part ≡ length xs → n ≡ length xs → take n (part ++ drop (length part) xs) ≡ part
written_back n part xs long at = rw (at, ← long) (take-append_seam part (drop (length part) xs))

pub at_ok : {T E : Type 0} (r : Result T E) (P : Type 0) → P → IfOk r (λ _. P)
at_ok (Ok x) P p = p
at_ok (Err e) P p = tt

module _ {A B : Type 0} (f : A → B) where
  images_of : {C : Type 0} (h : B → C) (xs : List A) → map h (map f xs) ≡ map (λ x. h (f x)) xs
  images_of h [] = refl
  images_of h (x ∷ xs) = ap (λ zs. h (f x) ∷ zs) (images_of h xs)

  pub images_kept : {C : Type 0} (h : B → C) (xs ys : List A) → map f ys ≡ map f xs → map (λ x. h (f x)) ys ≡ map (λ x. h (f x)) xs
  images_kept h xs ys e = sym (images_of h ys) ∙ (ap (λ zs. map h zs) e ∙ images_of h xs)

  pub images_on : (xs : List A) (x : A) (zs : List B) (z : B) → map f xs ≡ zs → f x ≡ z → map f (xs ++ x ∷ []) ≡ zs ++ z ∷ []
  images_on xs x zs z e h = map-append f xs (x ∷ []) ∙ (ap (λ ys. ys ++ f x ∷ []) e ∙ ap (λ y. zs ++ y ∷ []) h)

  -- where all images have a property, each element has it of its image
  pub all_of_map : (Q : B → Type 0) (xs : List A) (zs : List B) → map f xs ≡ zs → All Q zs → All (λ x. Q (f x)) xs
  all_of_map Q xs zs e all i d small =
      subst (λ y. Q y) (get_or-map f xs i d (f d) small) (subst (λ ys. Q (slice_index_or ys i (f d))) (sym e) (all i (f d) (subst (λ n. i < n) (sym (length-map xs f) ∙ ap length e) small)))

  -- lists with the same images
  pub length_kept : (xs ys : List A) → map f ys ≡ map f xs → length ys ≡ length xs
  length_kept xs ys e = sym (length-map ys f) ∙ (ap length e ∙ length-map xs f)

  pub all_kept : (Q : B → Type 0) (xs ys : List A) → map f ys ≡ map f xs → All (λ x. Q (f x)) xs → All (λ y. Q (f y)) ys
  all_kept Q xs ys e all = all_of_map Q ys (map f xs) e (All-map Q f xs all)

  pub each_kept : (xs ys : List A) → map f ys ≡ map f xs → (i : ℕ) (d : A) → i < length ys → f (slice_index_or ys i d) ≡ f (slice_index_or xs i d)
  each_kept xs ys e i d small =
      sym (get_or-map f ys i d (f d) small) ∙ (ap (λ zs. slice_index_or zs i (f d)) e ∙ get_or-map f xs i d (f d) (subst (λ n. i < n) (length_kept xs ys e) small))

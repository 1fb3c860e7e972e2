-- Each step keeps the rule over a published list: a new seat, a publication or a look, a notice and who learns it.
use Rattle.std.proofs.Common.{◌≡◌, ℕ, ◌≢◌, List, [], ◌∷◌, ◌++◌, fold, set, refl, sym, subst, ap, ◌∙◌, ⊎_elim}
use Rattle.std.proofs.lemmas.List.{append_assoc, append-nil}
use mathlib.Core.Option.{some}
use lib.ListN.{get_elem?}
use Rattle.crossbeam_utils.specs.Register.{Admits, TurnsAt, Forks, Merges}
use Rattle.atomic_table.proofs.Lists.{at_set, at_snoc}
use Rattle.u_outlet.specs.Fronts.{StartsWith, StartsWithEach, joined}

module _ {X : Type 0} where
  pub starts_same : (xs : List X) → StartsWith xs xs
  starts_same xs = ([], sym (append-nil xs))

  pub starts_trans : (xs ys zs : List X) → StartsWith ys xs → StartsWith zs ys → StartsWith zs xs
  starts_trans xs ys zs p q = (p.0 ++ q.0, q.1 ∙ (ap (λ front. front ++ q.0) p.1 ∙ append_assoc xs p.0 q.0))

  -- a new seat knows of nothing
  pub admits : Admits (StartsWithEach {X = X}) []
  admits shown known each seat front at = ⊎_elim (each seat front) (λ (e : [] ≡ front). subst (λ zs. StartsWith shown zs) e (shown, refl)) (at_snoc known [] front seat at)

  -- a seat knows the whole list, which has grown or not
  pub grows : (seat : ℕ) (front before after : List X) → StartsWith after before → TurnsAt (StartsWithEach {X = X}) seat front before after (λ front _ after now. StartsWith after front × (now ≡ after))
  grows seat front before after up known each at = (
    after,
    (λ other u e. ⊎_elim
        (λ (t : (other ≡ seat) × (after ≡ u)). subst (λ zs. StartsWith after zs) t.1 (starts_same after))
        (λ (t : (other ≢ seat) × (get_elem? known other ≡ some u)). starts_trans u before after (each other u t.1) up)
        (at_set known seat other after u e)),
    (starts_trans front before after (each seat front at) up, refl),
  )

  set_starts : (shown : List X) (known : List (List X)) (seat : ℕ) (front : List X) → StartsWithEach shown known → StartsWith shown front → StartsWithEach shown (set known seat front)
  set_starts shown known seat front each low other u e = ⊎_elim
      (λ (t : (other ≡ seat) × (front ≡ u)). subst (λ zs. StartsWith shown zs) t.1 low)
      (λ (t : (other ≢ seat) × (get_elem? known other ≡ some u)). each other u t.1)
      (at_set known seat other front u e)

  -- a notice has what the writer knows
  pub forks : (seat : ℕ) (front : List X) → Forks (StartsWithEach {X = X}) seat front front front
  forks seat front shown known each at other u e = ⊎_elim
      (set_starts shown known seat front each (each seat front at) other u)
      (λ (same : front ≡ u). subst (λ zs. StartsWith shown zs) same (each seat front at))
      (at_snoc (set known seat front) front u other e)

  -- who learns it knows what it has
  pub merges : (seat : ℕ) (front : List X) (other : ℕ) (told : List X) → Merges (StartsWithEach {X = X}) seat front other told told []
  merges seat front other told shown known each at apart there =
      let low : StartsWith shown told = ⊎_elim
      (λ (t : (other ≡ seat) × (told ≡ told)). absurd (apart t.0))
      (λ (t : (other ≢ seat) × (get_elem? known other ≡ some told)). each other told t.1)
      (at_set known seat other told told there) in
      set_starts shown (set known seat told) other [] (set_starts shown known seat told each low) (shown, refl)

  -- all batches of a log, applied to what was shown
  pub fold_joined : (xs : List X) (batches : List (List X)) → fold (λ front batch. front ++ batch) xs batches ≡ xs ++ joined batches
  fold_joined xs [] = sym (append-nil xs)
  fold_joined xs (batch ∷ batches) = fold_joined (xs ++ batch) batches ∙ append_assoc xs batch (joined batches)

  pub joined-snoc : (batches : List (List X)) (batch : List X) → joined (batches ++ batch ∷ []) ≡ joined batches ++ batch
  joined-snoc [] batch = append-nil batch
  joined-snoc (first ∷ batches) batch = ap (λ zs. first ++ zs) (joined-snoc batches batch) ∙ sym (append_assoc first (joined batches) batch)

-- Places in what a test leaves of a list, and picks among those in a mask.
use Rattle.std.proofs.Common.{◌≡◌, ◌+◌, ◌%◌, ◌++◌, ◌∙◌, ◌⊎◌, inl, inr, ℕ, Bool, true, false, cond, List, [], ◌∷◌, length, refl, sym, ap, subst, Some}
use Rattle.std.specs.Prelude.{filter, slice_get, Contains, IsTrue}
use Rattle.std.proofs.Math.Nat.{mod-eq_of_lt, add-mod_left}
use Rattle.std.proofs.lemmas.List.Elements.{filter-append}
use Rattle.u_base.proofs.Member.{Contains-nil, Contains-head, Contains-tail, Contains-cons_cases}
use Rattle.u_rule.specs.declared.firing.Firing.{Firing}
use Rattle.u_machine.specs.State.{State, Taken, AreReady, IsReadyIn}
use Rattle.u_machine.specs.Masks.{is_in, those_in}
use Rattle.u_machine.proofs.Lists.{slice_get_Contains}
use Rattle.u_machine.proofs.Going.{slice_get_below}

module _ {X : Type 0} (p : X → Bool) where
  kept_or_not : (b : Bool) (x y : X) (rest : List X) → p x ≡ b → Contains (cond b (x ∷ rest) rest) y → ((x ≡ y) × IsTrue (p x)) ⊎ Contains rest y
  kept_or_not true x y rest e m = elim (Contains-cons_cases x y rest m) [ inl q ↦ inl (q, e) | inr k ↦ inr k ]
  kept_or_not false x y rest e m = inr m

  -- what a test leaves is of the list, and passes
  pub from_filter : (xs : List X) (y : X) → Contains (filter p xs) y → Contains xs y × IsTrue (p y)
  from_filter [] y m = absurd (Contains-nil y m)
  from_filter (x ∷ xs) y m = elim (kept_or_not (p x) x y (filter p xs) refl m) [
    | inl q ↦ subst (λ (z : X). Contains (x ∷ xs) z × IsTrue (p z)) q.0 (Contains-head x xs, q.1)
    | inr k ↦ (let r = from_filter xs y k in (Contains-tail x y xs r.0, r.1))
  ]

  kept : (b : Bool) (x : X) (rest : List X) → IsTrue b → Contains (cond b (x ∷ rest) rest) x
  kept true x rest e = Contains-head x rest
  kept false x rest e = absurd (cc)

  kept_behind : (b : Bool) (x y : X) (rest : List X) → Contains rest y → Contains (cond b (x ∷ rest) rest) y
  kept_behind true x y rest m = Contains-tail x y rest m
  kept_behind false x y rest m = m

  -- and what passes is left
  pub to_filter : (xs : List X) (y : X) → Contains xs y → IsTrue (p y) → Contains (filter p xs) y
  to_filter [] y m e = absurd (Contains-nil y m)
  to_filter (x ∷ xs) y m e = elim (Contains-cons_cases x y xs m) [
    | inl q ↦ subst (λ (z : X). Contains (cond (p x) (x ∷ filter p xs) (filter p xs)) z) q (kept (p x) x (filter p xs) (subst (λ (z : X). IsTrue (p z)) (sym q) e))
    | inr k ↦ kept_behind (p x) x y (filter p xs) (to_filter xs y k e)
  ]

  at_end : (ys zs : List X) (x : X) → slice_get (ys ++ x ∷ zs) (length ys) ≡ Some x
  at_end [] zs x = refl
  at_end (y ∷ ys) zs x = at_end ys zs x

  -- what passes stands behind those that pass before it
  pub found_at : (xs rest : List X) (x : X) (k : ℕ) → p x ≡ true → length (filter p xs) ≡ k → slice_get (filter p (xs ++ x ∷ rest)) k ≡ Some x
  found_at xs rest x k e len =
      let split : filter p (xs ++ x ∷ rest) ≡ filter p xs ++ x ∷ filter p rest = filter-append p xs (x ∷ rest) ∙ ap (λ t. filter p xs ++ t) (rw e refl) in
      rw (split, ← len) (at_end (filter p xs) (filter p rest) x)

-- a place of a list is that place, modulo the list's length
pub picked_once : {X : Type 0} (ys : List X) (pick : ℕ) (x : X) → slice_get ys pick ≡ Some x → slice_get ys (pick % length ys) ≡ Some x
picked_once ys pick x e = subst (λ (k : ℕ). slice_get ys k ≡ Some x) (sym (mod-eq_of_lt (slice_get_below ys pick x e))) e

-- and so is what is left of it once the list's length is taken away
pub picked_again : {X : Type 0} (ys : List X) (pick left : ℕ) (x : X) → length ys + left ≡ pick → slice_get ys (left % length ys) ≡ Some x → slice_get ys (pick % length ys) ≡ Some x
picked_again ys pick left x e at = subst (λ (k : ℕ). slice_get ys (k % length ys) ≡ Some x) e (subst (λ (k : ℕ). slice_get ys k ≡ Some x) (sym (add-mod_left (length ys) left)) at)

-- where none of the ready firings is in the mask, no ready firing is
pub none_ready_in : (m : State) (buckets : ℕ) (ready : List Firing) → AreReady m ready → those_in buckets ready ≡ [] → (f : Firing) → IsReadyIn m buckets f → ⊥
none_ready_in m buckets ready are none f (is_ready, inside) = over (are.1 f is_ready.0)
  where
    over : Contains ready f ⊎ Taken m f → ⊥
    over (inl k) = Contains-nil f (rw none at (to_filter (is_in buckets) ready f k inside))
    over (inr t) = is_ready.1 t

-- what stands among those in the mask is a ready firing in the mask
pub ready_in : (m : State) (buckets : ℕ) (ready : List Firing) (place : ℕ) (f : Firing) → AreReady m ready → slice_get (those_in buckets ready) place ≡ Some f → IsReadyIn m buckets f
ready_in m buckets ready place f are at =
    let k = from_filter (is_in buckets) ready f (slice_get_Contains (those_in buckets ready) place f at) in
    (are.0 f k.0, k.1)

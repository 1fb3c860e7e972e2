-- What a set of entries holds, as those that some firings give are put in.
use Rattle.std.proofs.Common.{◌≡◌, ◌↔◌, ◌⊎◌, inl, inr, ℕ, ◌<◌, ◌≤◌, ◌+◌, List, [], ◌∷◌, ◌++◌, sym, subst, take, length, get_or, Contains}
use Rattle.std.proofs.lemmas.List.{take_more, take_all}
use Rattle.std.proofs.lemmas.List.Elements.{Contains-append_cases, Contains-append_left, Contains-append_right}
use Rattle.std.specs.Prelude.{Result, Ok, Err, IfOk}
use Rattle.std.specs.declared.cmp.Ordering.{Ordering}
use Rattle.u_sets.specs.Members.{IsWith}
use Rattle.u_sets.specs.Rising.{Rises, IsListOf}
use Rattle.u_base.specs.Firing.{System, Held}
use Rattle.u_base.proofs.Held.{Held-push, Held-nil}
use Rattle.u_base.proofs.Member.{Contains-nil, Contains-head, Contains-cons_cases}

module _ {X : Type 0} where
  -- the set has the old members, and those of the list
  abbrev pub IsUnion : List X → List X → List X → Type 0
  IsUnion old xs new = (e : X) → Contains new e ↔ (Contains old e ⊎ Contains xs e)

  pub none_put : (old : List X) → IsUnion old [] old
  none_put old e = (λ m. inl m, λ h. elim h [ inl m ↦ m | inr n ↦ absurd (Contains-nil e n) ])

  pub one_put : (old mid new xs : List X) (i : ℕ) (x : X) → i < length xs → x ≡ get_or xs i x → IsWith mid x new → IsUnion old (take i xs) mid → IsUnion old (take (i + 1) xs) new
  one_put old mid new xs i x l q w before e = rw (take_more xs i x l, ← q) (to, back)
    where
      to : Contains new e → Contains old e ⊎ Contains (take i xs ++ x ∷ []) e
      to m =
          elim ((w e).0 m) [
            | inl a ↦ elim ((before e).0 a) [ inl o ↦ inl o | inr t ↦ inr (Contains-append_left (take i xs) (x ∷ []) e t) ]
            | inr p ↦ inr (Contains-append_right (take i xs) (x ∷ []) e (subst (λ (y : X). Contains (x ∷ []) y) p (Contains-head x [])))
          ]

      back : Contains old e ⊎ Contains (take i xs ++ x ∷ []) e → Contains new e
      back (inl o) = (w e).1 (inl ((before e).1 (inl o)))
      back (inr t) =
          elim (Contains-append_cases (take i xs) (x ∷ []) e t) [
            | inl a ↦ (w e).1 (inl ((before e).1 (inr a)))
            | inr b ↦ elim (Contains-cons_cases x e [] b) [ inl p ↦ (w e).1 (inr p) | inr n ↦ absurd (Contains-nil e n) ]
          ]

  pub all_put : (old new xs : List X) (i : ℕ) → length xs ≤ i → IsUnion old (take i xs) new → IsUnion old xs new
  all_put old new xs i h before e = rw (take_all i xs h) at (before e)

module _ {E F : Type 0} (s : System E F) where
  pub start_held : (fs : List F) (old new : List E) → old ≡ [] → IsWith old s.start new → (e : E) → Contains new e ↔ Held s (take 0 fs) e
  start_held fs old new q w e = (to, back)
    where
      to : Contains new e → Held s [] e
      to m = elim ((w e).0 m) [ inl o ↦ absurd (Contains-nil e (subst (λ (xs : List E). Contains xs e) q o)) | inr p ↦ inl (sym p) ]

      back : Held s [] e → Contains new e
      back h = (w e).1 (inr (sym (Held-nil s e h)))

  pub more_held : (fs : List F) (i : ℕ) (f : F) (old new : List E) → i < length fs → f ≡ get_or fs i f → IsUnion old (s.gives f) new
      → ((e : E) → Contains old e ↔ Held s (take i fs) e) → (e : E) → Contains new e ↔ Held s (take (i + 1) fs) e
  more_held fs i f old new l q u before e = rw (take_more fs i f l, ← q) (to, back)
    where
      to : Contains new e → Held s (take i fs ++ f ∷ []) e
      to m = (Held-push s (take i fs) f e).1 (elim ((u e).0 m) [ inl a ↦ inl ((before e).0 a) | inr b ↦ inr b ])

      back : Held s (take i fs ++ f ∷ []) e → Contains new e
      back h = (u e).1 (elim ((Held-push s (take i fs) f e).0 h) [ inl a ↦ inl ((before e).1 a) | inr b ↦ inr b ])

  pub all_held : (fs : List F) (i : ℕ) (all : List E) → length fs ≤ i → ((e : E) → Contains all e ↔ Held s (take i fs) e) → (e : E) → Contains all e ↔ Held s fs e
  all_held fs i all h before e = rw (take_all i fs h) at (before e)

-- what is copied from a list in order is the list of its members
pub listed : {V A E : Type 0} (items : V → List E) (R : E → E → Ordering) (P : E → Type 0) (all : List E) (r : Result V A) → IfOk r (λ v. items v ≡ all) → Rises R all → ((e : E) → Contains all e ↔ P e) → IfOk r (λ v. IsListOf R P (items v))
listed {E = E} items R P all (Ok v) q up each = subst (λ (xs : List E). IsListOf R P xs) (sym q) (record { rises = up; exact = each })
listed items R P all (Err a) q up each = tt

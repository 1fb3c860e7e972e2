-- A list that is gathered by going over another.
use Rattle.std.proofs.Common.{ℕ, ◌<◌, ◌≤◌, ◌+◌, List, [], ◌∷◌, ◌++◌, ◌⊎◌, inl, inr, sym, subst, take, length, get_or}
use Rattle.std.specs.Prelude.{Contains, ◌↔◌}
use Rattle.std.proofs.lemmas.List.{take_more, take_all}
use Rattle.std.proofs.lemmas.List.Elements.{Contains-append_left, Contains-push, Contains-push_cases}
use Rattle.u_sets.specs.Members.{SomeOf}
use Rattle.u_base.proofs.Member.{Contains-nil}

module _ {Y F : Type 0} (P : Y → F → Type 0) (start : List F) where
  pub scan_none : (ys : List Y) (f : F) → Contains start f ↔ (Contains start f ⊎ SomeOf (take 0 ys) P f)
  scan_none ys f = ((λ m. inl m), back)
    where
      back : Contains start f ⊎ SomeOf (take 0 ys) P f → Contains start f
      back (inl m) = m
      back (inr (y, m, p)) = absurd (Contains-nil y m)

  pub scan_more : (ys : List Y) (i : ℕ) (d : Y) (old new : List F) → i < length ys → ((f : F) → Contains old f ↔ (Contains start f ⊎ SomeOf (take i ys) P f)) → ((f : F) → Contains new f ↔ (Contains old f ⊎ P (get_or ys i d) f)) → (f : F) → Contains new f ↔ (Contains start f ⊎ SomeOf (take (i + 1) ys) P f)
  scan_more ys i d old new below before step f = rw (take_more ys i d below) ((λ m. to ((step f).0 m)), back)
    where
      widen : Contains start f ⊎ SomeOf (take i ys) P f → Contains start f ⊎ SomeOf (take i ys ++ get_or ys i d ∷ []) P f
      widen (inl m) = inl m
      widen (inr (y, m, p)) = inr (y, Contains-append_left (take i ys) (get_or ys i d ∷ []) y m, p)

      to : Contains old f ⊎ P (get_or ys i d) f → Contains start f ⊎ SomeOf (take i ys ++ get_or ys i d ∷ []) P f
      to (inl m) = widen ((before f).0 m)
      to (inr p) = inr (get_or ys i d, Contains-push (take i ys) (get_or ys i d), p)

      back : Contains start f ⊎ SomeOf (take i ys ++ get_or ys i d ∷ []) P f → Contains new f
      back (inl m) = (step f).1 (inl ((before f).1 (inl m)))
      back (inr (y, m, p)) =
          elim (Contains-push_cases (take i ys) (get_or ys i d) y m)
          [ inl a ↦ (step f).1 (inl ((before f).1 (inr (y, a, p)))) | inr e ↦ (step f).1 (inr (subst (λ (z : Y). P z f) (sym e) p)) ]

  pub scan_all : (ys : List Y) (i : ℕ) (old : List F) → length ys ≤ i → ((f : F) → Contains old f ↔ (Contains start f ⊎ SomeOf (take i ys) P f)) → (f : F) → Contains old f ↔ (Contains start f ⊎ SomeOf ys P f)
  scan_all ys i old h all f = rw (take_all i ys h) at (all f)

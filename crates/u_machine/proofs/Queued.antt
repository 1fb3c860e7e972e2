-- Priority queues: lists that rise, of a front and a run behind it.
use Rattle.std.proofs.Common.{◌≡◌, inl, inr, ℕ, zero, suc, ◌-◌, ◌<◌, List, [], ◌∷◌, ◌++◌, length, refl, sym, ap, subst, ◌∙◌, Ordering, arith, append_assoc, Some, None, Option, option_to_list, IfSome, get_or, slice_get}
use Rattle.std.specs.Prelude.{Contains}
use Rattle.std.specs.Cmp.{IsTotalOrder}
use Rattle.std.specs.List.{HoldsAt}
use Rattle.u_base.specs.Exact.{IsExact}
use Rattle.std.specs.declared.cmp.Ordering.TheVariants.{Less, Equal}
use Rattle.std.proofs.lemmas.List.Elements.{Contains-get_or, Contains-append_left, Contains-append_right, Contains-append_cases}
use Rattle.u_base.proofs.Member.{Contains-nil, Contains-head, Contains-cons_cases}
use Rattle.u_sets.specs.Rising.{Rises}
use Rattle.u_sets.specs.Members.{IsWith, IsWithout, TakesLast}
use Rattle.u_sets.proofs.Places.{one_list}
use Rattle.u_sets.proofs.Fronted.{front_rises, across, joined, apart, taken_out, rises_before, with_front, without_front, at_place}
use Rattle.u_machine.proofs.Turned.{last_is, pushed}
use Rattle.u_machine.specs.Queues.{IsBelow, IsAbove, IsBelowSome, MovesLast}

module _ {X : Type 0} where
  same_last : (xs rest : List X) (x y : X) → Some x ≡ slice_get xs (length xs - 1) → xs ≡ rest ++ y ∷ [] → x ≡ y
  same_last xs rest x y h e = let k : Some x ≡ Some y = h ∙ last_is xs ∙ ap (λ (zs : List X). slice_get zs 0) (pushed rest xs y e) in cc

  -- one more behind all
  pub with_last : (a : List X) (x : X) → IsWith a x (a ++ x ∷ [])
  with_last a x y = (
    (λ m. elim (Contains-append_cases a (x ∷ []) y m) [
      | inl k ↦ inl k
      | inr n ↦ elim (Contains-cons_cases x y [] n) [ inl q ↦ inr q | inr k ↦ absurd (Contains-nil y k) ]
    ]),
    λ s. elim s [
      | inl k ↦ Contains-append_left a (x ∷ []) y k
      | inr q ↦ subst (λ (z : X). Contains (a ++ x ∷ []) z) q (Contains-append_right a (x ∷ []) x (Contains-head x []))
    ],
  )

  -- what the whole has then
  pub least_taken : (a b new items rest : List X) → TakesLast a items new rest → TakesLast (a ++ b) items (new ++ b) rest
  least_taken a b new items rest t = record { last = t.last; was = t.was; with = with_front a b new t.last t.with }

  pub last_moved : (a b new items rest : List X) → MovesLast b items new rest → TakesLast (a ++ b) items (a ++ new) rest
  last_moved a b new items rest t = record {
    last = t.last;
    was = t.was;
    with = subst (λ (l : List X). IsWith (a ++ b) t.last l) (append_assoc a b (t.last ∷ []) ∙ ap (λ (l : List X). a ++ l) (sym t.is)) (with_last (a ++ b) t.last);
  }

  -- what is not there is not taken out
  pub none_out : (a : List X) (x : X) → (Contains a x → ⊥) → IsWithout a x a
  none_out a x n = record { less = λ y m. m; gone = n; rest = λ y m. inr m }

module _ {X : Type 0} (R : X → X → Ordering) (o : IsTotalOrder R) where
  -- what is greater than the last one is greater than all
  pub above_last : (xs : List X) (k : ℕ) (v x : X) → length xs ≡ suc k → v ≡ get_or xs k v → Rises R xs → R v x ≡ Less → IsAbove R x xs
  above_last [] k v x l e r h y m = absurd (omega (arith, l))
  above_last (z ∷ []) zero v x l e r h y m = elim (Contains-cons_cases z y [] m) [
    | inl q ↦ subst (λ (w : X). R w x ≡ Less) (e ∙ q) h
    | inr n ↦ absurd (Contains-nil y n)
  ]
  above_last (z ∷ w ∷ xs) zero v x l e r h y m = absurd (omega (arith, l))
  above_last (z ∷ xs) (suc k) v x l e r h y m =
      let there : Contains xs v = subst (λ (w : X). Contains xs w) (sym e) (Contains-get_or xs k v (omega (arith, l))) in
      elim (Contains-cons_cases z y xs m) [
        | inl q ↦ subst (λ (w : X). R w x ≡ Less) q (o.trans z v x (r.0 v there) h)
        | inr n ↦ above_last xs k v x (omega (arith, l)) e r.1 h y n
      ]

  -- what is less than one in front is less than all of the run
  pub below_run : (a b : List X) (x : X) → Rises R (a ++ b) → IsBelowSome R x a → IsBelow R x b
  below_run a b x r (z, m, h) y n = o.trans x z y h (across R o a b r z y m n)

  -- what is greater than a run that has some is greater than all
  pub above_both : (a b : List X) (x : X) → Rises R (a ++ b) → 0 < length b → IsAbove R x b → IsAbove R x (a ++ b)
  above_both a [] x r l h y m = absurd (omega (arith, l))
  above_both a (z ∷ b) x r l h y m = elim (Contains-append_cases a (z ∷ b) y m) [
    | inl n ↦ o.trans y z x (across R o a (z ∷ b) r y z n (Contains-head z b)) (h z (Contains-head z b))
    | inr n ↦ h y n
  ]

  -- the first one of the run goes to the end of the front
  pub moved_first : (a b new rest : List X) (x : X) → b ≡ x ∷ rest → Rises R (a ++ b) → Rises R new → IsWith a x new → new ++ rest ≡ a ++ b
  moved_first a b new rest x e r s w =
      let whole : a ++ b ≡ (a ++ x ∷ []) ++ rest = ap (λ (t : List X). a ++ t) e ∙ sym (append_assoc a (x ∷ []) rest) in
      let up : Rises R (a ++ x ∷ []) = front_rises R o (a ++ x ∷ []) rest (subst (λ (t : List X). Rises R t) whole r) in
      let same : new ≡ a ++ x ∷ [] = one_list R o new (a ++ x ∷ []) s up (λ y. (
        (λ m. elim ((w y).0 m) [
          | inl k ↦ Contains-append_left a (x ∷ []) y k
          | inr q ↦ subst (λ (z : X). Contains (a ++ x ∷ []) z) q (Contains-append_right a (x ∷ []) x (Contains-head x []))
        ]),
        λ m. (w y).1 (elim (Contains-append_cases a (x ∷ []) y m) [
          | inl k ↦ inl k
          | inr n ↦ elim (Contains-cons_cases x y [] n) [ inl q ↦ inr q | inr k ↦ absurd (Contains-nil y k) ]
        ]),
      )) in
      ap (λ (t : List X). t ++ rest) same ∙ sym whole

  -- what goes behind all
  pub rises_last : (a b : List X) (x : X) → Rises R (a ++ b) → IsAbove R x (a ++ b) → Rises R (a ++ (b ++ x ∷ []))
  rises_last a b x r h =
      subst (λ (t : List X). Rises R t) (append_assoc a b (x ∷ []))
      (joined R o (a ++ b) (x ∷ []) r ((λ y m. absurd (Contains-nil y m)), tt) (λ y z m n. elim (Contains-cons_cases x z [] n) [
        | inl e ↦ subst (λ (w : X). R y w ≡ Less) e (h y m)
        | inr k ↦ absurd (Contains-nil z k)
      ]))

  -- the first one of the front is taken out
  pub first_out : (b : List X) (p : Option X) (old new : List X) → Rises R (old ++ b) → IfSome p (λ x. old ≡ x ∷ new) → IfSome p (λ x. IsWithout (old ++ b) x (new ++ b))
  first_out b None old new r e = tt
  first_out b (Some x) old new r e =
      subst (λ (l : List X). IsWithout (l ++ b) x (new ++ b)) (sym e) (taken_out R o (x ∷ (new ++ b)) 0 x (subst (λ (l : List X). Rises R (l ++ b)) e r) refl)

  -- or of the run, where nothing is in front
  pub first_out_of : (a : List X) (p : Option X) (old new : List X) → a ≡ [] → Rises R (a ++ old) → old ≡ option_to_list p ++ new → IfSome p (λ x. IsWithout (a ++ old) x (a ++ new))
  first_out_of a None old new n r e = tt
  first_out_of a (Some x) old new n r e =
      subst (λ (l : List X). IsWithout (l ++ old) x (l ++ new)) (sym n)
      (subst (λ (l : List X). IsWithout l x new) (sym e) (taken_out R o (x ∷ new) 0 x (subst (λ (l : List X). Rises R l) e (subst (λ (l : List X). Rises R (l ++ old)) n r)) refl))

  -- the last item of a list goes among the least ones
  pub rises_least : (a b new items rest : List X) (x : X) → Rises R (a ++ b) → Rises R new → Some x ≡ slice_get items (length items - 1) → IsBelow R x b → TakesLast a items new rest → Rises R (new ++ b)
  rises_least a b new items rest x r s e h t =
      rises_before R o a b new t.last r s t.with (λ y m. subst (λ (z : X). R z y ≡ Less) (same_last items rest x t.last e t.was) (h y m))

  -- or behind all
  pub rises_moved : (a b new items rest : List X) (x : X) → Rises R (a ++ b) → Some x ≡ slice_get items (length items - 1) → IsAbove R x (a ++ b) → MovesLast b items new rest → Rises R (a ++ new)
  rises_moved a b new items rest x r e h t =
      subst (λ (l : List X). Rises R (a ++ l)) (sym t.is)
      (rises_last a b t.last r (λ y m. subst (λ (z : X). R y z ≡ Less) (same_last items rest x t.last e t.was) (h y m)))

  -- one less in front
  pub out_of_front : (a b new : List X) (x : X) → Rises R (a ++ b) → Contains a x → IsWithout a x new → IsWithout (a ++ b) x (new ++ b)
  out_of_front a b new x r m w = without_front a b new x (λ n. apart R o a b r x m n) w

  -- the place where an item is
  pub found_at : IsExact R → (xs : List X) (i : ℕ) (x : X) → i < length xs → HoldsAt (λ y. R y x ≡ Equal) xs i → slice_get xs i ≡ Some x
  found_at exact xs i x l h = at_place xs i x l (sym (exact (get_or xs i x) x (h x)))

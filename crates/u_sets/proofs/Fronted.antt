-- Lists that rise, of a front and of others behind it.
use Rattle.std.proofs.Common.{◌≡◌, ◌⊎◌, inl, inr, ◌↔◌, ℕ, zero, suc, ◌+◌, ◌<◌, ◌≤◌, Bool, true, false, List, [], ◌∷◌, ◌++◌, length, refl, sym, ap, subst, ◌∙◌, Ordering, arith, append_assoc, Some, get_or, IsTrue}
use Rattle.std.specs.Prelude.{Contains, remove, slice_get}
use Rattle.std.specs.Cmp.{IsTotalOrder}
use Rattle.std.specs.Ordering.{is_le}
use Rattle.u_sets.proofs.Sorted.{turn_greater}
use Rattle.std.specs.declared.cmp.Ordering.TheVariants.{Less, Equal, Greater}
use Rattle.std.proofs.lemmas.List.{length-append}
use Rattle.std.proofs.lemmas.List.Edits.{length-remove}
use Rattle.std.proofs.lemmas.List.Elements.{Contains-append_left, Contains-append_right, Contains-append_cases}
use Rattle.u_base.proofs.Member.{Contains-nil, Contains-head, Contains-tail, Contains-cons_cases}
use Rattle.u_sets.specs.Rising.{Rises}
use Rattle.u_sets.specs.Members.{IsWith, IsWithout}
use Rattle.u_sets.specs.Fronted.{IsFronted}
use Rattle.u_sets.proofs.Places.{one_list, irreflexive}

module _ {X : Type 0} where
  -- another in the front
  pub with_front : (a b new : List X) (x : X) → IsWith a x new → IsWith (a ++ b) x (new ++ b)
  with_front a b new x w z = (to, back)
    where
      to : Contains (new ++ b) z → Contains (a ++ b) z ⊎ (x ≡ z)
      to m = elim (Contains-append_cases new b z m) [
        | inl n ↦ elim ((w z).0 n) [ inl k ↦ inl (Contains-append_left a b z k) | inr e ↦ inr e ]
        | inr n ↦ inl (Contains-append_right a b z n)
      ]

      back : Contains (a ++ b) z ⊎ (x ≡ z) → Contains (new ++ b) z
      back (inl m) = elim (Contains-append_cases a b z m) [
        | inl n ↦ Contains-append_left new b z ((w z).1 (inl n))
        | inr n ↦ Contains-append_right new b z n
      ]
      back (inr e) = Contains-append_left new b z ((w z).1 (inr e))

  -- another among the others
  pub with_others : (a b new : List X) (x : X) → IsWith b x new → IsWith (a ++ b) x (a ++ new)
  with_others a b new x w z = (to, back)
    where
      to : Contains (a ++ new) z → Contains (a ++ b) z ⊎ (x ≡ z)
      to m = elim (Contains-append_cases a new z m) [
        | inl n ↦ inl (Contains-append_left a b z n)
        | inr n ↦ elim ((w z).0 n) [ inl k ↦ inl (Contains-append_right a b z k) | inr e ↦ inr e ]
      ]

      back : Contains (a ++ b) z ⊎ (x ≡ z) → Contains (a ++ new) z
      back (inl m) = elim (Contains-append_cases a b z m) [
        | inl n ↦ Contains-append_left a new z n
        | inr n ↦ Contains-append_right a new z ((w z).1 (inl n))
      ]
      back (inr e) = Contains-append_right a new z ((w z).1 (inr e))

  -- one less in the front
  pub without_front : (a b new : List X) (x : X) → (Contains b x → ⊥) → IsWithout a x new → IsWithout (a ++ b) x (new ++ b)
  without_front a b new x n w = record {
    less = λ z m. elim (Contains-append_cases new b z m) [ inl k ↦ Contains-append_left a b z (w.less z k) | inr k ↦ Contains-append_right a b z k ];
    gone = λ m. elim (Contains-append_cases new b x m) [ inl k ↦ w.gone k | inr k ↦ n k ];
    rest = λ z m. elim (Contains-append_cases a b z m) [
      | inl k ↦ elim (w.rest z k) [ inl e ↦ inl e | inr j ↦ inr (Contains-append_left new b z j) ]
      | inr k ↦ inr (Contains-append_right new b z k)
    ];
  }

  -- one less among the others
  pub without_others : (a b new : List X) (x : X) → (Contains a x → ⊥) → IsWithout b x new → IsWithout (a ++ b) x (a ++ new)
  without_others a b new x n w = record {
    less = λ z m. elim (Contains-append_cases a new z m) [ inl k ↦ Contains-append_left a b z k | inr k ↦ Contains-append_right a b z (w.less z k) ];
    gone = λ m. elim (Contains-append_cases a new x m) [ inl k ↦ n k | inr k ↦ w.gone k ];
    rest = λ z m. elim (Contains-append_cases a b z m) [
      | inl k ↦ inr (Contains-append_left a new z k)
      | inr k ↦ elim (w.rest z k) [ inl e ↦ inl e | inr j ↦ inr (Contains-append_right a new z j) ]
    ];
  }

  pub only_fronted : (R : X → X → Ordering) (a b only : List X) (k : X) → a ++ b ≡ [] → only ≡ k ∷ a → IsFronted R only b
  only_fronted R [] [] only k e f = subst (λ (l : List X). IsFronted R l []) (sym f) (record {
    rises = ((λ y m. absurd (Contains-nil y m)), tt);
    few = omega arith;
  })
  only_fronted R [] (y ∷ b) only k e f = absurd (cc)
  only_fronted R (x ∷ a) b only k e f = absurd (cc)

module _ {X : Type 0} (R : X → X → Ordering) (o : IsTotalOrder R) where
  pub front_rises : (a b : List X) → Rises R (a ++ b) → Rises R a
  front_rises [] b r = tt
  front_rises (x ∷ a) b r = ((λ y m. r.0 y (Contains-append_left a b y m)), front_rises a b r.1)

  pub others_rise : (a b : List X) → Rises R (a ++ b) → Rises R b
  others_rise [] b r = r
  others_rise (x ∷ a) b r = others_rise a b r.1

  pub across : (a b : List X) → Rises R (a ++ b) → (x y : X) → Contains a x → Contains b y → R x y ≡ Less
  across [] b r x y m n = absurd (Contains-nil x m)
  across (z ∷ a) b r x y m n = elim (Contains-cons_cases z x a m) [
    | inl e ↦ subst (λ (w : X). R w y ≡ Less) e (r.0 y (Contains-append_right a b y n))
    | inr k ↦ across a b r.1 x y k n
  ]

  pub joined : (a b : List X) → Rises R a → Rises R b → ((x y : X) → Contains a x → Contains b y → R x y ≡ Less) → Rises R (a ++ b)
  joined [] b p q l = q
  joined (x ∷ a) b p q l = (
    (λ y m. elim (Contains-append_cases a b y m) [ inl k ↦ p.0 y k | inr k ↦ l x y (Contains-head x a) k ]),
    joined a b p.1 q (λ z y m n. l z y (Contains-tail x z a m) n),
  )

  pub apart : (a b : List X) → Rises R (a ++ b) → (x : X) → Contains a x → Contains b x → ⊥
  apart a b r x m n = irreflexive R o x (across a b r x x m n)

  -- a key that goes among the others
  pub rises_behind : (a b new : List X) (k : X) → Rises R (a ++ b) → Rises R new → IsWith b k new → ((x : X) → ((y : X) → Contains b y → R x y ≡ Less) → R x k ≡ Less) → Rises R (a ++ new)
  rises_behind a b new k r s w l =
      joined a new (front_rises a b r) s (λ x y m n. elim ((w y).0 n) [
        | inl j ↦ across a b r x y m j
        | inr e ↦ subst (λ (z : X). R x z ≡ Less) e (l x (λ z i. across a b r x z m i))
      ])

  pub not_in_front : (a b : List X) (k : X) → Rises R (a ++ b) → ((x : X) → ((y : X) → Contains b y → R x y ≡ Less) → R x k ≡ Less) → Contains a k → ⊥
  not_in_front a b k r l m = irreflexive R o k (l k (λ z i. across a b r k z m i))

  -- a key that goes into the front
  pub rises_before : (a b new : List X) (k : X) → Rises R (a ++ b) → Rises R new → IsWith a k new → ((y : X) → Contains b y → R k y ≡ Less) → Rises R (new ++ b)
  rises_before a b new k r s w l =
      joined new b s (others_rise a b r) (λ x y m n. elim ((w x).0 m) [
        | inl j ↦ across a b r x y j n
        | inr e ↦ subst (λ (z : X). R z y ≡ Less) e (l y n)
      ])

  pub not_in_others : (b : List X) (k : X) → ((y : X) → Contains b y → R k y ≡ Less) → Contains b k → ⊥
  not_in_others b k l m = irreflexive R o k (l k m)

  -- the last of the front goes before the others
  pub moved : (a init b new : List X) (last : X) → a ≡ init ++ last ∷ [] → Rises R (a ++ b) → Rises R new → IsWith b last new → init ++ new ≡ a ++ b
  moved a init b new last e r s w =
      let whole : a ++ b ≡ init ++ last ∷ b = ap (λ t. t ++ b) e ∙ append_assoc init (last ∷ []) b in
      let up : Rises R (last ∷ b) = others_rise init (last ∷ b) (subst (λ (t : List X). Rises R t) whole r) in
      let same : new ≡ last ∷ b = one_list R o new (last ∷ b) s up (λ x. (
        (λ m. elim ((w x).0 m) [ inl k ↦ Contains-tail last x b k | inr q ↦ subst (λ (z : X). Contains (last ∷ b) z) q (Contains-head last b) ]),
        λ m. (w x).1 (elim (Contains-cons_cases last x b m) [ inl q ↦ inr q | inr k ↦ inl k ]),
      )) in
      ap (λ t. init ++ t) same ∙ sym whole

  -- the key at a place is taken out
  pub there : (xs : List X) (i : ℕ) (k : X) → slice_get xs i ≡ Some k → Contains xs k
  there [] i k e = absurd (cc)
  there (x ∷ xs) zero k e = let q : x ≡ k = cc in subst (λ (z : X). Contains (x ∷ xs) z) q (Contains-head x xs)
  there (x ∷ xs) (suc i) k e = Contains-tail x k xs (there xs i k e)

  pub taken_out : (xs : List X) (i : ℕ) (k : X) → Rises R xs → slice_get xs i ≡ Some k → IsWithout xs k (remove xs i)
  taken_out [] i k r e = absurd (cc)
  taken_out (x ∷ xs) zero k r e =
      let q : x ≡ k = cc in
      record {
        less = λ z m. Contains-tail x z xs m;
        gone = λ m. irreflexive R o k (subst (λ (z : X). R z k ≡ Less) q (r.0 k m));
        rest = λ z m. elim (Contains-cons_cases x z xs m) [ inl p ↦ inl (sym q ∙ p) | inr n ↦ inr n ];
      }
  taken_out (x ∷ xs) (suc i) k r e =
      let w = taken_out xs i k r.1 e in
      record {
        less = λ z m. elim (Contains-cons_cases x z (remove xs i) m) [ inl q ↦ subst (λ (v : X). Contains (x ∷ xs) v) q (Contains-head x xs) | inr n ↦ Contains-tail x z xs (w.less z n) ];
        gone = λ m. elim (Contains-cons_cases x k (remove xs i) m) [ inl q ↦ irreflexive R o k (subst (λ (v : X). R v k ≡ Less) q (r.0 k (there xs i k e))) | inr n ↦ w.gone n ];
        rest = λ z m. elim (Contains-cons_cases x z xs m) [ inl q ↦ inr (subst (λ (v : X). Contains (x ∷ remove xs i) v) q (Contains-head x (remove xs i))) | inr n ↦ over z (w.rest z n) ];
      }
    where
      over : (z : X) → (k ≡ z) ⊎ Contains (remove xs i) z → (k ≡ z) ⊎ Contains (x ∷ remove xs i) z
      over z (inl q) = inl q
      over z (inr n) = inr (Contains-tail x z (remove xs i) n)

  pub rises_out : (xs : List X) (i : ℕ) (k : X) → Rises R xs → slice_get xs i ≡ Some k → Rises R (remove xs i)
  rises_out [] i k r e = absurd (cc)
  rises_out (x ∷ xs) zero k r e = r.1
  rises_out (x ∷ xs) (suc i) k r e = ((λ y m. r.0 y ((taken_out xs i k r.1 e).less y m)), rises_out xs i k r.1 e)

  -- the least member
  least_of : (xs : List X) (f : X) → Some f ≡ slice_get xs 0 → Rises R xs → (y : X) → Contains xs y → (f ≡ y) ⊎ (R f y ≡ Less)
  least_of [] f e r y m = absurd (Contains-nil y m)
  least_of (x ∷ xs) f e r y m =
      let q : x ≡ f = cc in
      elim (Contains-cons_cases x y xs m) [ inl p ↦ inl (sym q ∙ p) | inr n ↦ inr (subst (λ (z : X). R z y ≡ Less) q (r.0 y n)) ]

  pub all_before : (xs : List X) (f k : X) → Some f ≡ slice_get xs 0 → Rises R xs → is_le (R f k) ≡ false → (y : X) → Contains xs y → R k y ≡ Less
  all_before xs f k e r h y m = by (R f k) refl h
    where
      by : (t : Ordering) → R f k ≡ t → is_le t ≡ false → R k y ≡ Less
      by Less q i = absurd (cc)
      by Equal q i = absurd (cc)
      by Greater q i =
          let l : R k f ≡ Less = turn_greater R o k f q in
          elim (least_of xs f e r y m) [ inl p ↦ subst (λ (z : X). R k z ≡ Less) p l | inr n ↦ o.trans k f y l n ]

  -- what is left rises
  pub rises_less : (a b new : List X) (k : X) → Rises R (a ++ b) → Rises R new → IsWithout b k new → Rises R (a ++ new)
  rises_less a b new k r s w = joined a new (front_rises a b r) s (λ x y m n. across a b r x y m (w.less y n))

  pub rises_shorter : (a b new : List X) (k : X) → Rises R (a ++ b) → Rises R new → IsWithout a k new → Rises R (new ++ b)
  rises_shorter a b new k r s w = joined new b s (others_rise a b r) (λ x y m n. across a b r x y (w.less x m) n)

module _ {X : Type 0} where
  pub at_place : (xs : List X) (i : ℕ) (k : X) → i < length xs → k ≡ get_or xs i k → slice_get xs i ≡ Some k
  at_place [] i k l e = absurd (omega arith)
  at_place (x ∷ xs) zero k l e = ap (λ (z : X). Some z) (sym e)
  at_place (x ∷ xs) (suc i) k l e = at_place xs i k (omega arith) e

  -- whether a key was there
  pub new_behind : (a b : List X) (k : X) (t : Bool) → (Contains a k → ⊥) → IsTrue t ↔ (Contains b k → ⊥) → IsTrue t ↔ (Contains (a ++ b) k → ⊥)
  new_behind a b k t n w = ((λ h m. elim (Contains-append_cases a b k m) [ inl i ↦ n i | inr i ↦ w.0 h i ]), λ f. w.1 (λ m. f (Contains-append_right a b k m)))

  pub new_before : (a b : List X) (k : X) (t : Bool) → (Contains b k → ⊥) → IsTrue t ↔ (Contains a k → ⊥) → IsTrue t ↔ (Contains (a ++ b) k → ⊥)
  new_before a b k t n w = ((λ h m. elim (Contains-append_cases a b k m) [ inl i ↦ w.0 h i | inr i ↦ n i ]), λ f. w.1 (λ m. f (Contains-append_left a b k m)))

  -- a key that is not in front was there where it was among the others
  pub was_behind : (a b : List X) (k : X) (t : Bool) → (Contains a k → ⊥) → IsTrue t ↔ Contains b k → IsTrue t ↔ Contains (a ++ b) k
  was_behind a b k t n w = ((λ h. Contains-append_right a b k (w.0 h)), λ m. elim (Contains-append_cases a b k m) [ inl i ↦ absurd (n i) | inr i ↦ w.1 i ])

  -- how many stand in front
  pub one_fewer : (a init : List X) (last : X) → a ≡ init ++ last ∷ [] → length a ≤ 8 → length init < 8
  one_fewer a init last e l = let n = ap length e ∙ length-append init (last ∷ []) in omega (arith, n, l)

  pub one_more : (a new : List X) (t : Bool) → (IsTrue t → length new ≡ length a + 1) → ((IsTrue t → ⊥) → new ≡ a) → length a < 8 → length new ≤ 8
  one_more a new true more same l = let n = more refl in omega (arith, n, l)
  one_more a new false more same l = let n = ap length (same (λ e. absurd (cc))) in omega (arith, n, l)

  pub fewer : (xs : List X) (i : ℕ) → i < length xs → length xs ≤ 8 → length (remove xs i) ≤ 8
  fewer xs i below l = let n = length-remove xs i below in omega (arith, n, l)

-- What is listed in order of a set: all of it, each once, and what a put makes of it.
use Rattle.std.proofs.Common.{◌≡◌, ◌⊎◌, inl, inr, ℕ, zero, suc, ◌+◌, ◌<◌, List, [], ◌∷◌, ◌++◌, Bool, true, false, Contains, subst, sym, ◌∙◌, ap, refl, length, get_or, map, arith, Ordering, add-one}
use Rattle.std.specs.Prelude.{IsSorted}
use Rattle.std.specs.Borrow.{Bor}
use Rattle.std.specs.Map.Iter.{deref}
use Rattle.std.specs.Cmp.{IsTotalOrder, IsEquivalence, tied_itself}
use Rattle.std.specs.Ordering.{is_lt, match_ordering}
use Rattle.std.specs.declared.cmp.Ordering.TheVariants.{Less, Equal, Greater}
use Rattle.std.specs.BTreeSet.{insert_key}
use Rattle.std.specs.List.{IsDistinct, AllByRecursion}
use Rattle.std.specs.List.Sorted.{IsPermutation}
use Rattle.std.proofs.lemmas.List.Sorted.{Contains-permutation, IsPermutation-sym, IsPermutation-map}
use Rattle.std.proofs.lemmas.Map.Keys.{IsDistinct-IsPermutation}
use Rattle.u_base.specs.Firing.{Same, Distinct}
use Rattle.u_base.proofs.Member.{Contains-nil, Contains-head, Contains-tail, Contains-cons_cases}
use Rattle.u_sets.specs.Rising.{Rises, in_order}
use Rattle.u_base.specs.Exact.{IsExact}
use Rattle.u_sets.specs.Members.{IsWith, GoesLast}
use Rattle.u_sets.proofs.Keys.{inserts, rises_still}
use Rattle.u_sets.proofs.Placed.{distinct}
use Rattle.u_sets.proofs.Ordered.{same_list}
use Rattle.u_sets.proofs.Sorted.{turn_greater}

module _ {X : Type 0} (R : X → X → Ordering) (o : IsTotalOrder R) (exact : IsExact R) where
  pub rises : (xs : List X) → Rises R (in_order R xs)
  rises [] = tt
  rises (x ∷ xs) = rises_still R o exact (in_order R xs) x (rises xs)

  pub members : (xs : List X) → Same (Contains (in_order R xs)) (Contains xs)
  members [] z = ((λ m. m), λ m. m)
  members (x ∷ xs) z = (to (members xs), back (members xs))
    where
      to : Same (Contains (in_order R xs)) (Contains xs) → Contains (in_order R (x ∷ xs)) z → Contains (x ∷ xs) z
      to rest m = elim ((inserts R o exact (in_order R xs) x z).0 m) [
        | inl n ↦ Contains-tail x z xs ((rest z).0 n)
        | inr e ↦ subst (λ (w : X). Contains (x ∷ xs) w) e (Contains-head x xs)
      ]

      back : Same (Contains (in_order R xs)) (Contains xs) → Contains (x ∷ xs) z → Contains (in_order R (x ∷ xs)) z
      back rest m = (inserts R o exact (in_order R xs) x z).1 (elim (Contains-cons_cases x z xs m) [
        | inl e ↦ inr e
        | inr n ↦ inl ((rest z).1 n)
      ])

  irreflexive : (x : X) → R x x ≡ Less → ⊥
  irreflexive x e = let t = tied_itself o x in cc

  one_more : (xs : List X) (x : X) → (Contains xs x → ⊥) → length (insert_key R xs x) ≡ suc (length xs)
  one_more [] x n = refl
  one_more (y ∷ ys) x n = at (one_more ys x (λ m. n (Contains-tail y x ys m))) (R x y) refl
    where
      at : length (insert_key R ys x) ≡ suc (length ys) → (r : Ordering) → R x y ≡ r → length (match_ordering r (x ∷ y ∷ ys) (y ∷ ys) (y ∷ insert_key R ys x)) ≡ suc (suc (length ys))
      at rest Less e = refl
      at rest Equal e = absurd (n (subst (λ (w : X). Contains (y ∷ ys) w) (sym (exact x y e)) (Contains-head y ys)))
      at rest Greater e = ap suc rest

  -- a list that rises with one member more is longer by one
  pub counted : (xs ys : List X) (x : X) → Rises R xs → Rises R ys → IsWith xs x ys → (Contains xs x → ⊥) → length ys ≡ length xs + 1
  counted xs ys x r s w n =
      let e = same_list (λ a b. R a b ≡ Less) irreflexive o.trans ys (insert_key R xs x) s (rises_still R o exact xs x r) (λ z. ((λ m. (inserts R o exact xs x z).1 ((w z).0 m)), λ m. (w z).1 ((inserts R o exact xs x z).0 m))) in
      let l = one_more xs x n in
      let k = ap length e in
      omega arith

  pub as_many : (xs : List X) → Distinct xs → length (in_order R xs) ≡ length xs
  as_many [] d = refl
  as_many (x ∷ xs) d = one_more (in_order R xs) x (λ m. d.0 ((members xs x).0 m)) ∙ ap suc (as_many xs d.1)

  -- the list that rises with the members of another
  pub only : (xs ys : List X) → Rises R ys → Same (Contains ys) (Contains xs) → ys ≡ in_order R xs
  only xs ys r s = same_list (λ a b. R a b ≡ Less) irreflexive o.trans ys (in_order R xs) r (rises xs) (λ z. ((λ m. (members xs z).1 ((s z).0 m)), λ m. (s z).1 ((members xs z).0 m)))

  behind : (xs : List X) (x z : X) → Contains (xs ++ x ∷ []) z → Contains xs z ⊎ (x ≡ z)
  behind [] x z m = elim (Contains-cons_cases x z [] m) [ inl e ↦ inr e | inr k ↦ inl k ]
  behind (y ∷ ys) x z m =
      elim (Contains-cons_cases y z (ys ++ x ∷ []) m) [
        | inl e ↦ inl (subst (λ (w : X). Contains (y ∷ ys) w) e (Contains-head y ys))
        | inr k ↦ elim (behind ys x z k) [ inl a ↦ inl (Contains-tail y z ys a) | inr q ↦ inr q ]
      ]

  before : (xs : List X) (x z : X) → Contains xs z ⊎ (x ≡ z) → Contains (xs ++ x ∷ []) z
  before [] x z (inl m) = absurd (Contains-nil z m)
  before [] x z (inr e) = subst (λ (w : X). Contains (x ∷ []) w) e (Contains-head x [])
  before (y ∷ ys) x z (inl m) =
      elim (Contains-cons_cases y z ys m) [
        | inl e ↦ subst (λ (w : X). Contains (y ∷ (ys ++ x ∷ [])) w) e (Contains-head y (ys ++ x ∷ []))
        | inr k ↦ Contains-tail y z (ys ++ x ∷ []) (before ys x z (inl k))
      ]
  before (y ∷ ys) x z (inr e) = Contains-tail y z (ys ++ x ∷ []) (before ys x z (inr e))

  pub with_last : (old : List X) (x : X) (new : List X) → GoesLast old x new → IsWith (in_order R old) x (in_order R new)
  with_last old x new (inl (m, e)) z = (
    (λ n. inl (subst (λ (l : List X). Contains (in_order R l) z) e n)),
    λ s. elim s [
      | inl n ↦ subst (λ (l : List X). Contains (in_order R l) z) (sym e) n
      | inr q ↦ (members new z).1 (subst (λ (l : List X). Contains l z) (sym e) (subst (λ (w : X). Contains old w) q m))
    ],
  )
  with_last old x new (inr (n, e)) z = (
    (λ m. elim (behind old x z (subst (λ (l : List X). Contains l z) e ((members new z).0 m))) [ inl a ↦ inl ((members old z).1 a) | inr q ↦ inr q ]),
    λ s. (members new z).1 (subst (λ (l : List X). Contains l z) (sym e) (before old x z (elim s [ inl a ↦ inl ((members old z).0 a) | inr q ↦ inr q ]))),
  )

  module _ {P : Type 0} (f : P → X) where
    -- a list whose neighbours rise, rises
    risen : (ps : List P) → ((k : ℕ) (d : P) → suc k < length ps → R (f (get_or ps k d)) (f (get_or ps (suc k) d)) ≡ Less) → Rises R (map f ps)
    risen [] h = tt
    risen (p ∷ []) h = ((λ y m. absurd (Contains-nil y m)), tt)
    risen (p ∷ q ∷ qs) h =
        let up : Rises R (map f (q ∷ qs)) = risen (q ∷ qs) (λ k d l. h (suc k) d (omega arith)) in
        let first : R (f p) (f q) ≡ Less = h 0 p (omega arith) in
        ((λ z m. elim (Contains-cons_cases (f q) z (map f qs) m) [ inl e ↦ subst (λ (w : X). R (f p) w ≡ Less) e first | inr n ↦ o.trans (f p) (f q) z first (up.0 z n) ]), up)

    apart_at : (ps : List P) → Distinct (map f ps) → (k : ℕ) (d : P) → suc k < length ps → f (get_or ps k d) ≡ f (get_or ps (suc k) d) → ⊥
    apart_at [] a k d l e = omega arith
    apart_at (p ∷ []) a k d l e = omega arith
    apart_at (p ∷ q ∷ qs) a zero d l e = a.0 (subst (λ (w : X). Contains (f q ∷ map f qs) w) (sym e) (Contains-head (f q) (map f qs)))
    apart_at (p ∷ q ∷ qs) a (suc k) d l e = apart_at (q ∷ qs) a.1 k d (omega arith) e

    next_up : (ps : List P) → Distinct (map f ps) → (k : ℕ) (d : P) → suc k < length ps → is_lt (R (f (get_or ps (suc k) d)) (f (get_or ps k d))) ≡ false → R (f (get_or ps k d)) (f (get_or ps (suc k) d)) ≡ Less
    next_up ps a k d l flat = at (R (f (get_or ps (suc k) d)) (f (get_or ps k d))) refl
      where
        at : (r : Ordering) → R (f (get_or ps (suc k) d)) (f (get_or ps k d)) ≡ r → R (f (get_or ps k d)) (f (get_or ps (suc k) d)) ≡ Less
        at Less e = cc
        at Equal e = absurd (apart_at ps a k d l (sym (exact (f (get_or ps (suc k) d)) (f (get_or ps k d)) e)))
        at Greater e = turn_greater R o (f (get_or ps k d)) (f (get_or ps (suc k) d)) e

    pub sorted_rises : (ps : List P) → IsSorted (λ a b. R (f a) (f b)) ps → Distinct (map f ps) → Rises R (map f ps)
    sorted_rises ps s a = risen ps (λ k d l. next_up ps a k d l (rw add-one at (s k d (omega arith) (omega arith))))

-- what a sort makes of references to the keys
module _ {X : Type 0} (E : X → X → Bool) (equal : IsEquivalence E) (exactly : (a b : X) → E a b ≡ true → a ≡ b) (R : X → X → Ordering) (o : IsTotalOrder R) (exact : IsExact R) where
  pub listed : (keys : List X) (lent sorted : List (Bor X)) → map (deref {X = X}) lent ≡ keys → IsDistinct E keys → IsPermutation lent sorted → IsSorted (λ a b. R (deref a) (deref b)) sorted
      → map (deref {X = X}) sorted ≡ in_order R keys
  listed keys lent sorted all unique moved up = only R o exact keys (map deref sorted) (sorted_rises R o exact deref sorted up apart) same
    where
      perm : IsPermutation keys (map (deref {X = X}) sorted)
      perm = subst (λ (ks : List X). IsPermutation ks (map deref sorted)) all (IsPermutation-map deref lent sorted moved)

      flips : (x y : X) → E x y ≡ E y x
      flips = equal.symm

      apart : Distinct (map (deref {X = X}) sorted)
      apart = distinct E equal exactly (map deref sorted) (IsDistinct-IsPermutation E flips keys (map deref sorted) perm unique)

      same : Same (Contains (map (deref {X = X}) sorted)) (Contains keys)
      same z = ((λ m. Contains-permutation (map deref sorted) keys z (IsPermutation-sym keys (map deref sorted) perm) m), λ m. Contains-permutation keys (map deref sorted) z perm m)

-- what a sort makes of a list in which nothing comes twice
module _ {X : Type 0} (E : X → X → Bool) (equal : IsEquivalence E) (exactly : (a b : X) → E a b ≡ true → a ≡ b) (R : X → X → Ordering) (o : IsTotalOrder R) (exact : IsExact R) where
  map_itself : (xs : List X) → map (λ (x : X). x) xs ≡ xs
  map_itself [] = refl
  map_itself (x ∷ xs) = ap (λ (ys : List X). x ∷ ys) (map_itself xs)

  differs : (x : X) (xs : List X) → (Contains xs x → ⊥) → AllByRecursion (λ y. E x y ≡ false) xs
  differs x [] n = tt
  differs x (y ∷ ys) n = (at (E x y) refl, differs x ys (λ m. n (Contains-tail y x ys m)))
    where
      at : (b : Bool) → E x y ≡ b → E x y ≡ false
      at true e = absurd (n (subst (λ (z : X). Contains (y ∷ ys) z) (sym (exactly x y e)) (Contains-head y ys)))
      at false e = e

  is_distinct : (xs : List X) → Distinct xs → IsDistinct E xs
  unfolding IsDistinct
  is_distinct [] d = tt
  is_distinct (x ∷ xs) d = (differs x xs d.0, is_distinct xs d.1)

  flips : (x y : X) → E x y ≡ E y x
  flips = equal.symm

  pub sorted_up : (xs ys : List X) → Distinct xs → IsPermutation xs ys → IsSorted R ys → Rises R ys
  sorted_up xs ys d p s =
      subst (λ (zs : List X). Rises R zs) (map_itself ys)
      (sorted_rises R o exact (λ (x : X). x) ys s (subst (λ (zs : List X). Distinct zs) (sym (map_itself ys)) (distinct E equal exactly ys (IsDistinct-IsPermutation E flips xs ys p (is_distinct xs d)))))

  pub sorted_same : (xs ys : List X) → IsPermutation xs ys → Same (Contains ys) (Contains xs)
  sorted_same xs ys p z = ((λ m. Contains-permutation ys xs z (IsPermutation-sym xs ys p) m), λ m. Contains-permutation xs ys z p m)

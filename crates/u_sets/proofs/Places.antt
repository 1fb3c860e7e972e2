-- What a binary search finds in a list that rises, and what an insert makes of it.
use Rattle.std.proofs.Common.{◌≡◌, ◌⊎◌, inl, inr, ℕ, ◌<◌, ◌≤◌, ◌+◌, ◌++◌, ◌∷◌, [], take, length, get_or, Contains, subst, sym, arith, List, Ordering}
use Rattle.std.specs.Cmp.{IsTotalOrder, tied_itself}
use Rattle.std.specs.List.{insert}
use Rattle.std.specs.declared.cmp.Ordering.TheVariants.{Less, Equal, Greater}
use Rattle.std.proofs.lemmas.List.{take_more, take_all}
use Rattle.std.proofs.lemmas.List.Sorted.{IsPermutation-insert, IsPermutation-sym, Contains-permutation}
use Rattle.std.proofs.lemmas.List.Elements.{Contains-append_left, Contains-push, Contains-push_cases}
use Rattle.u_base.proofs.Member.{Contains-nil, Contains-head, Contains-tail, Contains-cons_cases}
use Rattle.u_sets.proofs.Ordered.{same_list}
use Rattle.u_base.specs.Firing.{Same}
use Rattle.u_sets.specs.Rising.{Rises, IsListOf}
use Rattle.u_sets.specs.Members.{IsWith, IsUnion}

module _ {X : Type 0} where
  pub inserted : (xs : List X) (i : ℕ) (y : X) → IsWith xs y (insert xs i y)
  inserted xs i y x = (to, back)
    where
      to : Contains (insert xs i y) x → Contains xs x ⊎ (y ≡ x)
      to m = elim (Contains-cons_cases y x xs (Contains-permutation (insert xs i y) (y ∷ xs) x (IsPermutation-sym (y ∷ xs) (insert xs i y) (IsPermutation-insert xs i y)) m)) [ inl e ↦ inr e | inr k ↦ inl k ]

      back : Contains xs x ⊎ (y ≡ x) → Contains (insert xs i y) x
      back (inl m) = Contains-permutation (y ∷ xs) (insert xs i y) x (IsPermutation-insert xs i y) (Contains-tail y x xs m)
      back (inr e) = Contains-permutation (y ∷ xs) (insert xs i y) x (IsPermutation-insert xs i y) (subst (λ (w : X). Contains (y ∷ xs) w) e (Contains-head y xs))

  pub union_none : (left right : List X) → IsUnion left (take 0 right) left
  union_none left right x = ((λ m. inl m), λ s. elim s [ inl m ↦ m | inr n ↦ absurd (Contains-nil x n) ])

  pub union_more : (left right old new : List X) (i : ℕ) (y : X) → i < length right → y ≡ get_or right i y → IsUnion left (take i right) old → IsWith old y new → IsUnion left (take (i + 1) right) new
  union_more left right old new i y below e u w x = rw (take_more right i y below, ← e) ((λ m. to ((w x).0 m)), back)
    where
      to : Contains old x ⊎ (y ≡ x) → Contains left x ⊎ Contains (take i right ++ y ∷ []) x
      to (inl m) = elim ((u x).0 m) [ inl a ↦ inl a | inr b ↦ inr (Contains-append_left (take i right) (y ∷ []) x b) ]
      to (inr e) = inr (subst (λ (z : X). Contains (take i right ++ y ∷ []) z) e (Contains-push (take i right) y))

      back : Contains left x ⊎ Contains (take i right ++ y ∷ []) x → Contains new x
      back (inl a) = (w x).1 (inl ((u x).1 (inl a)))
      back (inr b) = elim (Contains-push_cases (take i right) y x b) [ inl m ↦ (w x).1 (inl ((u x).1 (inr m))) | inr e ↦ (w x).1 (inr e) ]

  pub union_all : (left right all : List X) (i : ℕ) → length right ≤ i → IsUnion left (take i right) all → IsUnion left right all
  union_all left right all i h u x = rw (take_all i right h) at (u x)

  pub union_swap : (a b c : List X) → IsUnion a b c → IsUnion b a c
  union_swap a b c u x = ((λ m. elim ((u x).0 m) [ inl p ↦ inr p | inr q ↦ inl q ]), λ s. elim s [ inl p ↦ (u x).1 (inr p) | inr q ↦ (u x).1 (inl q) ])

  pub union_start : (left right : List X) → IsUnion (take 0 left) (take 0 right) []
  union_start left right x = ((λ m. inl m), λ s. elim s [ inl m ↦ m | inr n ↦ n ])

  pub union_left : (left right old new : List X) (i : ℕ) (y : X) → i < length left → y ≡ get_or left i y → IsUnion (take i left) right old → IsWith old y new → IsUnion (take (i + 1) left) right new
  union_left left right old new i y below e u w = union_swap right (take (i + 1) left) new (union_more right left old new i y below e (union_swap (take i left) right old u) w)

  pub union_end : (left right all : List X) (i j : ℕ) → length left ≤ i → length right ≤ j → IsUnion (take i left) (take j right) all → IsUnion left right all
  union_end left right all i j h k u x = rw (take_all i left h, take_all j right k) at (u x)

  -- unions, as sets
  pub union_turn : (a b c ab bc left right : List X) → IsUnion a b ab → IsUnion ab c left → IsUnion b c bc → IsUnion a bc right → Same (Contains left) (Contains right)
  union_turn a b c ab bc left right p q r s x = (to, back)
    where
      to : Contains left x → Contains right x
      to m =
          elim ((q x).0 m)
          [ inl n ↦ elim ((p x).0 n) [ inl k ↦ (s x).1 (inl k) | inr k ↦ (s x).1 (inr ((r x).1 (inl k))) ] | inr k ↦ (s x).1 (inr ((r x).1 (inr k))) ]

      back : Contains right x → Contains left x
      back m =
          elim ((s x).0 m)
          [ inl k ↦ (q x).1 (inl ((p x).1 (inl k))) | inr n ↦ elim ((r x).0 n) [ inl k ↦ (q x).1 (inl ((p x).1 (inr k))) | inr k ↦ (q x).1 (inr k) ] ]

  pub union_least : (a b c d : List X) → IsUnion a b c → ((x : X) → Contains a x → Contains d x) → ((x : X) → Contains b x → Contains d x) → (x : X) → Contains c x → Contains d x
  union_least a b c d u p q x m = elim ((u x).0 m) [ inl k ↦ p x k | inr k ↦ q x k ]

module _ {X : Type 0} (R : X → X → Ordering) (o : IsTotalOrder R) where
  pub absent : (xs : List X) (i : ℕ) (x : X) → ((k : ℕ) (d : X) → k < i → R (get_or xs k d) x ≡ Less) → ((k : ℕ) (d : X) → i ≤ k → k < length xs → R (get_or xs k d) x ≡ Greater) → Contains xs x → ⊥
  absent xs i x below above (k, l, e) = elim sides [ inl h ↦ (let z = below k x h in let w = tie in cc) | inr h ↦ (let z = above k x h l in let w = tie in cc) ]
    where
      tie : R (get_or xs k x) x ≡ Equal
      tie = subst (λ (y : X). R y x ≡ Equal) (sym e) (tied_itself o x)

      sides : (k < i) ⊎ (i ≤ k)
      sides = grind arith

  pub irreflexive : (x : X) → R x x ≡ Less → ⊥
  irreflexive x e = let w = tied_itself o x in cc

  -- one list for one set
  pub one_list : (xs ys : List X) → Rises R xs → Rises R ys → Same (Contains xs) (Contains ys) → xs ≡ ys
  one_list = same_list (λ a b. R a b ≡ Less) irreflexive o.trans

-- sets that are the same have one list
module _ {X : Type 0} (R : X → X → Ordering) (o : IsTotalOrder R) (P Q : X → Type 0) (same : Same P Q) where
  pub one_list_of : (xs ys : List X) → IsListOf R P xs → IsListOf R Q ys → xs ≡ ys
  one_list_of xs ys a b = one_list R o xs ys a.rises b.rises (λ x. ((λ m. (b.exact x).1 ((same x).0 ((a.exact x).0 m))), λ m. (a.exact x).1 ((same x).1 ((b.exact x).0 m))))

  pub list_of_same : (xs : List X) → IsListOf R P xs → IsListOf R Q xs
  list_of_same xs a = record { rises = a.rises; exact = λ x. ((λ m. (same x).0 ((a.exact x).0 m)), λ q. (a.exact x).1 ((same x).1 q)) }

-- the laws of the union, as equations of lists that rise
module _ {X : Type 0} (R : X → X → Ordering) (o : IsTotalOrder R) where
  pub union_commutes : (a b c d : List X) → Rises R c → Rises R d → IsUnion a b c → IsUnion b a d → c ≡ d
  union_commutes a b c d r s u w = one_list R o c d r s (λ x. ((λ m. (w x).1 (elim ((u x).0 m) [ inl k ↦ inr k | inr k ↦ inl k ])), λ m. (u x).1 (elim ((w x).0 m) [ inl k ↦ inr k | inr k ↦ inl k ])))

  pub union_associates : (a b c ab bc left right : List X) → Rises R left → Rises R right → IsUnion a b ab → IsUnion ab c left → IsUnion b c bc → IsUnion a bc right → left ≡ right
  union_associates a b c ab bc left right r s p q u w = one_list R o left right r s (union_turn a b c ab bc left right p q u w)

  pub union_itself : (a b : List X) → Rises R a → Rises R b → IsUnion a a b → b ≡ a
  union_itself a b r s u = one_list R o b a s r (λ x. ((λ m. elim ((u x).0 m) [ inl k ↦ k | inr k ↦ k ]), λ m. (u x).1 (inl m)))

-- Lists that fall: their turned lists rise, and they rise by the order that is turned round.
use Rattle.std.proofs.Common.{◌≡◌, Bool, IsTrue, ◌⊎◌, inl, inr, ◌↔◌, ℕ, zero, suc, ◌+◌, ◌<◌, ◌≤◌, List, [], ◌∷◌, ◌++◌, reverse, length, refl, sym, ap, subst, ◌∙◌, Ordering, arith, Some, None, Option, option_to_list, IfSome, get_or, length-append, append-nil, slice_get, take}
use Rattle.std.specs.Prelude.{Contains, remove}
use Rattle.std.specs.List.{insert}
use Rattle.std.specs.Cmp.{IsTotalOrder}
use Rattle.std.specs.Ordering.{is_lt, ordering_reverse}
use Rattle.std.specs.declared.cmp.Ordering.TheVariants.{Less, Equal, Greater}
use Rattle.std.proofs.lemmas.List.{get_or_default, reverse-reverse, reverse-append, length-reverse, take_all, take_more}
use Rattle.std.proofs.lemmas.List.Sorted.{IsPermutation-reverse, Contains-permutation}
use Rattle.std.proofs.lemmas.List.Elements.{Contains-get_or, Contains-append_left}
use Rattle.u_base.proofs.Member.{Contains-nil, Contains-head, Contains-tail, Contains-cons_cases}
use Rattle.u_base.specs.Exact.{IsExact}
use Rattle.u_sets.specs.Rising.{Rises}
use Rattle.u_sets.specs.Members.{IsWith, IsWithout}
use Rattle.u_sets.specs.Fronted.{IsFronted}
use Rattle.u_sets.proofs.Sorted.{turn_greater, Ascending-insert}
use Rattle.u_sets.proofs.Places.{absent}
use Rattle.u_sets.proofs.Fronted.{front_rises, across, joined, there, taken_out, rises_out, rises_shorter, without_front, apart, fewer, one_more, at_place}

pub is_less : (t : Ordering) → IsTrue (is_lt t) → t ≡ Less
is_less Less h = refl
is_less Equal h = absurd (cc)
is_less Greater h = absurd (cc)

module _ {X : Type 0} where
  -- it has the same items
  pub turned_has : (xs : List X) (x : X) → Contains xs x → Contains (reverse xs) x
  turned_has xs x m = Contains-permutation xs (reverse xs) x (IsPermutation-reverse xs) m

  pub has_turned : (xs : List X) (x : X) → Contains (reverse xs) x → Contains xs x
  has_turned xs x m = subst (λ (ys : List X). Contains ys x) (reverse-reverse xs) (turned_has (reverse xs) x m)

  pub with_turned : (a new : List X) (x : X) → IsWith a x new → IsWith (reverse a) x (reverse new)
  with_turned a new x w z = (
    (λ m. elim ((w z).0 (has_turned new z m)) [ inl k ↦ inl (turned_has a z k) | inr e ↦ inr e ]),
    λ s. turned_has new z (elim s [ inl k ↦ (w z).1 (inl (has_turned a z k)) | inr e ↦ (w z).1 (inr e) ]),
  )

  pub without_turned : (a new : List X) (x : X) → IsWithout a x new → IsWithout (reverse a) x (reverse new)
  without_turned a new x w = record {
    less = λ z m. turned_has a z (w.less z (has_turned new z m));
    gone = λ m. w.gone (has_turned new x m);
    rest = λ z m. elim (w.rest z (has_turned a z m)) [ inl e ↦ inl e | inr k ↦ inr (turned_has new z k) ];
  }

  -- what comes off the end was first
  pub last_off : (xs : List X) (x : X) → reverse (xs ++ x ∷ []) ≡ x ∷ reverse xs
  last_off xs x = reverse-append xs (x ∷ [])

  -- what stands first comes last
  pub first_on : (x : X) (xs : List X) → reverse (x ∷ xs) ≡ reverse xs ++ x ∷ []
  first_on x xs = reverse-append (x ∷ []) xs

  -- what is taken from the start was last
  pub first_off : (a rest : List X) (x : X) → 0 < length a → rest ≡ remove a 0 → x ≡ get_or a 0 x → reverse a ≡ reverse rest ++ x ∷ []
  first_off [] rest x l e f = absurd (omega (arith, l))
  first_off (y ∷ a) rest x l e f = ap (λ (z : X). reverse (z ∷ a)) (sym f) ∙ (first_on x a ∙ ap (λ (t : List X). reverse t ++ x ∷ []) (sym e))

  -- what is popped from a front was the least of both
  pub popped : (b : List X) (o : Option X) (old new : List X) → old ≡ new ++ option_to_list o → IfSome o (λ x. reverse old ++ b ≡ x ∷ (reverse new ++ b))
  popped b None old new e = tt
  popped b (Some x) old new e = ap (λ (t : List X). reverse t ++ b) e ∙ ap (λ (t : List X). t ++ b) (last_off new x)

  -- how many stand in a turned front
  pub turned_fewer : (xs : List X) (i : ℕ) → i < length xs → length (reverse xs) ≤ 8 → length (reverse (remove xs i)) ≤ 8
  turned_fewer xs i below l =
      let m = length-reverse xs in
      let n = length-reverse (remove xs i) in
      let f = fewer xs i below (omega (arith, m, l)) in
      omega (arith, n, f)

  pub turned_more : (a new : List X) (t : Bool) → (IsTrue t → length new ≡ length a + 1) → ((IsTrue t → ⊥) → new ≡ a) → length a < 8 → length (reverse new) ≤ 8
  turned_more a new t more same l = let f = one_more a new t more same l in let n = length-reverse new in omega (arith, n, f)

  -- whether a key was there
  pub new_turned : (a : List X) (k : X) (t : Bool) → IsTrue t ↔ (Contains a k → ⊥) → IsTrue t ↔ (Contains (reverse a) k → ⊥)
  new_turned a k t w = ((λ h m. w.0 h (has_turned a k m)), λ f. w.1 (λ m. f (turned_has a k m)))

module _ {X : Type 0} (R : X → X → Ordering) (o : IsTotalOrder R) where
  -- the order, turned round
  abbrev pub turn : X → X → Ordering
  turn x y = R y x

  pub turn_total : IsTotalOrder turn
  turn_total = record {
    antisymm = λ x y. o.antisymm y x;
    trans = λ x y z p q. o.trans z y x q p;
    congr = λ x y z e. o.antisymm z x ∙ (ap ordering_reverse (sym (o.congr y x z e)) ∙ sym (o.antisymm z y));
  }

  pub falls : (a : List X) → Rises R (reverse a) → Rises turn a
  falls [] r = tt
  falls (x ∷ a) r =
      let s : Rises R (reverse a ++ x ∷ []) = subst (λ (l : List X). Rises R l) (first_on x a) r in (
        (λ y m. across R o (reverse a) (x ∷ []) s y x (turned_has a y m) (Contains-head x [])),
        falls a (front_rises R o (reverse a) (x ∷ []) s),
      )

  pub rises_turned : (a : List X) → Rises turn a → Rises R (reverse a)
  rises_turned [] r = tt
  rises_turned (x ∷ a) r =
      subst (λ (l : List X). Rises R l) (sym (first_on x a))
      (joined R o (reverse a) (x ∷ []) (rises_turned a r.1) ((λ y m. absurd (Contains-nil y m)), tt) (λ y z m n. elim (Contains-cons_cases x z [] n) [
        | inl e ↦ subst (λ (w : X). R y w ≡ Less) e (r.0 y (has_turned a y m))
        | inr k ↦ absurd (Contains-nil z k)
      ]))

  -- all from that place on are below it
  abbrev pub AreBelow : List X → ℕ → X → Type 0
  AreBelow xs i x = (k : ℕ) (d : X) → i ≤ k → k < length xs → R (get_or xs k d) x ≡ Less

  under : (i place k : ℕ) → place ≡ i + 1 → k < place → (k ≡ i) ⊎ (k < i)
  under i place k e l = grind arith

  before : (xs : List X) (i k : ℕ) (d : X) → k < i → i < length xs → Rises turn xs → R (get_or xs i d) (get_or xs k d) ≡ Less
  before [] i k d l m r = absurd (omega arith)
  before (x ∷ xs) zero k d l m r = absurd (omega arith)
  before (x ∷ xs) (suc i) zero d l m r = r.0 (get_or xs i d) (Contains-get_or xs i d (omega arith))
  before (x ∷ xs) (suc i) (suc k) d l m r = before xs i k d (omega arith) (omega arith) r.1

  -- what is above the greatest is above all
  pub all_below : (xs : List X) (v x : X) → Rises R (reverse xs) → v ≡ get_or xs 0 v → R v x ≡ Less → AreBelow xs 0 x
  all_below xs v x r is l zero d from to = subst (λ (w : X). R w x ≡ Less) (is ∙ get_or_default xs 0 v d to) l
  all_below xs v x r is l (suc k) d from to =
      let e : get_or xs 0 d ≡ v = get_or_default xs 0 d v (omega arith) ∙ sym is in
      o.trans (get_or xs (suc k) d) v x (subst (λ (w : X). R (get_or xs (suc k) d) w ≡ Less) e (before xs (suc k) 0 d (omega arith) to (falls xs r))) l

  all_above : (xs : List X) (i place : ℕ) (v x : X) → Rises turn xs → place ≡ i + 1 → i < length xs → v ≡ get_or xs i v → R v x ≡ Greater → (k : ℕ) (d : X) → k < place → R x (get_or xs k d) ≡ Less
  all_above xs i place v x r next within is g k d l =
      let first : R x v ≡ Less = turn_greater R o x v g in
      elim (under i place k next l) [
        | inl e ↦ (let same : get_or xs k d ≡ v = get_or_default xs k d v (omega arith) ∙ ap (λ (j : ℕ). get_or xs j v) e ∙ sym is in subst (λ (w : X). R x w ≡ Less) (sym same) first)
        | inr h ↦ (let there : R v (get_or xs k v) ≡ Less = subst (λ (w : X). R w (get_or xs k v) ≡ Less) (sym is) (before xs i k v h within r) in
            subst (λ (w : X). R x w ≡ Less) (get_or_default xs k v d (omega arith)) (o.trans x v (get_or xs k v) first there))
      ]

  greater : (x y : X) → R y x ≡ Less → R x y ≡ Greater
  greater x y e = o.antisymm x y ∙ ap ordering_reverse e

  -- the place of an item that is not there
  pub put_at : (xs : List X) (i place : ℕ) (v x : X) → Rises R (reverse xs) → place ≡ i + 1 → i < length xs → v ≡ get_or xs i v → R v x ≡ Greater → AreBelow xs place x → Rises R (reverse (insert xs place x))
  put_at xs i place v x r next within is g below =
      rises_turned (insert xs place x) (Ascending-insert turn turn_total xs place x (omega arith) (all_above xs i place v x (falls xs r) next within is g) (λ k d from to. greater x (get_or xs k d) (below k d from to)) (falls xs r))

  pub put_first : (xs : List X) (x : X) → Rises R (reverse xs) → AreBelow xs 0 x → Rises R (reverse (insert xs 0 x))
  put_first xs x r below =
      rises_turned (insert xs 0 x) (Ascending-insert turn turn_total xs 0 x (omega arith) (λ k d l. absurd (omega (arith, l))) (λ k d from to. greater x (get_or xs k d) (below k d from to)) (falls xs r))

  pub not_there : (xs : List X) (i place : ℕ) (v x : X) → Rises R (reverse xs) → place ≡ i + 1 → i < length xs → v ≡ get_or xs i v → R v x ≡ Greater → AreBelow xs place x → Contains xs x → ⊥
  not_there xs i place v x r next within is g below =
      absent turn turn_total xs place x (all_above xs i place v x (falls xs r) next within is g) (λ k d from to. greater x (get_or xs k d) (below k d from to))

  pub none_there : (xs : List X) (x : X) → AreBelow xs 0 x → Contains xs x → ⊥
  none_there xs x below =
      absent turn turn_total xs 0 x (λ k d l. absurd (omega (arith, l))) (λ k d from to. greater x (get_or xs k d) (below k d from to))

  -- the place where an item is
  pub found_at : IsExact R → (xs : List X) (i : ℕ) (v x : X) → i < length xs → v ≡ get_or xs i v → R v x ≡ Equal → slice_get xs i ≡ Some x
  found_at exact xs i v x l is e = subst (λ (w : X). slice_get xs i ≡ Some w) (exact v x e) (at_place xs i v l is)

  -- the key at a place of a turned front is there, and is taken out
  pub in_front : (a b : List X) (i : ℕ) (k : X) → slice_get a i ≡ Some k → Contains (reverse a ++ b) k
  in_front a b i k e = Contains-append_left (reverse a) b k (turned_has a k (there R o a i k e))

  pub out_of_turned : (a b : List X) (i : ℕ) (k : X) → Rises R (reverse a ++ b) → slice_get a i ≡ Some k → IsWithout (reverse a ++ b) k (reverse (remove a i) ++ b)
  out_of_turned a b i k r e =
      let f = falls a (front_rises R o (reverse a) b r) in
      without_front (reverse a) b (reverse (remove a i)) k (λ m. apart R o (reverse a) b r k (turned_has a k (there turn turn_total a i k e)) m)
      (without_turned a (remove a i) k (taken_out turn turn_total a i k f e))

  pub turned_shorter : (a b : List X) (i : ℕ) (k : X) → Rises R (reverse a ++ b) → slice_get a i ≡ Some k → Rises R (reverse (remove a i) ++ b)
  turned_shorter a b i k r e =
      let f = falls a (front_rises R o (reverse a) b r) in
      rises_shorter R o (reverse a) b (reverse (remove a i)) k r (rises_turned (remove a i) (rises_out turn turn_total a i k f e))
      (without_turned a (remove a i) k (taken_out turn turn_total a i k f e))

  pub popped_without : (b : List X) (p : Option X) (old new : List X) → Rises R (reverse old ++ b) → old ≡ new ++ option_to_list p → IfSome p (λ x. IsWithout (reverse old ++ b) x (reverse new ++ b))
  popped_without b None old new r e = tt
  popped_without b (Some x) old new r e =
      let was : reverse old ++ b ≡ x ∷ (reverse new ++ b) = popped b (Some x) old new e in
      subst (λ (l : List X). IsWithout l x (reverse new ++ b)) (sym was)
      (taken_out R o (x ∷ (reverse new ++ b)) 0 x (subst (λ (l : List X). Rises R l) was r) refl)

  pub popped_fronted : (b : List X) (p : Option X) (old new : List X) → IsFronted R (reverse old) b → old ≡ new ++ option_to_list p → IsFronted R (reverse new) b
  popped_fronted b None old new f e = subst (λ (l : List X). IsFronted R (reverse l) b) (e ∙ append-nil new) f
  popped_fronted b (Some x) old new f e =
      let was : reverse old ++ b ≡ x ∷ (reverse new ++ b) = popped b (Some x) old new e in
      record {
        rises = (subst (λ (l : List X). Rises R l) was f.rises).1;
        few = (let n = f.few in omega (arith, n, length-reverse old, length-reverse new, ap length e, length-append new (x ∷ [])));
      }

  -- a key that stands before the least of a front and the others goes first
  pub before_all : (xs b : List X) (i : ℕ) (v k : X) → IsFronted R (reverse xs) b → length xs ≡ i + 1 → length xs < 8 → v ≡ get_or xs i v → R k v ≡ Less → IsFronted R (k ∷ reverse xs) b
  before_all xs b i v k f n few at l =
      let whole : xs ≡ take i xs ++ v ∷ [] =
      sym (take_all (i + 1) xs (omega (arith, n))) ∙ take_more xs i v (omega (arith, n)) ∙ ap (λ (x : X). take i xs ++ x ∷ []) (sym at) in
      let turned : reverse xs ≡ v ∷ reverse (take i xs) = ap reverse whole ∙ last_off (take i xs) v in
      let up : Rises R (v ∷ (reverse (take i xs) ++ b)) = subst (λ (t : List X). Rises R (t ++ b)) turned f.rises in
      let first : (y : X) → Contains (v ∷ (reverse (take i xs) ++ b)) y → R k y ≡ Less =
      λ y m. elim (Contains-cons_cases v y (reverse (take i xs) ++ b) m) [ inl e ↦ subst (λ (z : X). R k z ≡ Less) e l | inr t ↦ o.trans k v y l (up.0 y t) ] in
      record {
        rises = ((λ y m. first y (subst (λ (t : List X). Contains (t ++ b) y) turned m)), f.rises);
        few = let r = length-reverse xs in omega (arith, few, r);
      }

module _ {X : Type 0} where
  -- the only item of a list
  pub only_item : (xs : List X) (x : X) → length xs ≡ 1 → x ≡ get_or xs 0 x → xs ≡ x ∷ []
  only_item [] x n e = absurd (omega (arith, n))
  only_item (y ∷ []) x n e = ap (λ (z : X). z ∷ []) (sym e)
  only_item (y ∷ z ∷ xs) x n e = absurd (omega (arith, n))

  -- an item that goes to the end of a front is the first of the set
  pub goes_before : (front added list b : List X) (x : X) → length list ≡ 1 → x ≡ get_or list 0 x → added ≡ front ++ list → reverse added ≡ x ∷ reverse front
  goes_before front added list b x n e a = ap reverse (a ∙ ap (λ (t : List X). front ++ t) (only_item list x n e)) ∙ last_off front x

  pub with_first : (a : List X) (x : X) → IsWith a x (x ∷ a)
  with_first a x z = (
    (λ m. elim (Contains-cons_cases x z a m) [ inl e ↦ inr e | inr k ↦ inl k ]),
    λ s. elim s [ inl k ↦ Contains-tail x z a k | inr e ↦ subst (λ (y : X). Contains (x ∷ a) y) e (Contains-head x a) ],
  )

-- The pairs of a list of places, and what a put makes of them.
use Rattle.std.proofs.Common.{◌≡◌, ◌↔◌, ℕ, zero, suc, ◌+◌, ◌<◌, List, [], ◌∷◌, ◌++◌, Bool, true, false, cond, Option, Some, Contains, length, set, get_or, subst, sym, ◌∙◌, ap, refl, arith}
use Rattle.std.specs.Prelude.{nat_eq, slice_get, Result, Ok, Err, OnOk, OnErr, IfOk, IsTrue}
use Rattle.std.proofs.lemmas.Option.{slice_get_read}
use Rattle.std.specs.Cmp.{nat_eq_equiv}
use Rattle.std.specs.Map.{keys_of, lookup}
use Rattle.std.specs.List.{IsDistinct, AllByRecursion}
use Rattle.std.proofs.lemmas.Bool.{eq-eqb, eqb-true}
use Rattle.u_sets.specs.Members.{IsWith}
use Rattle.u_sets.specs.declared.few.Few.{Few}
use Rattle.u_sets.specs.declared.few.Few.TheVariants.{Empty}
use Rattle.u_sets.specs.Pairs.{items_of, pairs_from, pairs_of}
use Rattle.u_sets.specs.Columns.{numbered_from, numbered_pairs}
use Rattle.u_sets.proofs.Keyed.{items_at, at_key, one_pair_more}

pub unlike : (a b : ℕ) → (a ≡ b → ⊥) → nat_eq a b ≡ false
unlike a b n = at (nat_eq a b) refl
  where
    at : (t : Bool) → nat_eq a b ≡ t → nat_eq a b ≡ false
    at true e = absurd (n (eqb-true a b e))
    at false e = e

module _ {V : Type 0} where
  pub numbered_length : (m : ℕ) (fs : List (Few V)) → length (numbered_from m fs) ≡ length fs
  numbered_length m [] = refl
  numbered_length m (f ∷ fs) = ap suc (numbered_length (suc m) fs)

  -- what stands at a place stands there with its number
  pub numbered_at : (m n k : ℕ) (fs : List (Few V)) (f : Few V) → n ≡ m + k → slice_get fs k ≡ Some f → slice_get (numbered_from m fs) k ≡ Some (n, f)
  numbered_at m n k [] f e h = absurd (cc)
  numbered_at m n zero (g ∷ fs) f e h =
      let q : m ≡ n = omega (arith, e) in
      let p : g ≡ f = cc in
      ap (λ (i : ℕ). Some (i, g)) q ∙ ap (λ (x : Few V). Some (n, x)) p
  numbered_at m n (suc k) (g ∷ fs) f e h = numbered_at (suc m) n k fs f (omega (arith, e)) h

  -- a look-up by number finds what stands at its place
  pub found_at : (fs : List (Few V)) (m n k : ℕ) → n ≡ m + k → lookup (nat_eq n) (numbered_from m fs) ≡ slice_get fs k
  found_at [] m n k e = refl
  found_at (f ∷ fs) m n zero e = ap (λ (b : Bool). cond b (Some f) (lookup (nat_eq n) (numbered_from (suc m) fs))) (eq-eqb n m (omega (arith, e)))
  found_at (f ∷ fs) m n (suc k) e =
      ap (λ (b : Bool). cond b (Some f) (lookup (nat_eq n) (numbered_from (suc m) fs))) (unlike n m (λ q. omega (arith, e, q)))
      ∙ found_at fs (suc m) n k (omega (arith, e))

  behind : (fs : List (Few V)) (m n : ℕ) → n < m → AllByRecursion (λ y. nat_eq n y ≡ false) (keys_of (numbered_from m fs))
  behind [] m n l = tt
  behind (f ∷ fs) m n l = (unlike n m (λ q. omega (arith, l, q)), behind fs (suc m) n (omega (arith, l)))

  pub numbers_distinct : (m : ℕ) (fs : List (Few V)) → IsDistinct nat_eq (keys_of (numbered_from m fs))
  unfolding IsDistinct
  numbers_distinct m [] = tt
  numbers_distinct m (f ∷ fs) = (behind fs (suc m) m (omega arith), numbers_distinct (suc m) fs)

  -- the pairs of a number are those of its place
  pub at_number : (fs : List (Few V)) (n : ℕ) (v : V) → Contains (numbered_pairs fs) (n, v) ↔ Contains (items_at (slice_get fs n)) v
  at_number fs n v =
      subst (λ (o : Option (Few V)). Contains (numbered_pairs fs) (n, v) ↔ Contains (items_at o) v) (found_at fs 0 n n (omega arith))
      (at_key nat_eq nat_eq_equiv eqb-true (numbered_from 0 fs) (numbers_distinct 0 fs) n v)

  set_same : (fs : List (Few V)) (i : ℕ) (w : Few V) → i < length fs → slice_get (set fs i w) i ≡ Some w
  set_same [] i w l = absurd (omega (arith, l))
  set_same (f ∷ fs) zero w l = refl
  set_same (f ∷ fs) (suc i) w l = set_same fs i w (omega (arith, l))

  set_other : (fs : List (Few V)) (i q : ℕ) (w : Few V) → (i ≡ q → ⊥) → slice_get (set fs i w) q ≡ slice_get fs q
  set_other [] i q w n = refl
  set_other (f ∷ fs) zero zero w n = absurd (n refl)
  set_other (f ∷ fs) zero (suc q) w n = refl
  set_other (f ∷ fs) (suc i) zero w n = refl
  set_other (f ∷ fs) (suc i) (suc q) w n = set_other fs i q w (λ e. n (ap suc e))

  set_at : (fs : List (Few V)) (i q : ℕ) (w : Few V) → i < length fs → slice_get (set fs i w) q ≡ cond (nat_eq i q) (Some w) (slice_get fs q)
  set_at fs i q w l = at (nat_eq i q) refl
    where
      at : (b : Bool) → nat_eq i q ≡ b → slice_get (set fs i w) q ≡ cond b (Some w) (slice_get fs q)
      at true e = ap (λ (k : ℕ). slice_get (set fs i w) k) (sym (eqb-true i q e)) ∙ set_same fs i w l
      at false e = set_other fs i q w (λ k. let h = eq-eqb i q k in absurd (cc))

  -- one value more at a place
  pub value_more : (fs : List (Few V)) (i : ℕ) (v : V) (f w : Few V) → slice_get fs i ≡ Some f → i < length fs → IsWith (items_of f) v (items_of w) → IsWith (numbered_pairs fs) (i, v) (numbered_pairs (set fs i w))
  value_more fs i v f w there l more =
      one_pair_more nat_eq nat_eq_equiv eqb-true (numbered_from 0 fs) (numbered_from 0 (set fs i w)) (numbers_distinct 0 fs) (numbers_distinct 0 (set fs i w)) i v w
      (λ q. found_at (set fs i w) 0 q q (omega arith) ∙ set_at fs i q w l ∙ ap (λ (o : Option (Few V)). cond (nat_eq i q) (Some w) o) (sym (found_at fs 0 q q (omega arith))))
      (subst (λ (o : Option (Few V)). IsWith (items_at o) v (items_of w)) (sym (found_at fs 0 i i (omega arith) ∙ there)) more)

  same_from : (fs : List (Few V)) (m i : ℕ) (f w : Few V) → slice_get fs i ≡ Some f → items_of w ≡ items_of f → pairs_of (numbered_from m (set fs i w)) ≡ pairs_of (numbered_from m fs)
  same_from [] m i f w h e = refl
  same_from (g ∷ fs) m zero f w h e =
      let q : g ≡ f = cc in
      ap (λ (vs : List V). pairs_from m vs ++ pairs_of (numbered_from (suc m) fs)) (e ∙ ap (λ (x : Few V). items_of x) (sym q))
  same_from (g ∷ fs) m (suc i) f w h e = ap (λ (ps : List (ℕ × V)). pairs_from m (items_of g) ++ ps) (same_from fs (suc m) i f w h e)

  -- values that are as they were leave the pairs
  pub same_values : (fs : List (Few V)) (i : ℕ) (f w : Few V) → slice_get fs i ≡ Some f → items_of w ≡ items_of f → numbered_pairs (set fs i w) ≡ numbered_pairs fs
  same_values fs i f w h e = same_from fs 0 i f w h e

  empty_from : (fs : List (Few V)) (m : ℕ) → pairs_of (numbered_from m (fs ++ Empty ∷ [])) ≡ pairs_of (numbered_from m fs)
  empty_from [] m = refl
  empty_from (f ∷ fs) m = ap (λ (ps : List (ℕ × V)). pairs_from m (items_of f) ++ ps) (empty_from fs (suc m))

  -- an empty place at the end gives no pairs
  pub empty_more : (fs : List (Few V)) → numbered_pairs (fs ++ Empty ∷ []) ≡ numbered_pairs fs
  empty_more fs = empty_from fs 0

  -- what is read at a place stands there
  pub read_at : (fs ds : List (Few V)) (i : ℕ) (f : Few V) → ds ≡ fs → i < length ds → f ≡ get_or ds i f → slice_get fs i ≡ Some f
  read_at fs ds i f e l r = subst (λ (xs : List (Few V)). slice_get xs i ≡ Some f) e (slice_get_read ds (length ds) i f refl l r)

  module _ (fs : List (Few V)) (i : ℕ) (f w : Few V) (there : slice_get fs i ≡ Some f) (below : i < length fs) (old : List (ℕ × V)) (is : numbered_pairs fs ≡ old) where
    pub put_more : (v : V) → IsWith (items_of f) v (items_of w) → IsWith old (i, v) (numbered_pairs (set fs i w))
    put_more v more = subst (λ (ps : List (ℕ × V)). IsWith ps (i, v) (numbered_pairs (set fs i w))) is (value_more fs i v f w there below more)

    pub put_same : items_of w ≡ items_of f → numbered_pairs (set fs i w) ≡ old
    put_same e = same_values fs i f w there e ∙ is

  -- whether a value was new at its place, and so under its number
  pub new_at : (fs : List (Few V)) (i : ℕ) (f : Few V) → slice_get fs i ≡ Some f → (old : List (ℕ × V)) → numbered_pairs fs ≡ old → (v : V) (b : Bool) → IsTrue b ↔ (Contains (items_of f) v → ⊥) → IsTrue b ↔ (Contains old (i, v) → ⊥)
  new_at fs i f there old is v b h =
      let a = subst (λ (o : Option (Few V)). Contains (numbered_pairs fs) (i, v) ↔ Contains (items_at o) v) there (at_number fs i v) in
      subst (λ (ps : List (ℕ × V)). IsTrue b ↔ (Contains ps (i, v) → ⊥)) is ((λ t m. h.0 t (a.0 m)), λ n. h.1 (λ m. n (a.1 m)))

pub on_ok : {T E : Type 0} (r : Result T E) {P Q : Type 0} → OnOk r P → (P → Q) → OnOk r Q
on_ok (Ok x) p f = f p
on_ok (Err e) p f = tt

pub on_error : {T E : Type 0} (r : Result T E) {P Q : Type 0} → OnErr r P → (P → Q) → OnErr r Q
on_error (Ok x) p f = tt
on_error (Err e) p f = f p

pub if_ok : {T E : Type 0} (r : Result T E) {P Q : T → Type 0} → IfOk r P → ((x : T) → P x → Q x) → IfOk r Q
if_ok (Ok x) p f = f x p
if_ok (Err e) p f = tt

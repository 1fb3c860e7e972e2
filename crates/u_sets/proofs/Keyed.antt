-- The pairs of the keys of a map, and what a put makes of them.
use Rattle.std.proofs.Common.{◌≡◌, ◌↔◌, ◌⊎◌, inl, inr, ℕ, ◌+◌, ◌<◌, ◌≤◌, List, [], ◌∷◌, ◌++◌, Bool, true, false, cond, Option, Some, None, Contains, length, map, subst, sym, ◌∙◌, ap, refl, arith, append-nil, append_assoc, take, get_or}
use Rattle.std.specs.Prelude.{nat_lt, if◌then◌else◌, slice_get, Result, Ok, Err, IfOk}
use Rattle.std.specs.Cmp.{IsEquivalence}
use Rattle.std.specs.Map.{keys_of, lookup, set_value}
use Rattle.std.specs.List.{IsDistinct, AllByRecursion}
use Rattle.std.proofs.lemmas.Map.Views.{Contains-from_lookup, lookup-from_Contains}
use Rattle.std.proofs.lemmas.List.Elements.{Contains-append_left, Contains-append_right, Contains-append_cases, Contains-push_cases}
use Rattle.std.proofs.lemmas.List.{take_more, take_all, map-append}
use Rattle.std.proofs.lemmas.Option.{get_or_from_slice_get}
use Rattle.std.proofs.lemmas.Bool.{ltb-true, lt-ltb}
use Rattle.u_base.specs.Firing.{Distinct}
use Rattle.u_base.proofs.Member.{Contains-nil, Contains-head, Contains-tail, Contains-cons_cases}
use Rattle.u_sets.specs.Members.{IsWith}
use Rattle.u_sets.specs.declared.few.Few.{Few}
use Rattle.u_sets.specs.Pairs.{items_of, pairs_from, pairs_of, group_pairs, pairs_of_many, HasAnother, GroupsAreDistinct}

pub not_below : (n m : ℕ) → m ≤ n → nat_lt n m ≡ false
not_below n m l = at (nat_lt n m) refl
  where
    at : (b : Bool) → nat_lt n m ≡ b → nat_lt n m ≡ false
    at true q = absurd (let h = ltb-true n m q in omega arith)
    at false q = q

-- what follows of a value, if there is one
pub ok_then : {T E : Type 0} (r : Result T E) (P Q R : T → Type 0) → IfOk r P → IfOk r Q → ((x : T) → P x → Q x → R x) → IfOk r R
ok_then (Ok x) P Q R p q f = f x p q
ok_then (Err e) P Q R p q f = tt

-- of two alone it does not matter which was put in last
pub turned : {X : Type 0} (a b : X) (xs : List X) → IsWith (a ∷ []) b xs → IsWith (b ∷ []) a xs
turned a b xs w x = (
  (λ m. elim ((w x).0 m) [
    | inl n ↦ elim (Contains-cons_cases a x [] n) [ inl e ↦ inr e | inr k ↦ absurd (Contains-nil x k) ]
    | inr e ↦ inl (subst (λ (z : _). Contains (b ∷ []) z) e (Contains-head b []))
  ]),
  λ s. (w x).1 (elim s [
    | inl n ↦ elim (Contains-cons_cases b x [] n) [ inl e ↦ inr e | inr k ↦ absurd (Contains-nil x k) ]
    | inr e ↦ inl (subst (λ (z : _). Contains (a ∷ []) z) e (Contains-head a []))
  ]),
)

-- another than x, in a list of two or more
pub another : {X : Type 0} (vs : List X) (x : X) → Distinct vs → 2 ≤ length vs → Contains vs x → HasAnother (Contains vs) x
another [] x d l m = absurd (omega arith)
another (a ∷ []) x d l m = absurd (omega arith)
another (a ∷ b ∷ vs) x d l m =
    elim (Contains-cons_cases a x (b ∷ vs) m) [
      | inl e ↦ (b, Contains-tail a b (b ∷ vs) (Contains-head b vs), λ q. d.0 (subst (λ (z : _). Contains (b ∷ vs) z) (q ∙ sym e) (Contains-head b vs)))
      | inr n ↦ (a, Contains-head a (b ∷ vs), λ q. d.0 (subst (λ (z : _). Contains (b ∷ vs) z) (sym q) n))
    ]

-- with another than x there are two or more
pub two_or_more : {X : Type 0} (vs : List X) (x : X) → Contains vs x → HasAnother (Contains vs) x → 2 ≤ length vs
two_or_more [] x m h = absurd (Contains-nil x m)
two_or_more (a ∷ []) x m (y, n, q) = absurd (q (sym (single y n) ∙ single x m))
  where
    single : (z : _) → Contains (a ∷ []) z → a ≡ z
    single z k = elim (Contains-cons_cases a z [] k) [ inl e ↦ e | inr j ↦ absurd (Contains-nil z j) ]
two_or_more (a ∷ b ∷ vs) x m h = omega arith

module _ {K V : Type 0} where
  pub of_key : (k : K) (vs : List V) (j : K) (v : V) → Contains (pairs_from k vs) (j, v) → (k ≡ j) × Contains vs v
  of_key k [] j v m = absurd (Contains-nil (j, v) m)
  of_key k (w ∷ vs) j v m =
      elim (Contains-cons_cases (k, w) (j, v) (pairs_from k vs) m) [
        | inl e ↦ (ap (λ (p : K × V). p.0) e, subst (λ (z : V). Contains (w ∷ vs) z) (ap (λ (p : K × V). p.1) e) (Contains-head w vs))
        | inr n ↦ (let r = of_key k vs j v n in (r.0, Contains-tail w v vs r.1))
      ]

  pub to_key : (k : K) (vs : List V) (v : V) → Contains vs v → Contains (pairs_from k vs) (k, v)
  to_key k [] v m = absurd (Contains-nil v m)
  to_key k (w ∷ vs) v m =
      elim (Contains-cons_cases w v vs m) [
        | inl e ↦ subst (λ (z : V). Contains ((k, w) ∷ pairs_from k vs) (k, z)) e (Contains-head (k, w) (pairs_from k vs))
        | inr n ↦ Contains-tail (k, w) (k, v) (pairs_from k vs) (to_key k vs v n)
      ]

  pub from_more : (k : K) (vs : List V) (v : V) → pairs_from k (vs ++ v ∷ []) ≡ pairs_from k vs ++ (k, v) ∷ []
  from_more k [] v = refl
  from_more k (w ∷ vs) v = ap (λ (ps : List (K × V)). (k, w) ∷ ps) (from_more k vs v)

  -- the values of a group stand under its key
  abbrev pub Stands : ℕ → List (K × Few V) → K → V → Type 0
  Stands n es k v = (f : Few V) × Contains es (k, f) × (n ≤ length (items_of f)) × Contains (items_of f) v

  in_group : (n : ℕ) (e : K × Few V) (k : K) (v : V) → Contains (group_pairs n e) (k, v) → (e.0 ≡ k) × (n ≤ length (items_of e.1)) × Contains (items_of e.1) v
  in_group n e k v m = at (nat_lt (length (items_of e.1)) n) refl m
    where
      at : (b : Bool) → nat_lt (length (items_of e.1)) n ≡ b → Contains (if b then [] else pairs_from e.0 (items_of e.1)) (k, v) → (e.0 ≡ k) × (n ≤ length (items_of e.1)) × Contains (items_of e.1) v
      at true q h = absurd (Contains-nil (k, v) h)
      at false q h =
          let r = of_key e.0 (items_of e.1) k v h in
          (r.0, grind (arith, lt-ltb (length (items_of e.1)) n, q), r.1)

  of_group : (n : ℕ) (e : K × Few V) (v : V) → n ≤ length (items_of e.1) → Contains (items_of e.1) v → Contains (group_pairs n e) (e.0, v)
  of_group n e v l m = at (nat_lt (length (items_of e.1)) n) refl
    where
      at : (b : Bool) → nat_lt (length (items_of e.1)) n ≡ b → Contains (if b then [] else pairs_from e.0 (items_of e.1)) (e.0, v)
      at true q = absurd (let h = ltb-true (length (items_of e.1)) n q in omega arith)
      at false q = to_key e.0 (items_of e.1) v m

  pub stands : (n : ℕ) (es : List (K × Few V)) (k : K) (v : V) → Contains (pairs_of_many n es) (k, v) → Stands n es k v
  stands n [] k v m = absurd (Contains-nil (k, v) m)
  stands n (e ∷ es) k v m =
      elim (Contains-append_cases (group_pairs n e) (pairs_of_many n es) (k, v) m) [
        | inl a ↦ (let r = in_group n e k v a in (e.1, subst (λ (j : K). Contains (e ∷ es) (j, e.1)) r.0 (Contains-head e es), r.1, r.2))
        | inr b ↦ (let r = stands n es k v b in (r.0, Contains-tail e (k, r.0) es r.1, r.2, r.3))
      ]

  pub stood : (n : ℕ) (es : List (K × Few V)) (k : K) (v : V) → Stands n es k v → Contains (pairs_of_many n es) (k, v)
  stood n [] k v (f, m, l, h) = absurd (Contains-nil (k, f) m)
  stood n (e ∷ es) k v (f, m, l, h) =
      elim (Contains-cons_cases e (k, f) es m) [
        | inl q ↦ Contains-append_left (group_pairs n e) (pairs_of_many n es) (k, v) (subst (λ (p : K × Few V). Contains (group_pairs n p) (k, v)) (sym q) (of_group n (k, f) v l h))
        | inr r ↦ Contains-append_right (group_pairs n e) (pairs_of_many n es) (k, v) (stood n es k v (f, r, l, h))
      ]

  pub all_of_many : (es : List (K × Few V)) → pairs_of_many 0 es ≡ pairs_of es
  all_of_many [] = refl
  all_of_many (e ∷ es) =
      ap (λ (b : Bool). (if b then [] else pairs_from e.0 (items_of e.1)) ++ pairs_of_many 0 es) (not_below (length (items_of e.1)) 0 (omega arith))
      ∙ ap (λ (ps : List (K × V)). pairs_from e.0 (items_of e.1) ++ ps) (all_of_many es)

  -- a whole group, once all its values were added
  pub group_whole : (n : ℕ) (k : K) (f : Few V) (vs : List V) (i : ℕ) (out start : List (K × V)) → length vs ≤ i → vs ≡ items_of f → n ≤ length vs
      → out ≡ start ++ pairs_from k (take i vs) → out ≡ start ++ group_pairs n (k, f)
  group_whole n k f vs i out start l is m h =
      h ∙ ap (λ (ws : List V). start ++ pairs_from k ws) (take_all i vs l ∙ is)
      ∙ ap (λ (b : Bool). start ++ (if b then [] else pairs_from k (items_of f))) (sym (not_below (length (items_of f)) n (subst (λ (ws : List V). n ≤ length ws) is m)))

  -- one pair more, as d reads it
  pub pairs_more : {P : Type 0} (d : P → K × V) (old new : List P) (p : P) (start : List (K × V)) (k : K) (vs : List V) (i : ℕ) (v : V) → i < length vs → v ≡ get_or vs i v
      → new ≡ old ++ p ∷ [] → d p ≡ (k, v) → map d old ≡ start ++ pairs_from k (take i vs) → map d new ≡ start ++ pairs_from k (take (i + 1) vs)
  pairs_more {P} d old new p start k vs i v l at n is all =
      ap (λ (ps : List P). map d ps) n
      ∙ map-append d old (p ∷ [])
      ∙ ap (λ (t : List (K × V)). t ++ d p ∷ []) all
      ∙ append_assoc start (pairs_from k (take i vs)) (d p ∷ [])
      ∙ ap (λ (q : K × V). start ++ (pairs_from k (take i vs) ++ q ∷ [])) is
      ∙ ap (λ (t : List (K × V)). start ++ t) (sym (from_more k (take i vs) v))
      ∙ ap (λ (ws : List V). start ++ pairs_from k ws) (sym (take_more vs i v l ∙ ap (λ (w : V). take i vs ++ w ∷ []) (sym at)))

  many_append : (n : ℕ) (es : List (K × Few V)) (e : K × Few V) → pairs_of_many n (es ++ e ∷ []) ≡ pairs_of_many n es ++ group_pairs n e
  many_append n [] e = append-nil (group_pairs n e)
  many_append n (d ∷ es) e = ap (λ (ps : List (K × V)). group_pairs n d ++ ps) (many_append n es e) ∙ sym (append_assoc (group_pairs n d) (pairs_of_many n es) (group_pairs n e))

  one_on : (es : List (K × Few V)) (i : ℕ) (e : K × Few V) → i < length es → Some e ≡ slice_get es i → take (i + 1) es ≡ take i es ++ e ∷ []
  one_on es i e l at = take_more es i e l ∙ ap (λ (d : K × Few V). take i es ++ d ∷ []) (get_or_from_slice_get es i e e (sym at))

  -- one group more
  pub many_more : (n : ℕ) (es : List (K × Few V)) (i : ℕ) (e : K × Few V) (old new : List (K × V)) → i < length es → Some e ≡ slice_get es i → old ≡ pairs_of_many n (take i es)
      → new ≡ old ++ group_pairs n e → new ≡ pairs_of_many n (take (i + 1) es)
  many_more n es i e old new l at all more =
      more ∙ ap (λ (ps : List (K × V)). ps ++ group_pairs n e) all ∙ sym (many_append n (take i es) e) ∙ ap (λ (ds : List (K × Few V)). pairs_of_many n ds) (sym (one_on es i e l at))

  pub apart_more : (es : List (K × Few V)) (i : ℕ) (e : K × Few V) → i < length es → Some e ≡ slice_get es i → GroupsAreDistinct (take i es) → Distinct (items_of e.1) → GroupsAreDistinct (take (i + 1) es)
  apart_more es i e l at all one d m =
      elim (Contains-push_cases (take i es) e d (subst (λ (ds : List (K × Few V)). Contains ds d) (one_on es i e l at) m))
      [ inl a ↦ all d a | inr q ↦ subst (λ (x : K × Few V). Distinct (items_of x.1)) q one ]

  -- values that are as they were leave the pairs
  pub same_pairs : (test : K → Bool) (es : List (K × Few V)) (f w : Few V) → lookup test es ≡ Some f → items_of w ≡ items_of f → pairs_of (set_value test es w) ≡ pairs_of es
  same_pairs test [] f w h q = refl
  same_pairs test (e ∷ es) f w h q = at (λ k. same_pairs test es f w k q) (test e.0) refl
    where
      at : (lookup test es ≡ Some f → pairs_of (set_value test es w) ≡ pairs_of es) → (b : Bool) → test e.0 ≡ b → pairs_of (cond b ((e.0, w) ∷ es) (e ∷ set_value test es w)) ≡ pairs_of (e ∷ es)
      at rest true p =
          let k : Some e.1 ≡ Some f = ap (λ (b : Bool). cond b (Some e.1) (lookup test es)) (sym p) ∙ h in
          let g : e.1 ≡ f = cc in
          ap (λ (vs : List V). pairs_from e.0 vs ++ pairs_of es) (q ∙ ap (λ (x : Few V). items_of x) (sym g))
      at rest false p = ap (λ (ps : List (K × V)). pairs_from e.0 (items_of e.1) ++ ps) (rest (ap (λ (b : Bool). cond b (Some e.1) (lookup test es)) (sym p) ∙ h))

  from_distinct : (k : K) (vs : List V) → Distinct vs → Distinct (pairs_from k vs)
  from_distinct k [] d = tt
  from_distinct k (v ∷ vs) d = ((λ m. d.0 (of_key k vs k v m).1), from_distinct k vs d.1)

  pub group_distinct : (n : ℕ) (e : K × Few V) → Distinct (items_of e.1) → Distinct (group_pairs n e)
  group_distinct n e d = at (nat_lt (length (items_of e.1)) n)
    where
      at : (b : Bool) → Distinct (if b then [] else pairs_from e.0 (items_of e.1))
      at true = tt
      at false = from_distinct e.0 (items_of e.1) d

pub alone : {X : Type 0} (v : X) → IsWith [] v (v ∷ [])
alone v x = (
  (λ m. elim (Contains-cons_cases v x [] m) [ inl e ↦ inr e | inr k ↦ inl k ]),
  λ s. elim s [ inl m ↦ absurd (Contains-nil x m) | inr e ↦ subst (λ (z : _). Contains (v ∷ []) z) e (Contains-head v []) ],
)

pub joined : {X : Type 0} (xs ys : List X) → Distinct xs → Distinct ys → ((x : X) → Contains xs x → Contains ys x → ⊥) → Distinct (xs ++ ys)
joined [] ys a b n = b
joined (x ∷ xs) ys a b n = (
  (λ m. elim (Contains-append_cases xs ys x m) [ inl k ↦ a.0 k | inr k ↦ n x (Contains-head x xs) k ]),
  joined xs ys a.1 b (λ z k. n z (Contains-tail x z xs k)),
)

abbrev pub items_at : {V : Type 0} → Option (Few V) → List V
items_at None = []
items_at (Some f) = items_of f

module _ {K V : Type 0} (E : K → K → Bool) (laws : IsEquivalence E) (exact : (a b : K) → E a b ≡ true → a ≡ b) where
  one_group : (es : List (K × Few V)) → IsDistinct E (keys_of es) → (k : K) (f g : Few V) → Contains es (k, f) → Contains es (k, g) → f ≡ g
  one_group es u k f g m n =
      let a = lookup-from_Contains laws k f es u m in
      let b = lookup-from_Contains laws k g es u n in
      cc

  key_apart : (k : K) (es : List (K × Few V)) → AllByRecursion (λ y. E k y ≡ false) (keys_of es) → (f : Few V) → Contains es (k, f) → ⊥
  key_apart k [] a f m = Contains-nil (k, f) m
  key_apart k (e ∷ es) a f m =
      elim (Contains-cons_cases e (k, f) es m) [
        | inl q ↦ (let r = subst (λ (j : K). E k j ≡ true) (sym (ap (λ (p : K × Few V). p.0) q)) (laws.refl k) in let s = a.0 in cc)
        | inr r ↦ key_apart k es a.1 f r
      ]

  pub many_distinct : (n : ℕ) (es : List (K × Few V)) → IsDistinct E (keys_of es) → GroupsAreDistinct es → Distinct (pairs_of_many n es)
  unfolding IsDistinct
  many_distinct n [] u d = tt
  many_distinct n (e ∷ es) u d =
      joined (group_pairs n e) (pairs_of_many n es) (group_distinct n e (d e (Contains-head e es))) (many_distinct n es u.1 (λ p m. d p (Contains-tail e p es m)))
      (λ p a b.
      let g = in_group n e p.0 p.1 a in
      let s = stands n es p.0 p.1 b in
      key_apart e.0 es u.0 s.0 (subst (λ (j : K). Contains es (j, s.0)) (sym g.0) s.1))

  -- the pairs of a key are those of what a look-up finds
  pub at_key : (es : List (K × Few V)) → IsDistinct E (keys_of es) → (k : K) (v : V) → Contains (pairs_of es) (k, v) ↔ Contains (items_at (lookup (E k) es)) v
  at_key es u k v = (to, back (lookup (E k) es) refl)
    where
      to : Contains (pairs_of es) (k, v) → Contains (items_at (lookup (E k) es)) v
      to m =
          let s = stands 0 es k v (subst (λ (ps : List (K × V)). Contains ps (k, v)) (sym (all_of_many es)) m) in
          subst (λ (o : Option (Few V)). Contains (items_at o) v) (sym (lookup-from_Contains laws k s.0 es u s.1)) s.3

      back : (o : Option (Few V)) → lookup (E k) es ≡ o → Contains (items_at o) v → Contains (pairs_of es) (k, v)
      back None e m = absurd (Contains-nil v m)
      back (Some f) e m = subst (λ (ps : List (K × V)). Contains ps (k, v)) (all_of_many es) (stood 0 es k v (f, Contains-from_lookup exact k f es e, omega arith, m))

  -- one value more under a key
  pub one_pair_more : (es fs : List (K × Few V)) → IsDistinct E (keys_of es) → IsDistinct E (keys_of fs) → (k : K) (v : V) (f : Few V)
      → ((q : K) → lookup (E q) fs ≡ cond (E k q) (Some f) (lookup (E q) es)) → IsWith (items_at (lookup (E k) es)) v (items_of f) → IsWith (pairs_of es) (k, v) (pairs_of fs)
  one_pair_more es fs u w k v f new more (j, x) = at (E k j) refl
    where
      at : (b : Bool) → E k j ≡ b → Contains (pairs_of fs) (j, x) ↔ (Contains (pairs_of es) (j, x) ⊎ ◌≡◌ {A = K × V} (k, v) (j, x))
      at true e = (to, back)
        where
          is : k ≡ j
          is = exact k j e

          now : lookup (E j) fs ≡ Some f
          now = new j ∙ ap (λ (b : Bool). cond b (Some f) (lookup (E j) es)) e

          to : Contains (pairs_of fs) (j, x) → Contains (pairs_of es) (j, x) ⊎ ◌≡◌ {A = K × V} (k, v) (j, x)
          to m =
              elim ((more x).0 (subst (λ (o : Option (Few V)). Contains (items_at o) x) now ((at_key fs w j x).0 m))) [
                | inl n ↦ inl (subst (λ (i : K). Contains (pairs_of es) (i, x)) is ((at_key es u k x).1 n))
                | inr q ↦ inr (ap (λ (i : K). (i, v)) is ∙ ap (λ (y : V). (j, y)) q)
              ]

          back : Contains (pairs_of es) (j, x) ⊎ ◌≡◌ {A = K × V} (k, v) (j, x) → Contains (pairs_of fs) (j, x)
          back s =
              (at_key fs w j x).1 (subst (λ (o : Option (Few V)). Contains (items_at o) x) (sym now) ((more x).1 (elim s [
                | inl n ↦ inl ((at_key es u k x).0 (subst (λ (i : K). Contains (pairs_of es) (i, x)) (sym is) n))
                | inr q ↦ inr (ap (λ (p : K × V). p.1) q)
              ])))
      at false e = (
        (λ m. inl ((at_key es u j x).1 (subst (λ (o : Option (Few V)). Contains (items_at o) x) same ((at_key fs w j x).0 m)))),
        λ s. elim s [
          | inl n ↦ (at_key fs w j x).1 (subst (λ (o : Option (Few V)). Contains (items_at o) x) (sym same) ((at_key es u j x).0 n))
          | inr q ↦ (let r = subst (λ (i : K). E k i ≡ true) (ap (λ (p : K × V). p.0) q) (laws.refl k) in absurd (cc))
        ],
      )
        where
          same : lookup (E j) fs ≡ lookup (E j) es
          same = new j ∙ ap (λ (b : Bool). cond b (Some f) (lookup (E j) es)) e

  -- the pairs of keys with two values or more are those that have another beside them
  pub shared : (es : List (K × Few V)) → IsDistinct E (keys_of es) → GroupsAreDistinct es → (k : K) (x : V)
      → Contains (pairs_of_many 2 es) (k, x) ↔ (Contains (pairs_of es) (k, x) × HasAnother (λ y. Contains (pairs_of es) (k, y)) x)
  shared es u d k x = (to, back)
    where
      pair : (f : Few V) (y : V) → Contains es (k, f) → Contains (items_of f) y → Contains (pairs_of es) (k, y)
      pair f y m n = subst (λ (ps : List (K × V)). Contains ps (k, y)) (all_of_many es) (stood 0 es k y (f, m, omega arith, n))

      to : Contains (pairs_of_many 2 es) (k, x) → Contains (pairs_of es) (k, x) × HasAnother (λ y. Contains (pairs_of es) (k, y)) x
      to m =
          let s = stands 2 es k x m in
          let o = another (items_of s.0) x (d (k, s.0) s.1) s.2 s.3 in
          (pair s.0 x s.1 s.3, (o.0, pair s.0 o.0 s.1 o.1, o.2))

      back : Contains (pairs_of es) (k, x) × HasAnother (λ y. Contains (pairs_of es) (k, y)) x → Contains (pairs_of_many 2 es) (k, x)
      back (m, (y, n, q)) =
          let s = stands 0 es k x (subst (λ (ps : List (K × V)). Contains ps (k, x)) (sym (all_of_many es)) m) in
          let t = stands 0 es k y (subst (λ (ps : List (K × V)). Contains ps (k, y)) (sym (all_of_many es)) n) in
          let g = subst (λ (f : Few V). Contains (items_of f) y) (one_group es u k t.0 s.0 t.1 s.1) t.3 in
          stood 2 es k x (s.0, s.1, two_or_more (items_of s.0) x s.3 (y, g, q), s.3)

-- What a set of keys in order has, and what an insert makes of it.
use Rattle.std.proofs.Common.{◌≡◌, ◌↔◌, ◌⊎◌, inl, inr, List, [], ◌∷◌, Bool, true, false, cond, ◌||◌, IsTrue, Contains, subst, sym, ◌∙◌, ap, refl, Ordering, not, Option, Some, None}
use Rattle.std.specs.Prelude.{IfSome}
use Rattle.std.specs.Cmp.{IsTotalOrder, tied_itself, Equal-is}
use Rattle.std.specs.List.{list_any}
use Rattle.std.proofs.lemmas.Bool.{or_cases, or_right}
use Rattle.std.specs.Ordering.{is_eq, match_ordering}
use Rattle.std.specs.BTreeMap.{is_at}
use Rattle.std.specs.BTreeSet.{insert_key}
use Rattle.std.specs.Set.{remove_key}
use Rattle.std.specs.declared.cmp.Ordering.TheVariants.{Less, Equal, Greater}
use Rattle.u_base.proofs.Member.{Contains-nil, Contains-head, Contains-tail, Contains-cons_cases}
use Rattle.u_sets.specs.Rising.{Rises}
use Rattle.u_base.specs.Exact.{IsExact}
use Rattle.u_sets.specs.Members.{IsWith, IsWithout}
use Rattle.u_sets.proofs.Sorted.{turn_greater}

module _ {X : Type 0} (R : X → X → Ordering) (o : IsTotalOrder R) (exact : IsExact R) where
  pub found : (xs : List X) (x : X) → list_any (is_at (R x)) xs ≡ true → Contains xs x
  found [] x h = cc
  found (y ∷ ys) x h =
      elim (or_cases (is_at (R x) y) (list_any (is_at (R x)) ys) h) [
        | inl e ↦ subst (λ (z : X). Contains (y ∷ ys) z) (sym (exact x y ((Equal-is (R x y)).0 e))) (Contains-head y ys)
        | inr k ↦ Contains-tail y x ys (found ys x k)
      ]

  pub finds : (xs : List X) (x : X) → Contains xs x → list_any (is_at (R x)) xs ≡ true
  finds [] x m = absurd (Contains-nil x m)
  finds (y ∷ ys) x m =
      elim (Contains-cons_cases y x ys m) [
        | inl e ↦ ap (λ t. is_eq t || list_any (is_at (R x)) ys) (subst (λ (z : X). R x z ≡ Equal) (sym e) (tied_itself o x))
        | inr k ↦ or_right (is_at (R x) y) (list_any (is_at (R x)) ys) (finds ys x k)
      ]

  -- the set with x besides
  pub inserts : (xs : List X) (x : X) → IsWith xs x (insert_key R xs x)
  inserts [] x z = ((λ m. elim (Contains-cons_cases x z [] m) [ inl e ↦ inr e | inr n ↦ inl n ]), λ s. elim s [ inl n ↦ absurd (Contains-nil z n) | inr e ↦ subst (λ (w : X). Contains (x ∷ []) w) e (Contains-head x []) ])
  inserts (y ∷ ys) x z = at (inserts ys x) (R x y) refl
    where
      at : IsWith ys x (insert_key R ys x) → (r : Ordering) → R x y ≡ r → Contains (match_ordering r (x ∷ y ∷ ys) (y ∷ ys) (y ∷ insert_key R ys x)) z ↔ (Contains (y ∷ ys) z ⊎ (x ≡ z))
      at rest Less e = ((λ m. elim (Contains-cons_cases x z (y ∷ ys) m) [ inl p ↦ inr p | inr n ↦ inl n ]), λ s. elim s [ inl n ↦ Contains-tail x z (y ∷ ys) n | inr p ↦ subst (λ (w : X). Contains (x ∷ y ∷ ys) w) p (Contains-head x (y ∷ ys)) ])
      at rest Equal e = ((λ m. inl m), λ s. elim s [ inl n ↦ n | inr p ↦ subst (λ (w : X). Contains (y ∷ ys) w) (sym (exact x y e) ∙ p) (Contains-head y ys) ])
      at rest Greater e = (to, back)
        where
          to : Contains (y ∷ insert_key R ys x) z → Contains (y ∷ ys) z ⊎ (x ≡ z)
          to m =
              elim (Contains-cons_cases y z (insert_key R ys x) m) [
                | inl p ↦ inl (subst (λ (w : X). Contains (y ∷ ys) w) p (Contains-head y ys))
                | inr n ↦ elim ((rest z).0 n) [ inl k ↦ inl (Contains-tail y z ys k) | inr k ↦ inr k ]
              ]

          back : Contains (y ∷ ys) z ⊎ (x ≡ z) → Contains (y ∷ insert_key R ys x) z
          back (inl m) =
              elim (Contains-cons_cases y z ys m) [
                | inl p ↦ subst (λ (w : X). Contains (y ∷ insert_key R ys x) w) p (Contains-head y (insert_key R ys x))
                | inr n ↦ Contains-tail y z (insert_key R ys x) ((rest z).1 (inl n))
              ]
          back (inr e) = Contains-tail y z (insert_key R ys x) ((rest z).1 (inr e))

  pub rises_still : (xs : List X) (x : X) → Rises R xs → Rises R (insert_key R xs x)
  rises_still [] x r = ((λ y m. absurd (Contains-nil y m)), tt)
  rises_still (y ∷ ys) x r = at (rises_still ys x r.1) (R x y) refl
    where
      at : Rises R (insert_key R ys x) → (t : Ordering) → R x y ≡ t → Rises R (match_ordering t (x ∷ y ∷ ys) (y ∷ ys) (y ∷ insert_key R ys x))
      at still Less e =
          ((λ z m. elim (Contains-cons_cases y z ys m) [ inl p ↦ subst (λ (w : X). R x w ≡ Less) p e | inr n ↦ o.trans x y z e (r.0 z n) ]), r)
      at still Equal e = r
      at still Greater e =
          ((λ z m. elim ((inserts ys x z).0 m) [ inl n ↦ r.0 z n | inr p ↦ subst (λ (w : X). R y w ≡ Less) p (turn_greater R o y x e) ]), still)

  -- whether x was not there
  pub was_new : (xs : List X) (x : X) (b : Bool) → b ≡ not (list_any (is_at (R x)) xs) → IsTrue b ↔ (Contains xs x → ⊥)
  was_new xs x b h = at (list_any (is_at (R x)) xs) refl
    where
      at : (t : Bool) → list_any (is_at (R x)) xs ≡ t → IsTrue b ↔ (Contains xs x → ⊥)
      at true e = let f : b ≡ false = h ∙ ap not e in ((λ g. cc), λ n. absurd (n (found xs x e)))
      at false e = let f : b ≡ true = h ∙ ap not e in ((λ g m. let k = finds xs x m in cc), λ n. f)

  at_itself : (x y : X) → x ≡ y → is_at (R x) y ≡ true
  at_itself x y e = subst (λ (z : X). is_at (R x) z ≡ true) e (ap is_eq (tied_itself o x))

  apart_from_less : (y z : X) → R y z ≡ Less → y ≡ z → ⊥
  apart_from_less y z l e = let t = tied_itself o y in let u = subst (λ (w : X). R y w ≡ Less) (sym e) l in cc

  -- the set without x
  pub removes : (xs : List X) (x : X) → Rises R xs → IsWithout xs x (remove_key (is_at (R x)) xs)
  removes [] x r = record { less = λ z m. m; gone = λ m. Contains-nil x m; rest = λ z m. absurd (Contains-nil z m) }
  removes (y ∷ ys) x r = by (is_at (R x) y) refl (removes ys x r.1)
    where
      by : (b : Bool) → is_at (R x) y ≡ b → IsWithout ys x (remove_key (is_at (R x)) ys) → IsWithout (y ∷ ys) x (cond b ys (y ∷ remove_key (is_at (R x)) ys))
      by true h w =
          let e : x ≡ y = exact x y ((Equal-is (R x y)).0 h) in
          record {
            less = λ z m. Contains-tail y z ys m;
            gone = λ m. apart_from_less y x (r.0 x m) (sym e);
            rest = λ z m. elim (Contains-cons_cases y z ys m) [ inl q ↦ inl (e ∙ q) | inr n ↦ inr n ];
          }
      by false h w = record {
        less = λ z m. elim (Contains-cons_cases y z (remove_key (is_at (R x)) ys) m) [ inl q ↦ subst (λ (v : X). Contains (y ∷ ys) v) q (Contains-head y ys) | inr n ↦ Contains-tail y z ys (w.less z n) ];
        gone = λ m. elim (Contains-cons_cases y x (remove_key (is_at (R x)) ys) m) [ inl q ↦ let t = at_itself x y (sym q) in cc | inr n ↦ w.gone n ];
        rest = λ z m. elim (Contains-cons_cases y z ys m) [ inl q ↦ inr (subst (λ (v : X). Contains (y ∷ remove_key (is_at (R x)) ys) v) q (Contains-head y (remove_key (is_at (R x)) ys))) | inr n ↦ over z (w.rest z n) ];
      }
        where
          over : (z : X) → (x ≡ z) ⊎ Contains (remove_key (is_at (R x)) ys) z → (x ≡ z) ⊎ Contains (y ∷ remove_key (is_at (R x)) ys) z
          over z (inl q) = inl q
          over z (inr n) = inr (Contains-tail y z (remove_key (is_at (R x)) ys) n)

  pub rises_without : (xs : List X) (x : X) → Rises R xs → Rises R (remove_key (is_at (R x)) xs)
  rises_without [] x r = r
  rises_without (y ∷ ys) x r = by (is_at (R x) y) (rises_without ys x r.1)
    where
      by : (b : Bool) → Rises R (remove_key (is_at (R x)) ys) → Rises R (cond b ys (y ∷ remove_key (is_at (R x)) ys))
      by true still = r.1
      by false still = ((λ z m. r.0 z ((removes ys x r.1).less z m)), still)

  -- the set without its least member
  without_first : (k : X) (rest : List X) → Rises R (k ∷ rest) → IsWithout (k ∷ rest) k rest
  without_first k rest r = record {
    less = λ z m. Contains-tail k z rest m;
    gone = λ m. apart_from_less k k (r.0 k m) refl;
    rest = λ z m. Contains-cons_cases k z rest m;
  }

  pub first_out : (o : Option X) (xs rest : List X) → IfSome o (λ k. xs ≡ k ∷ rest) → Rises R xs → IfSome o (λ k. IsWithout xs k rest)
  first_out None xs rest h r = h
  first_out (Some k) xs rest h r = subst (λ (ys : List X). IsWithout ys k rest) (sym h) (without_first k rest (subst (λ (ys : List X). Rises R ys) h r))

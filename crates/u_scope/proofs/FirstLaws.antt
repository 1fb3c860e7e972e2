-- The first of what tokens show, from node to node.
use Rattle.std.proofs.Common.{◌≡◌, ℕ, ◌+◌, ◌<◌, ◌≤◌, Bool, true, false, cond, nat_lt, Option, Some, None, ◌⊎◌, inl, inr, refl, sym, ap, subst, arith}
use Rattle.std.proofs.Math.Nat.{eq-or-lt_of_le}
use Rattle.u_scope.specs.Firsts.{before_by, first_by, IsLeastBelow, IsLeastBy}

-- a number below k + 1 is k or below it
last_or_below : (j k : ℕ) → j < k + 1 → (j ≡ k) ⊎ (j < k)
last_or_below j k h = let m : j ≤ k = omega arith in eq-or-lt_of_le m

-- what holds of each number below k, and of k
each_more : (P : ℕ → Type 0) (k : ℕ) → ((j : ℕ) → j < k → P j) → P k → (j : ℕ) → j < k + 1 → P j
each_more P k f e j h = elim (last_or_below j k h) [ inl q ↦ subst P (sym q) e | inr q ↦ f j q ]

module _ {X : Type 0} (token : X → ℕ) where
  -- nothing comes before b
  abbrev NotBefore : (ℕ → Option X) → X → ℕ → Type 0
  NotBefore f b j = (c : X) → f j ≡ Some c → token b ≤ token c

  not_before_none : (f : ℕ → Option X) (b : X) (j : ℕ) → f j ≡ None → NotBefore f b j
  not_before_none f b j e c g = cc

  not_before_self : (f : ℕ → Option X) (b : X) (j : ℕ) → f j ≡ Some b → NotBefore f b j
  not_before_self f b j e c g =
      let same : b ≡ c = cc in
      let even : token b ≡ token c = ap token same in
      omega arith

  not_before_other : (f : ℕ → Option X) (a b : X) (j : ℕ) → f j ≡ Some b → token a ≤ token b → NotBefore f a j
  not_before_other f a b j e m c g =
      let same : b ≡ c = cc in
      let even : token b ≡ token c = ap token same in
      omega arith

  both : (t : Bool) (f : ℕ → Option X) (k : ℕ) (a b : X) → nat_lt (token b) (token a) ≡ t → f k ≡ Some b → IsLeastBelow token f k a → IsLeastBelow token f (k + 1) (cond t b a)
  both true f k a b t e h = record {
    number = k;
    inside = omega arith;
    there = e;
    least = λ j c m g. each_more (NotBefore f b) k (λ i n d q. let first : token a ≤ token d = h.least i d n q in let before : token b < token a = grind (arith, t) in omega arith) (not_before_self f b k e) j m c g;
  }
  both false f k a b t e h = record {
    number = h.number;
    inside = let m : h.number < k = h.inside in omega arith;
    there = h.there;
    least = λ j c m g. each_more (NotBefore f a) k (λ i n d q. h.least i d n q) (let before : token a ≤ token b = grind (arith, t) in not_before_other f a b k e before) j m c g;
  }

  -- the first at one node more
  pub least_more : (f : ℕ → Option X) (k : ℕ) (o b : Option X) → f k ≡ b → IsLeastBy token f k o → IsLeastBy token f (k + 1) (first_by token o b)
  least_more f k None None e h = each_more (λ j. f j ≡ None) k h e
  least_more f k None (Some b) e h = record {
    number = k;
    inside = omega arith;
    there = e;
    least = λ j c m g. each_more (NotBefore f b) k (λ i n. not_before_none f b i (h i n)) (not_before_self f b k e) j m c g;
  }
  least_more f k (Some a) None e h = record {
    number = h.number;
    inside = let m : h.number < k = h.inside in omega arith;
    there = h.there;
    least = λ j c m g. each_more (NotBefore f a) k (λ i n d q. h.least i d n q) (not_before_none f a k e) j m c g;
  }
  least_more f k (Some a) (Some b) e h = both (nat_lt (token b) (token a)) f k a b refl e h

  behind_first : (a b c : X) (t u v : Bool) → nat_lt (token b) (token a) ≡ t → nat_lt (token c) (token b) ≡ u → nat_lt (token c) (token a) ≡ v → before_by token (cond t b a) (Some c) ≡ before_by token a (Some (cond u c b))
  behind_first a b c true true true p q r = cc
  behind_first a b c true true false p q r =
      let one : token b < token a = grind (arith, p) in
      let two : token c < token b = grind (arith, q) in
      let three : token a ≤ token c = grind (arith, r) in
      let wrong : ⊥ = omega arith in
      elim wrong [ ]
  behind_first a b c true false v p q r = cc
  behind_first a b c false true v p q r = refl
  behind_first a b c false false true p q r =
      let one : token a ≤ token b = grind (arith, p) in
      let two : token b ≤ token c = grind (arith, q) in
      let three : token c < token a = grind (arith, r) in
      let wrong : ⊥ = omega arith in
      elim wrong [ ]
  behind_first a b c false false false p q r = cc

  -- of three, the first of the first two and the third, or the first and the first of the other two
  first_of_three : (o n v : Option X) → first_by token (first_by token o n) v ≡ first_by token o (first_by token n v)
  first_of_three None n v = refl
  first_of_three (Some a) None v = refl
  first_of_three (Some a) (Some b) None = refl
  first_of_three (Some a) (Some b) (Some c) = ap (λ x. Some x) (behind_first a b c (nat_lt (token b) (token a)) (nat_lt (token c) (token b)) (nat_lt (token c) (token a)) refl refl refl)

  -- the first at one node more, of its name and of its value
  pub least_of_both : (f : ℕ → Option X) (k : ℕ) (o n v : Option X) → f k ≡ first_by token n v → IsLeastBy token f k o → IsLeastBy token f (k + 1) (first_by token (first_by token o n) v)
  least_of_both f k o n v e h = subst (IsLeastBy token f (k + 1)) (sym (first_of_three o n v)) (least_more f k o (first_by token n v) e h)

  -- what is shown by the same token or one behind it does not come first
  not_first_by : (t : Bool) (a b : X) → nat_lt (token b) (token a) ≡ t → token a ≤ token b → cond t b a ≡ a
  not_first_by true a b h k =
      let less : token b < token a = grind (arith, h) in
      let wrong : ⊥ = omega arith in
      elim wrong [ ]
  not_first_by false a b h k = refl

  pub not_first : (a b : X) → token a ≤ token b → first_by token (Some a) (Some b) ≡ Some a
  not_first a b k = ap (λ x. Some x) (not_first_by (nat_lt (token b) (token a)) a b refl k)

  pub first_none : (o b : Option X) → first_by token o b ≡ None → (o ≡ None) × (b ≡ None)
  first_none None b h = (refl, h)
  first_none (Some a) b h = cc

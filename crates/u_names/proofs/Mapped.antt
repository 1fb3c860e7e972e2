-- Lists of what a function gives.
use Rattle.std.proofs.Common.{◌≡◌, ◌⊎◌, inl, inr, ℕ, zero, suc, ◌<◌, ◌≤◌, List, [], ◌∷◌, ◌++◌, map, Contains, length, get_or, Some, subst, sym, ap, ◌∙◌, refl, arith}
use Rattle.std.specs.Prelude.{Result, Ok, Err, OnErr, IfOk, Option, IfSome, IfNone, None, slice_get}
use Rattle.u_base.specs.Firing.{Distinct}
use Rattle.u_base.proofs.Member.{Contains-nil, Contains-head, Contains-tail, Contains-cons_cases}
use Rattle.u_sets.specs.Members.{GoesLast}

module _ {X : Type 0} where
  pub get_is : (xs : List X) (i : ℕ) (d : X) → i < length xs → slice_get xs i ≡ Some (get_or xs i d)
  get_is [] i d l = absurd (omega (arith, l))
  get_is (x ∷ xs) zero d l = refl
  get_is (x ∷ xs) (suc i) d l = get_is xs i d (omega (arith, l))

  pub get_at : (xs : List X) (i : ℕ) (d x : X) → slice_get xs i ≡ Some x → get_or xs i d ≡ x
  get_at [] i d x e = absurd (cc)
  get_at (y ∷ ys) zero d x e = let h : y ≡ x = cc in h
  get_at (y ∷ ys) (suc i) d x e = get_at ys i d x e

  pub below_at : (xs : List X) (i : ℕ) (x : X) → slice_get xs i ≡ Some x → i < length xs
  below_at [] i x e = absurd (cc)
  below_at (y ∷ ys) zero x e = omega arith
  below_at (y ∷ ys) (suc i) x e = let l = below_at ys i x e in omega (arith, l)

  pub no_number_past : (xs : List X) (i : ℕ) → i < length xs → slice_get xs i ≡ None → ⊥
  no_number_past [] i l e = absurd (omega (arith, l))
  no_number_past (x ∷ xs) zero l e = absurd (cc)
  no_number_past (x ∷ xs) (suc i) l e = no_number_past xs i (omega (arith, l)) e

  pub there_at : (xs : List X) (i : ℕ) (d : X) → i < length xs → Contains xs (get_or xs i d)
  there_at [] i d l = absurd (omega (arith, l))
  there_at (x ∷ xs) zero d l = Contains-head x xs
  there_at (x ∷ xs) (suc i) d l = Contains-tail x (get_or xs i d) xs (there_at xs i d (omega (arith, l)))

  pub member_in : (xs : List X) (i : ℕ) (x : X) → i < length xs → x ≡ get_or xs i x → Contains xs x
  member_in xs i x l e = subst (λ (y : X). Contains xs y) (sym e) (there_at xs i x l)

  pub member_at : (xs : List X) (i : ℕ) (x : X) → slice_get xs i ≡ Some x → Contains xs x
  member_at xs i x e = subst (λ (y : X). Contains xs y) (get_at xs i x x e) (there_at xs i x (below_at xs i x e))

  -- what stands at a place stays there where others go behind
  pub front_stays : (xs ys : List X) (d : X) (i : ℕ) → i < length xs → get_or (xs ++ ys) i d ≡ get_or xs i d
  front_stays [] ys d i l = absurd (omega (arith, l))
  front_stays (x ∷ xs) ys d zero l = refl
  front_stays (x ∷ xs) ys d (suc i) l = front_stays xs ys d i (omega (arith, l))

  pub longer : (xs ys : List X) → length xs ≤ length (xs ++ ys)
  longer [] ys = omega arith
  longer (x ∷ xs) ys = let l = longer xs ys in omega (arith, l)

  pub stays_at : (xs ys : List X) (y d : X) (i : ℕ) → GoesLast xs y ys → i < length xs → get_or ys i d ≡ get_or xs i d
  stays_at xs ys y d i (inl (m, e)) l = ap (λ (zs : List X). get_or zs i d) e
  stays_at xs ys y d i (inr (n, e)) l = ap (λ (zs : List X). get_or zs i d) e ∙ front_stays xs (y ∷ []) d i l

  pub pushed : (xs : List X) (y : X) → length (xs ++ y ∷ []) ≡ suc (length xs)
  pushed [] y = refl
  pushed (x ∷ xs) y = ap suc (pushed xs y)

  pub no_shorter : (xs ys : List X) (y : X) → GoesLast xs y ys → length xs ≤ length ys
  no_shorter xs ys y (inl (m, e)) = let q = ap length e in omega (arith, q)
  no_shorter xs ys y (inr (n, e)) = let q = ap length e in let k = pushed xs y in omega (arith, q, k)

  last_cases : (xs : List X) (y z : X) → Contains (xs ++ y ∷ []) z → Contains xs z ⊎ (y ≡ z)
  last_cases [] y z m = elim (Contains-cons_cases y z [] m) [ inl e ↦ inr e | inr n ↦ absurd (Contains-nil z n) ]
  last_cases (x ∷ xs) y z m = elim (Contains-cons_cases x z (xs ++ y ∷ []) m) [
    | inl e ↦ inl (subst (λ (w : X). Contains (x ∷ xs) w) e (Contains-head x xs))
    | inr n ↦ elim (last_cases xs y z n) [ inl k ↦ inl (Contains-tail x z xs k) | inr e ↦ inr e ]
  ]

  pub old_or_last : (xs ys : List X) (y z : X) → GoesLast xs y ys → Contains ys z → Contains xs z ⊎ (y ≡ z)
  old_or_last xs ys y z (inl (k, e)) m = inl (subst (λ (zs : List X). Contains zs z) e m)
  old_or_last xs ys y z (inr (n, e)) m = last_cases xs y z (subst (λ (zs : List X). Contains zs z) e m)

module _ {X Y : Type 0} (f : X → Y) where
  pub given : (xs : List X) (x : X) → Contains xs x → Contains (map f xs) (f x)
  given [] x m = absurd (Contains-nil x m)
  given (z ∷ zs) x m = elim (Contains-cons_cases z x zs m) [
    | inl e ↦ subst (λ (w : X). Contains (f z ∷ map f zs) (f w)) e (Contains-head (f z) (map f zs))
    | inr n ↦ Contains-tail (f z) (f x) (map f zs) (given zs x n)
  ]

  pub given_back : (xs : List X) (y : Y) → Contains (map f xs) y → (x : X) × Contains xs x × (f x ≡ y)
  given_back [] y m = absurd (Contains-nil y m)
  given_back (x ∷ xs) y m = elim (Contains-cons_cases (f x) y (map f xs) m) [
    | inl e ↦ (x, Contains-head x xs, e)
    | inr n ↦ let r = given_back xs y n in (r.0, Contains-tail x r.0 xs r.1, r.2)
  ]

  pub get_given : (xs : List X) (i : ℕ) (x : X) → slice_get xs i ≡ Some x → slice_get (map f xs) i ≡ Some (f x)
  get_given [] i x e = absurd (cc)
  get_given (y ∷ ys) zero x e = let h : y ≡ x = cc in ap (λ (z : X). Some (f z)) h
  get_given (y ∷ ys) (suc i) x e = get_given ys i x e

  pub get_none : (xs : List X) (i : ℕ) → slice_get xs i ≡ None → slice_get (map f xs) i ≡ None
  get_none [] i e = refl
  get_none (y ∷ ys) zero e = absurd (cc)
  get_none (y ∷ ys) (suc i) e = get_none ys i e

  pub given_last : (xs : List X) (y : X) → map f (xs ++ y ∷ []) ≡ map f xs ++ f y ∷ []
  given_last [] y = refl
  given_last (x ∷ xs) y = ap (λ (zs : List Y). f x ∷ zs) (given_last xs y)

  pub given_length : (xs : List X) → length (map f xs) ≡ length xs
  given_length [] = refl
  given_length (x ∷ xs) = ap suc (given_length xs)

  pub given_distinct : (xs : List X) → ((x y : X) → Contains xs x → Contains xs y → f x ≡ f y → x ≡ y) → Distinct xs → Distinct (map f xs)
  given_distinct [] one d = tt
  given_distinct (x ∷ xs) one d = (
    (λ m. let r = given_back xs (f x) m in d.0 (subst (λ (z : X). Contains xs z) (one r.0 x (Contains-tail x r.0 xs r.1) (Contains-head x xs) r.2) r.1)),
    given_distinct xs (λ y z m n e. one y z (Contains-tail x y xs m) (Contains-tail x z xs n) e) d.1,
  )

pub on_err : {T E : Type 0} (r : Result T E) (P : Type 0) → P → OnErr r P
on_err (Ok x) P p = tt
on_err (Err e) P p = p

pub if_none : {X : Type 0} (o : Option X) (P : Type 0) → P → IfNone o P
if_none None P p = p
if_none (Some x) P p = tt

pub if_none_from : {X : Type 0} (o : Option X) (P Q : Type 0) → (P → Q) → IfNone o P → IfNone o Q
if_none_from None P Q f p = f p
if_none_from (Some x) P Q f p = tt

pub if_some : {X : Type 0} (o : Option X) (P Q : X → Type 0) → ((x : X) → P x → Q x) → IfSome o P → IfSome o Q
if_some None P Q f p = tt
if_some (Some x) P Q f p = f x p

pub if_ok : {T E : Type 0} (r : Result T E) (P Q : T → Type 0) → ((x : T) → P x → Q x) → IfOk r P → IfOk r Q
if_ok (Ok x) P Q f p = f x p
if_ok (Err e) P Q f p = tt

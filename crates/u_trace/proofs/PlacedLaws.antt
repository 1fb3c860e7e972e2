-- Slots of numbers, and the places of tokens that stand in them.
use Rattle.std.proofs.Common.{◌≡◌, ℕ, zero, suc, ◌<◌, List, [], ◌∷◌, ◌++◌, Bool, true, false, if◌then◌else◌, ◌⊎◌, inl, inr, refl, sym, subst, ◌∙◌, ap, length, get_or, Option, Some, None, arith}
use Rattle.std.specs.Prelude.{slice_get, Result, Ok, Err, OnOk}
use Rattle.std.proofs.Math.ListN.{set}
use Rattle.u_value.specs.declared.value.Value.{Value}
use Rattle.u_value.specs.ExactOrders.{same_value, value_equals_itself}
use Rattle.u_trace.specs.Firsts.{in_slot, first_in, value_eq}
use Rattle.u_trace.specs.Places.{place_of, IsPut}
use Rattle.u_trace.specs.TokenKeys.{token_key, key_eq}
use Rattle.u_trace.specs.TokenPlaces.{first_of, first_at, place_or, place_among, IsPlaced}
use Rattle.u_trace.specs.declared.firsts.Firsts.{Firsts}
use Rattle.u_trace.specs.declared.firsts.ValueAt.{ValueAt}
use Rattle.u_trace.specs.declared.places.Places.{Places}
use Rattle.u_trace.specs.declared.token_key.TokenKey.{TokenKey}
use Rattle.u_trace.proofs.Lists.{same_or_not}

module _ {X : Type 0} where
  -- an element that is set
  pub set_here : (xs : List X) (i : ℕ) (x : X) → i < length xs → slice_get (set xs i x) i ≡ Some x
  set_here [] i x l = absurd (omega (arith, l))
  set_here (y ∷ xs) zero x l = refl
  set_here (y ∷ xs) (suc i) x l = set_here xs i x (omega (arith, l))

  pub set_elsewhere : (xs : List X) (i k : ℕ) (x : X) → (i ≡ k → ⊥) → slice_get (set xs i x) k ≡ slice_get xs k
  set_elsewhere [] i k x n = refl
  set_elsewhere (y ∷ xs) zero zero x n = absurd (n refl)
  set_elsewhere (y ∷ xs) zero (suc k) x n = refl
  set_elsewhere (y ∷ xs) (suc i) zero x n = refl
  set_elsewhere (y ∷ xs) (suc i) (suc k) x n = set_elsewhere xs i k x (λ e. n (ap suc e))

  pub get_there : (xs : List X) (i : ℕ) (x : X) → i < length xs → slice_get xs i ≡ Some (get_or xs i x)
  get_there [] i x l = absurd (omega (arith, l))
  get_there (y ∷ xs) zero x l = refl
  get_there (y ∷ xs) (suc i) x l = get_there xs i x (omega (arith, l))

-- an empty slot more changes nothing
pub empty_slot : (xs : List (Option ValueAt)) (n : ℕ) → in_slot (slice_get (xs ++ None ∷ []) n) ≡ in_slot (slice_get xs n)
empty_slot [] zero = refl
empty_slot [] (suc n) = refl
empty_slot (x ∷ xs) zero = refl
empty_slot (x ∷ xs) (suc n) = empty_slot xs n

-- the place of the first value, and of another
pub place_first : (first : ValueAt) (v : Value) (other : Option ℕ) → value_eq first.value v ≡ true → place_or (Some first) v other ≡ Some first.place
place_first first v other e = ap (λ (b : Bool). if b then Some first.place else other) e

pub place_other : (first : ValueAt) (v : Value) (other : Option ℕ) → value_eq first.value v ≡ false → place_or (Some first) v other ≡ other
place_other first v other e = ap (λ (b : Bool). if b then Some first.place else other) e

pub place_itself : (v : Value) (p : ℕ) (other : Option ℕ) → place_or (Some (record { value = v; place = p })) v other ≡ Some p
place_itself v p other = place_first (record { value = v; place = p }) v other (value_equals_itself v)

-- another column
module _ (columns : List Firsts) (port : ℕ) (new : Firsts) where
  pub column_here : port < length columns → (n : ℕ) → first_at (set columns port new) port n ≡ first_in new n
  column_here l n = ap (λ (o : Option Firsts). first_of o n) (set_here columns port new l)

  pub column_elsewhere : (q n : ℕ) → (port ≡ q → ⊥) → first_at (set columns port new) q n ≡ first_at columns q n
  column_elsewhere q n apart = ap (λ (o : Option Firsts). first_of o n) (set_elsewhere columns port q new apart)

  -- one that has the same
  pub columns_still : port < length columns → ((n : ℕ) → first_in new n ≡ first_at columns port n) → (others : Places TokenKey) (k : TokenKey) → place_among (set columns port new) others k ≡ place_among columns others k
  columns_still l same others k = ap (λ (f : Option ValueAt). place_or f k.value (place_of key_eq others k)) (elim (same_or_not port k.port) [
    | inl e ↦ subst (λ (q : ℕ). first_at (set columns port new) q k.activity ≡ first_at columns q k.activity) e (column_here l k.activity ∙ same k.activity)
    | inr apart ↦ column_elsewhere k.port k.activity apart
  ])

-- the column at a place
pub column_is : (columns : List Firsts) (i n : ℕ) (f : Firsts) → i < length columns → first_at columns i n ≡ first_in (get_or columns i f) n
column_is columns i n f l = ap (λ (o : Option Firsts). first_of o n) (get_there columns i f l)

-- where nothing was put
pub columns_none : (columns : List Firsts) → ((i : ℕ) (f : Firsts) → i < length columns → (n : ℕ) → first_in (get_or columns i f) n ≡ None) → (p n : ℕ) → first_at columns p n ≡ None
columns_none [] none p n = refl
columns_none (c ∷ cs) none zero n = none 0 c (omega arith) n
columns_none (c ∷ cs) none (suc p) n = columns_none cs (λ i f l m. none (suc i) f (omega (arith, l)) m) p n

pub placed_none : (columns : List Firsts) (others : Places TokenKey) → ((p n : ℕ) → first_at columns p n ≡ None) → ((k : TokenKey) → place_of key_eq others k ≡ None) → (k : TokenKey) → place_among columns others k ≡ None
placed_none columns others none rest k = ap (λ (f : Option ValueAt). place_or f k.value (place_of key_eq others k)) (none k.port k.activity) ∙ rest k

pub on_both : {T E : Type 0} (r : Result T E) {P Q R : Type 0} → OnOk r P → OnOk r Q → (P → Q → R) → OnOk r R
on_both (Ok x) p q f = f p q
on_both (Err e) p q f = tt

-- a token that had no place
module _ (columns : List Firsts) (others : Places TokenKey) (n port : ℕ) (v : Value) (p : ℕ) where
  -- the first value at its port
  pub placed_first : (new : Firsts) → port < length columns → first_at columns port n ≡ None → first_in new n ≡ Some (record { value = v; place = p }) → ((m : ℕ) → (n ≡ m → ⊥) → first_in new m ≡ first_at columns port m) → IsPlaced (place_among columns others) (token_key n port v) p (place_among (set columns port new) others)
  placed_first new l none here apart = record {
    here = ap (λ (f : Option ValueAt). place_or f v (place_of key_eq others (token_key n port v))) (column_here columns port new l n ∙ here) ∙ place_itself v p (place_of key_eq others (token_key n port v));
    others = λ k other. over k other (same_or_not port k.port) (same_or_not n k.activity);
  }
    where
      other_value : (w : Value) → (token_key n port v ≡ token_key n port w → ⊥) → (o : Option ℕ) → place_or (Some (record { value = v; place = p })) w o ≡ o
      other_value w other o = at (value_eq v w) refl
        where
          at : (b : Bool) → value_eq v w ≡ b → place_or (Some (record { value = v; place = p })) w o ≡ o
          at true e = absurd (other (ap (λ (x : Value). token_key n port x) (same_value v w e)))
          at false e = place_other (record { value = v; place = p }) w o e

      here_too : (k : TokenKey) → (token_key n port v ≡ k → ⊥) → port ≡ k.port → n ≡ k.activity → place_among (set columns port new) others k ≡ place_among columns others k
      here_too k other e f =
          let is : token_key n port k.value ≡ k = ap (λ (x : ℕ). token_key x port k.value) f ∙ ap (λ (x : ℕ). token_key k.activity x k.value) e in
          subst (λ (x : TokenKey). place_among (set columns port new) others x ≡ place_among columns others x) is
          (let o = place_of key_eq others (token_key n port k.value) in
          ap (λ (f : Option ValueAt). place_or f k.value o) (column_here columns port new l n ∙ here)
          ∙ other_value k.value (λ q. other (q ∙ is)) o
          ∙ sym (ap (λ (f : Option ValueAt). place_or f k.value o) none))

      over : (k : TokenKey) → (token_key n port v ≡ k → ⊥) → (port ≡ k.port) ⊎ (port ≡ k.port → ⊥) → (n ≡ k.activity) ⊎ (n ≡ k.activity → ⊥) → place_among (set columns port new) others k ≡ place_among columns others k
      over k other (inl e) (inl f) = here_too k other e f
      over k other (inl e) (inr f) = ap (λ (g : Option ValueAt). place_or g k.value (place_of key_eq others k)) (subst (λ (q : ℕ). first_at (set columns port new) q k.activity ≡ first_at columns q k.activity) e (column_here columns port new l k.activity ∙ apart k.activity f))
      over k other (inr e) f = ap (λ (g : Option ValueAt). place_or g k.value (place_of key_eq others k)) (column_elsewhere columns port new k.port k.activity e)

  -- where the column stands at that place
  pub placed_at : (i : ℕ) (new : Firsts) → i ≡ port → i < length columns → first_at columns i n ≡ None → first_in new n ≡ Some (record { value = v; place = p }) → ((m : ℕ) → (n ≡ m → ⊥) → first_in new m ≡ first_at columns i m) → IsPlaced (place_among columns others) (token_key n port v) p (place_among (set columns i new) others)
  placed_at i new e l none here apart =
      subst (λ (j : ℕ). IsPlaced (place_among columns others) (token_key n port v) p (place_among (set columns j new) others)) (sym e)
      (placed_first new (subst (λ (j : ℕ). j < length columns) e l) (subst (λ (j : ℕ). first_at columns j n ≡ None) e none) here (λ m q. subst (λ (j : ℕ). first_in new m ≡ first_at columns j m) e (apart m q)))

  -- another value there
  pub placed_other : (first : ValueAt) (new : Places TokenKey) → first_at columns port n ≡ Some first → place_among columns others (token_key n port v) ≡ None → IsPut key_eq others (token_key n port v) p new → IsPlaced (place_among columns others) (token_key n port v) p (place_among columns new)
  placed_other first new is none put = record {
    here = at (value_eq first.value v) refl;
    others = λ k other. ap (λ (o : Option ℕ). place_or (first_at columns k.port k.activity) k.value o) (put.others k other);
  }
    where
      at : (b : Bool) → value_eq first.value v ≡ b → place_among columns new (token_key n port v) ≡ Some p
      at true e = (let h : Some first.place ≡ None = sym (ap (λ (f : Option ValueAt). place_or f v (place_of key_eq others (token_key n port v))) is ∙ place_first first v (place_of key_eq others (token_key n port v)) e) ∙ none in absurd (cc))
      at false e = ap (λ (f : Option ValueAt). place_or f v (place_of key_eq new (token_key n port v))) is ∙ place_other first v (place_of key_eq new (token_key n port v)) e ∙ put.here

pub others_still : (columns : List Firsts) (old new : Places TokenKey) → ((k : TokenKey) → place_of key_eq new k ≡ place_of key_eq old k) → (k : TokenKey) → place_among columns new k ≡ place_among columns old k
others_still columns old new same k = ap (λ (o : Option ℕ). place_or (first_at columns k.port k.activity) k.value o) (same k)

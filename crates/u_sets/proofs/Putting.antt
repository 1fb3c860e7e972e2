-- What a map has where an insert took the place of a value, and the value is put back and changed.
use Rattle.std.proofs.Common.{◌≡◌, ℕ, ◌+◌, List, [], ◌∷◌, Bool, true, false, cond, Some, suc, not, ap, sym, refl, ◌∙◌, slice_get, arith}
use Rattle.std.specs.Prelude.{if◌then◌else◌, Result, Ok, Err, OnErr}
use Rattle.std.specs.List.{position_or_len}
use Rattle.std.specs.Map.{keys_of, values_of, lookup, set_value}
use Rattle.indexmap.specs.IndexMap.{insert_entry, set_value_at}

-- the later of two choices by one test does not show
pub chosen_once : {X : Type 0} (b : Bool) (x y z : X) → cond b x (cond b y z) ≡ cond b x z
chosen_once true x y z = refl
chosen_once false x y z = refl

behind : (n : ℕ) → 1 + n ≡ suc n
behind n = omega arith

-- what holds of an error that comes, whichever
pub on_err : {T F : Type 0} (r : Result T F) (P : Type 0) → P → OnErr r P
on_err (Ok x) P p = tt
on_err (Err e) P p = p

module _ {K V : Type 0} (E : K → K → Bool) (k : K) where
  -- the place of the key, which is there
  abbrev pub place_of : List (K × V) → ℕ
  place_of es = position_or_len (E k) (keys_of es)

  -- what the look-up finds behind an entry that it passes over
  further : (e : K × V) (es : List (K × V)) (f : V) → lookup (E k) (e ∷ es) ≡ Some f → E k e.0 ≡ false → lookup (E k) es ≡ Some f
  further e es f h q = ap (λ (b : Bool). cond b (Some e.1) (lookup (E k) es)) (sym q) ∙ h

  -- the entry at the place of the key
  entry_there : ((a b : K) → E a b ≡ true → a ≡ b) → (es : List (K × V)) (f u : V) → lookup (E k) es ≡ Some f → slice_get (insert_entry E es k u) (place_of es) ≡ Some (k, u)
  entry_there exact [] f u h = absurd (cc)
  entry_there exact (e ∷ es) f u h = at (λ r. entry_there exact es f u r) (E k e.0) refl
    where
      at : (lookup (E k) es ≡ Some f → slice_get (insert_entry E es k u) (place_of es) ≡ Some (k, u)) → (b : Bool) → E k e.0 ≡ b → slice_get (if b then (e.0, u) ∷ es else e ∷ insert_entry E es k u) (cond (not b) (1 + place_of es) 0) ≡ Some (k, u)
      at rest true q = ap (λ (j : K). Some (j, u)) (sym (exact k e.0 q))
      at rest false q = ap (λ n. slice_get (e ∷ insert_entry E es k u) n) (behind (place_of es)) ∙ rest (further e es f h q)

  -- the value at the place of the key
  value_there : (es : List (K × V)) (f u : V) → lookup (E k) es ≡ Some f → slice_get (values_of (insert_entry E es k u)) (place_of es) ≡ Some u
  value_there [] f u h = absurd (cc)
  value_there (e ∷ es) f u h = at (λ r. value_there es f u r) (E k e.0) refl
    where
      at : (lookup (E k) es ≡ Some f → slice_get (values_of (insert_entry E es k u)) (place_of es) ≡ Some u) → (b : Bool) → E k e.0 ≡ b → slice_get (values_of (if b then (e.0, u) ∷ es else e ∷ insert_entry E es k u)) (cond (not b) (1 + place_of es) 0) ≡ Some u
      at rest true q = refl
      at rest false q = ap (λ n. slice_get (values_of (e ∷ insert_entry E es k u)) n) (behind (place_of es)) ∙ rest (further e es f h q)

  -- what was put in between does not show
  put_back : (es : List (K × V)) (f u w : V) → lookup (E k) es ≡ Some f → set_value_at (insert_entry E es k u) (place_of es) w ≡ set_value (E k) es w
  put_back [] f u w h = absurd (cc)
  put_back (e ∷ es) f u w h = at (λ r. put_back es f u w r) (E k e.0) refl
    where
      at : (lookup (E k) es ≡ Some f → set_value_at (insert_entry E es k u) (place_of es) w ≡ set_value (E k) es w) → (b : Bool) → E k e.0 ≡ b → set_value_at (if b then (e.0, u) ∷ es else e ∷ insert_entry E es k u) (cond (not b) (1 + place_of es) 0) w ≡ cond b ((e.0, w) ∷ es) (e ∷ set_value (E k) es w)
      at rest true q = refl
      at rest false q =
          ap (λ n. set_value_at (e ∷ insert_entry E es k u) n w) (behind (place_of es))
          ∙ ap (λ l. e ∷ l) (rest (further e es f h q))

  -- the same of entries and a place that are those
  module _ (es mid : List (K × V)) (i : ℕ) (f u : V) (some : lookup (E k) es ≡ Some f) (made : mid ≡ insert_entry E es k u) (place : i ≡ place_of es) where
    pub entry_at : ((a b : K) → E a b ≡ true → a ≡ b) → slice_get mid i ≡ Some (k, u)
    entry_at exact = ap (λ ds. slice_get ds i) made ∙ ap (λ n. slice_get (insert_entry E es k u) n) place ∙ entry_there exact es f u some

    pub value_at : slice_get (values_of mid) i ≡ Some u
    value_at = ap (λ ds. slice_get (values_of ds) i) made ∙ ap (λ n. slice_get (values_of (insert_entry E es k u)) n) place ∙ value_there es f u some

    pub back_at : (w : V) → set_value_at mid i w ≡ set_value (E k) es w
    back_at w = ap (λ ds. set_value_at ds i w) made ∙ ap (λ n. set_value_at (insert_entry E es k u) n w) place ∙ put_back es f u w some

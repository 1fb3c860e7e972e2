-- The table of givers: what numbering activities and noting a giver make of the places.
use Rattle.std.proofs.Common.{◌≡◌, ℕ, ◌<◌, ◌≤◌, List, [], ◌∷◌, ◌++◌, ◌⊎◌, inl, inr, refl, sym, subst, ◌∙◌, ap, length, length-append, Option, Some, None, Ordering, arith}
use Rattle.std.specs.Prelude.{Contains, slice_get}
use Rattle.std.specs.Cmp.{tied_itself}
use Rattle.std.specs.declared.cmp.Ordering.TheVariants.{Less, Equal, Greater}
use Rattle.u_name.specs.Name.{Activity}
use Rattle.u_value.specs.declared.value.Value.{Value}
use Rattle.u_rule.specs.Parts.{TokenParts, token}
use Rattle.u_rule.specs.declared.entry.Entry.{Entry}
use Rattle.u_rule.specs.declared.entry.Entry.TheVariants as entries
use Rattle.u_trace.specs.Places.{place_of, IsPut, entry_eq}
use Rattle.u_trace.specs.TokenKeys.{token_key, token_key_ties}
use Rattle.u_trace.specs.TokenPlaces.{place_under, IsPlaced}
use Rattle.u_trace.specs.Numbers.{number_in, LieUnder, token_place}
use Rattle.u_trace.specs.Table.{place_at}
use Rattle.u_trace.specs.Givers.{Notes}
use Rattle.u_trace.specs.declared.places.Places.{Places}
use Rattle.u_trace.specs.declared.token_key.TokenKey.{TokenKey}
use Rattle.u_trace.specs.declared.token_places.TokenPlaces.{TokenPlaces}
use Rattle.u_trace.specs.contracts.token_key.TokenKeyOrd.TheImpl as key_ord
use Rattle.u_trace.specs.contracts.token_key.TokenKeyOrd.TheImpl.Laws as key_laws
use Rattle.u_trace.proofs.Entries.{same_entries}
use Rattle.u_trace.proofs.NumberLaws.{number_there, number_grown}
use Rattle.u_trace.proofs.PutLaws.{notes_new, notes_still}

-- keys are the same or not
same_keys : (x y : TokenKey) → (x ≡ y) ⊎ (x ≡ y → ⊥)
same_keys x y = at ((key_ord.ghosts).cmp x y) refl
  where
    tied : x ≡ y → (key_ord.ghosts).cmp x y ≡ Equal
    tied q = subst (λ (z : TokenKey). (key_ord.ghosts).cmp x z ≡ Equal) q (tied_itself key_laws.total-law x)

    at : (o : Ordering) → (key_ord.ghosts).cmp x y ≡ o → (x ≡ y) ⊎ (x ≡ y → ⊥)
    at Equal e = inl (token_key_ties x y e)
    at Less e = inr (λ q. let t = tied q in cc)
    at Greater e = inr (λ q. let t = tied q in cc)

none_behind : (n : ℕ) (tokens : TokenPlaces) (k : TokenKey) → LieUnder n tokens → n ≤ k.activity → place_under tokens k ≡ None
none_behind n tokens k under l = at (place_under tokens k) refl
  where
    at : (o : Option ℕ) → place_under tokens k ≡ o → place_under tokens k ≡ None
    at None e = e
    at (Some p) e = let b = under k p e in absurd (omega (arith, b, l))

-- where more activities got numbers
still_placed : (names rest : List Activity) (tokens : TokenPlaces) → LieUnder (length names) tokens → (t : TokenParts) → token_place (names ++ rest) tokens t ≡ token_place names tokens t
still_placed names rest tokens under t =
    elim (number_grown names rest t.activity) [
      | inl e ↦ ap (λ (n : ℕ). place_under tokens (token_key n t.port t.value)) e
      | inr (l, m) ↦ none_behind (length names) tokens (token_key (number_in (names ++ rest) t.activity) t.port t.value) under l ∙ sym (none_behind (length names) tokens (token_key (number_in names t.activity) t.port t.value) under m)
    ]

pub still_under : (names rest : List Activity) (tokens : TokenPlaces) → LieUnder (length names) tokens → LieUnder (length (names ++ rest)) tokens
still_under names rest tokens under k p e = let b = under k p e in let h = length-append names rest in omega (arith, b, h)

pub same_places : (names rest more : List Activity) (tokens : TokenPlaces) (others : Places Entry) → LieUnder (length names) tokens → more ≡ names ++ rest → (e : Entry) → place_at more tokens others e ≡ place_at names tokens others e
same_places names rest more tokens others under is (entries.Token t) = ap (λ (ns : List Activity). token_place ns tokens t) is ∙ still_placed names rest tokens under t
same_places names rest more tokens others under is (entries.Write w) = refl
same_places names rest more tokens others under is (entries.Fault f) = refl
same_places names rest more tokens others under is (entries.Answer v) = refl

-- where a token's place was put
module _ (names : List Activity) (old new : TokenPlaces) (t : TokenParts) (p : ℕ) (below : number_in names t.activity < length names) (put : IsPlaced (place_under old) (token_key (number_in names t.activity) t.port t.value) p (place_under new)) where
  pub put_under : LieUnder (length names) old → LieUnder (length names) new
  put_under under k q e = over (same_keys (token_key (number_in names t.activity) t.port t.value) k)
    where
      over : (token_key (number_in names t.activity) t.port t.value ≡ k) ⊎ (token_key (number_in names t.activity) t.port t.value ≡ k → ⊥) → k.activity < length names
      over (inl h) = subst (λ (x : TokenKey). x.activity < length names) h below
      over (inr n) = under k q (sym (put.others k n) ∙ e)

  one_token : (u : TokenParts) → token_key (number_in names t.activity) t.port t.value ≡ token_key (number_in names u.activity) u.port u.value → t ≡ u
  one_token u e =
      let n : number_in names t.activity ≡ number_in names u.activity = ap (λ (k : TokenKey). k.activity) e in
      let i = number_there names t.activity below in
      let j = number_there names u.activity (subst (λ (m : ℕ). m < length names) n below) in
      let h : Some t.activity ≡ Some u.activity = sym i ∙ ap (λ (m : ℕ). slice_get names m) n ∙ j in
      let a : t.activity ≡ u.activity = cc in
      ap (λ (x : Activity). token x t.port t.value) a
      ∙ ap (λ (x : ℕ). token u.activity x t.value) (ap (λ (k : TokenKey). k.port) e)
      ∙ ap (λ (x : Value). token u.activity u.port x) (ap (λ (k : TokenKey). k.value) e)

  others_placed : (u : TokenParts) → (entries.Token t ≡ entries.Token u → ⊥) → token_place names new u ≡ token_place names old u
  others_placed u n = put.others (token_key (number_in names u.activity) u.port u.value) (λ e. n (ap (λ (x : TokenParts). entries.Token x) (one_token u e)))

-- a token that had no place
pub notes_token : (names : List Activity) (old new : TokenPlaces) (rest : Places Entry) (t : TokenParts) (p : ℕ) → number_in names t.activity < length names → IsPlaced (place_under old) (token_key (number_in names t.activity) t.port t.value) p (place_under new) → token_place names old t ≡ None → Notes (place_at names old rest) (entries.Token t ∷ []) p (place_at names new rest)
notes_token names old new rest t p below put none = notes_new same_entries (place_at names old rest) (place_at names new rest) (entries.Token t) p none put.here apart
  where
    apart : (q : Entry) → (entries.Token t ≡ q → ⊥) → place_at names new rest q ≡ place_at names old rest q
    apart (entries.Token u) n = others_placed names old new t p below put u n
    apart (entries.Write w) n = refl
    apart (entries.Fault f) n = refl
    apart (entries.Answer v) n = refl

pub token_still : (names : List Activity) (tokens : TokenPlaces) (rest : Places Entry) (t : TokenParts) (p k : ℕ) → token_place names tokens t ≡ Some k → Notes (place_at names tokens rest) (entries.Token t ∷ []) p (place_at names tokens rest)
token_still names tokens rest t p k e = notes_still same_entries (place_at names tokens rest) (place_at names tokens rest) (entries.Token t) p k e

-- another entry
module _ (names : List Activity) (tokens : TokenPlaces) (e : Entry) (apart : (t : TokenParts) → e ≡ entries.Token t → ⊥) where
  pub other_place : (rest : Places Entry) → place_at names tokens rest e ≡ place_of entry_eq rest e
  other_place rest = over e apart
    where
      over : (x : Entry) → ((t : TokenParts) → x ≡ entries.Token t → ⊥) → place_at names tokens rest x ≡ place_of entry_eq rest x
      over (entries.Token t) n = absurd (n t refl)
      over (entries.Write w) n = refl
      over (entries.Fault f) n = refl
      over (entries.Answer v) n = refl

  pub notes_other : (old new : Places Entry) (p : ℕ) → IsPut entry_eq old e p new → place_of entry_eq old e ≡ None → Notes (place_at names tokens old) (e ∷ []) p (place_at names tokens new)
  notes_other old new p put none = notes_new same_entries (place_at names tokens old) (place_at names tokens new) e p (other_place old ∙ none) (other_place new ∙ put.here) rest
    where
      rest : (q : Entry) → (e ≡ q → ⊥) → place_at names tokens new q ≡ place_at names tokens old q
      rest (entries.Token u) n = refl
      rest (entries.Write w) n = put.others (entries.Write w) n
      rest (entries.Fault f) n = put.others (entries.Fault f) n
      rest (entries.Answer v) n = put.others (entries.Answer v) n

  pub other_still : (rest : Places Entry) (p k : ℕ) → place_of entry_eq rest e ≡ Some k → Notes (place_at names tokens rest) (e ∷ []) p (place_at names tokens rest)
  other_still rest p k h = notes_still same_entries (place_at names tokens rest) (place_at names tokens rest) e p k (other_place rest ∙ h)

-- noting over a table that has the same places
pub notes_from : {E : Type 0} (old mid new : E → Option ℕ) (xs : List E) (p : ℕ) → ((x : E) → mid x ≡ old x) → Notes mid xs p new → Notes old xs p new
notes_from {E} old mid new xs p same n = record { kept = λ x k e. n.kept x k (same x ∙ e); got = λ x k e. over x k (n.got x k e); all = n.all }
  where
    over : (x : E) (k : ℕ) → (mid x ≡ Some k) ⊎ (Contains xs x × (mid x ≡ None) × (p ≡ k)) → (old x ≡ Some k) ⊎ (Contains xs x × (old x ≡ None) × (p ≡ k))
    over x k (inl e) = inl (sym (same x) ∙ e)
    over x k (inr (m, e, q)) = inr (m, sym (same x) ∙ e, q)

-- Statements by their numbers, when one is added.
use Rattle.std.proofs.Common.{◌≡◌, ℕ, zero, suc, ◌+◌, ◌-◌, ◌≤◌, ◌⊎◌, inl, inr, refl, sym, ap, ◌∙◌, arith, Bool, true, false, List, [], ◌∷◌, ◌++◌, length, Some, None, Option}
use Rattle.std.specs.Prelude.{slice_get}
use Rattle.std.proofs.lemmas.Bool.{false≢true}
use Rattle.std.proofs.lemmas.Option.{slice_get_within}
use Rattle.u_compile.specs.Drafts.{DraftParts}
use Rattle.u_compile.specs.Graphs.{draft_at}

pub numbered : (ds : List DraftParts) (n : ℕ) → 1 ≤ n → draft_at ds n ≡ slice_get ds (n - 1)
numbered ds zero h = absurd (omega arith)
numbered ds (suc n) h = let e : suc n - 1 ≡ n = omega arith in ap (slice_get ds) (sym e)

pub at_within : (ds : List DraftParts) (n : ℕ) (d : DraftParts) → draft_at ds n ≡ Some d → (1 ≤ n) × (n ≤ length ds)
at_within ds zero d e = cc
at_within ds (suc n) d e = let w = slice_get_within ds n d e in (omega arith, omega (arith, w))

get_more : (ds : List DraftParts) (x : DraftParts) (n : ℕ) (d : DraftParts) → slice_get ds n ≡ Some d → slice_get (ds ++ (x ∷ [])) n ≡ Some d
get_more [] x n d e = cc
get_more (y ∷ ds) x zero d e = e
get_more (y ∷ ds) x (suc n) d e = get_more ds x n d e

get_cases : (ds : List DraftParts) (x : DraftParts) (n : ℕ) (d : DraftParts) → slice_get (ds ++ (x ∷ [])) n ≡ Some d → (slice_get ds n ≡ Some d) ⊎ ((n ≡ length ds) × (d ≡ x))
get_cases [] x zero d e = inr (refl, cc)
get_cases [] x (suc n) d e = cc
get_cases (y ∷ ds) x zero d e = inl e
get_cases (y ∷ ds) x (suc n) d e = elim (get_cases ds x n d e) [ inl h ↦ inl h | inr h ↦ inr (omega (arith, h.0), h.1) ]

-- the statements that were there keep their numbers
pub at_more : (ds : List DraftParts) (x : DraftParts) (n : ℕ) (d : DraftParts) → draft_at ds n ≡ Some d → draft_at (ds ++ (x ∷ [])) n ≡ Some d
at_more ds x zero d e = cc
at_more ds x (suc n) d e = get_more ds x n d e

-- and the new one is the last
pub at_cases : (ds : List DraftParts) (x : DraftParts) (n : ℕ) (d : DraftParts) → draft_at (ds ++ (x ∷ [])) n ≡ Some d → (draft_at ds n ≡ Some d) ⊎ ((n ≡ length ds + 1) × (d ≡ x))
at_cases ds x zero d e = cc
at_cases ds x (suc n) d e = elim (get_cases ds x n d e) [ inl h ↦ inl h | inr h ↦ inr (omega (arith, h.0), h.1) ]

at_end : (ds : List DraftParts) (x : DraftParts) → slice_get (ds ++ (x ∷ [])) (length ds) ≡ Some x
at_end [] x = refl
at_end (y ∷ ds) x = at_end ds x

pub at_last : (ds : List DraftParts) (x : DraftParts) → draft_at (ds ++ (x ∷ [])) (length ds + 1) ≡ Some x
at_last ds x = let e : length ds + 1 ≡ suc (length ds) = omega arith in ap (draft_at (ds ++ (x ∷ []))) e ∙ at_end ds x

-- what was so of the statement of a number stays so
pub test_more : (f : Option DraftParts → Bool) → f None ≡ false → (ds : List DraftParts) (x : DraftParts) (n : ℕ) → f (draft_at ds n) ≡ true → f (draft_at (ds ++ (x ∷ [])) n) ≡ true
test_more f none ds x n h = by (draft_at ds n) refl
  where
    by : (o : Option DraftParts) → draft_at ds n ≡ o → f (draft_at (ds ++ (x ∷ [])) n) ≡ true
    by None q = absurd (false≢true (sym none ∙ (sym (ap f q) ∙ h)))
    by (Some d) q = ap f (at_more ds x n d q) ∙ (sym (ap f q) ∙ h)

-- what is so of the statement of a number has a statement
pub test_stands : (f : Option DraftParts → Bool) → f None ≡ false → (ds : List DraftParts) (n : ℕ) → f (draft_at ds n) ≡ true → (d : DraftParts) × (draft_at ds n ≡ Some d) × (f (Some d) ≡ true)
test_stands f none ds n h = by (draft_at ds n) refl
  where
    by : (o : Option DraftParts) → draft_at ds n ≡ o → (d : DraftParts) × (draft_at ds n ≡ Some d) × (f (Some d) ≡ true)
    by None q = absurd (false≢true (sym none ∙ (sym (ap f q) ∙ h)))
    by (Some d) q = (d, q, sym (ap f q) ∙ h)

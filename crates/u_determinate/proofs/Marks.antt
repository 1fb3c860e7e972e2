-- The marks of each control, as far as they were made.
use Rattle.std.proofs.Common.{◌≡◌, ℕ, ◌+◌, arith, subst, List, [], ◌∷◌, ◌++◌, length, length-append, Some, inl, inr, ◌⊎◌}
use Rattle.std.specs.Prelude.{slice_get}
use Rattle.u_program.specs.Parts.{StatementParts}
use Rattle.u_determinate.specs.declared.sides.ControlMarks.{ControlMarks}
use Rattle.u_determinate.specs.Flow.{AreMarks}
use Rattle.u_determinate.proofs.Links.{pushed}

abbrev pub MarksBelow : List StatementParts → ℕ → List ControlMarks → Type 0
MarksBelow ss k all =
    (length all ≡ k) × ((c : ℕ) (m : ControlMarks) → slice_get all c ≡ Some m → AreMarks ss c m)

pub marks_none : (ss : List StatementParts) → MarksBelow ss 0 []
marks_none ss = (omega arith, λ c m e. absurd (let z = e in cc))

pub marks_more : (ss : List StatementParts) (k : ℕ) (all : List ControlMarks) (p : ControlMarks) → MarksBelow ss k all → AreMarks ss k p → MarksBelow ss (k + 1) (all ++ p ∷ [])
marks_more ss k all p h it =
    (omega (arith, length-append all (p ∷ []), h.0), λ n y e. by n y (pushed all p n y e))
  where
    by : (n : ℕ) (y : ControlMarks) → (slice_get all n ≡ Some y) ⊎ ((n ≡ length all) × (p ≡ y)) → AreMarks ss n y
    by n y (inl e) = h.1 n y e
    by n y (inr (e, q)) = subst (λ (z : ControlMarks). AreMarks ss n z) q (subst (λ (i : ℕ). AreMarks ss i p) (omega (arith, e, h.0)) it)

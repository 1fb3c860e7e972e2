-- A reader whose value is turned into another, and a choice between two readers by the first byte.
use Rattle.std.specs.Prelude.{ℕ, ◌⊎◌, cond, ◌==◌, [], ◌∷◌, Ok}
use Rattle.std.proofs.Common.{inl, inr}
use Rattle.u_base.specs.Reader.{Reader, ◌>>=◌}

-- another type of values
abbrev pub mapped : {X Z : Type 0} → (X → Z) → Reader X → Reader Z
mapped f P bs = P bs >>= λ a. Ok (f a.0, a.1)

-- behind the byte c one language, elsewhere another
abbrev pub choice : {X Y : Type 0} → ℕ → Reader X → Reader Y → Reader (X ⊎ Y)
choice c P Q [] = mapped inr Q []
choice c P Q (b ∷ bs) = cond (b == c) (mapped inl P bs) (mapped inr Q (b ∷ bs))

-- the value that there is, is valid
abbrev pub IsOne : {X Y : Type 0} → (X → Type 0) → (Y → Type 0) → X ⊎ Y → Type 0
IsOne V W = elim [ inl x ↦ V x | inr y ↦ W y ]

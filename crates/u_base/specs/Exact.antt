-- Orders in which only a thing itself ties with it.
use Rattle.std.specs.Prelude.{◌≡◌}
use Rattle.std.specs.declared.cmp.Ordering.{Ordering}
use Rattle.std.specs.declared.cmp.Ordering.TheVariants.{Equal}

-- only a thing itself ties with it
abbrev pub IsExact : {X : Type 0} → (X → X → Ordering) → Type 0
IsExact {X} R = (a b : X) → R a b ≡ Equal → a ≡ b

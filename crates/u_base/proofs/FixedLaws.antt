-- The reader of given bytes reads the longest text.
use Rattle.std.specs.Prelude.{ℕ, List, [], ◌∷◌}
use Rattle.u_base.proofs.ReaderLaws.{Reads}
use Rattle.u_base.proofs.PartsLaws.{NoByte, empty_Reads, lead_Reads}
use Rattle.u_base.specs.Fixed.{fixed, IsUnit}

pub fixed_Reads : (w : List ℕ) → Reads (λ (z : Unit {0}). w) IsUnit NoByte (fixed w)
fixed_Reads [] = empty_Reads tt
fixed_Reads (c ∷ cs) = lead_Reads c (fixed_Reads cs)

-- A refusal is the named one exactly where its cause holds, and else want of memory.
use Rattle.std.specs.Prelude.{◌≡◌, ◌⊎◌}
use Rattle.u_name.specs.declared.name.NameError.{NameError}
use Rattle.u_name.specs.declared.name.NameError.TheVariants.{NoMemory}

abbrev pub RefusesAt : NameError → NameError → Type 0 → Type 0
RefusesAt e named cause = ((e ≡ named) × cause) ⊎ ((e ≡ NoMemory) × (cause → ⊥))

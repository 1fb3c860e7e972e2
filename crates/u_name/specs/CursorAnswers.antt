-- What the cursor answers: what it reads, or why it is at a fault.
use Rattle.std.specs.Prelude.{◌≡◌, ℕ, ◌<◌, ◌≤◌, List, Result, Err, Ok}
use Rattle.u_name.specs.declared.reading.ReadFault.{ReadFault}
use Rattle.u_name.specs.declared.reading.ReadFault.TheVariants.{Stuck, Deep, NoMemory}
use Rattle.u_name.specs.Context.{Tree}
use Rattle.u_name.specs.NameReader.{paren_span, dash_at, context_at, name_steps}
use Rattle.u_name.specs.Name.{Activity}

-- stuck where the reader is, or out of memory
abbrev pub Fails : {Y : Type 0} → ReadFault → Result Y (List ℕ) → List ℕ → Type 0
Fails Stuck read rest = read ≡ Err rest
Fails Deep read rest = ⊥
Fails NoMemory read rest = Unit {0}

abbrev pub IsFine : ℕ → Type 0
IsFine opens = opens ≤ 64

-- the same, or too deep
abbrev pub FailsAt : {Y : Type 0} → ReadFault → ℕ → Result Y (List ℕ) → List ℕ → Type 0
FailsAt Stuck opens read rest = IsFine opens × (read ≡ Err rest)
FailsAt Deep opens read rest = 64 < opens
FailsAt NoMemory opens read rest = IsFine opens

-- the `(` and the `-` are read, and are not too many
abbrev pub ReadsOpens : List ℕ → ℕ → List ℕ → Type 0
ReadsOpens bs depth rest = IsFine (paren_span 65 bs) × (depth ≤ 64) × (dash_at bs ≡ Ok (depth, rest))

abbrev pub ReadsNoOpens : List ℕ → ReadFault → List ℕ → Type 0
ReadsNoOpens bs fault rest = FailsAt fault (paren_span 65 bs) (dash_at bs) rest

-- a whole context is read
abbrev pub ReadsContext : List ℕ → Tree → List ℕ → Type 0
ReadsContext bs context rest = context_at bs ≡ Ok (context, rest)

abbrev pub ReadsNoContext : List ℕ → ReadFault → List ℕ → Type 0
ReadsNoContext bs fault rest = FailsAt fault (paren_span 65 bs) (context_at bs) rest

-- a whole name is read
abbrev pub ReadsName : List ℕ → Activity → List ℕ → Type 0
ReadsName bs name rest = IsFine (paren_span 65 bs) × (name_steps bs ≡ Ok (name, rest))

abbrev pub ReadsNoName : List ℕ → ReadFault → List ℕ → Type 0
ReadsNoName bs fault rest = FailsAt fault (paren_span 65 bs) (name_steps bs) rest

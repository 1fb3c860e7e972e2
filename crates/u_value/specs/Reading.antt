-- The reader of values, and what reading a value answers.
use Rattle.std.specs.Prelude.{ℕ, ◌⊎◌, List, true, false, codes, FitsSigned}
use Rattle.std.proofs.Common.{inl, inr}
use Rattle.std.specs.Int.{w64}
use lib.IntN.{ℤ}
use Rattle.u_name.specs.Block.{IsBlock}
use Rattle.u_name.specs.BlockText.{block_at}
use Rattle.u_name.specs.Name.{Activity, IsName}
use Rattle.u_name.specs.NameReader.{name_steps}
use Rattle.u_base.specs.Reader.{Reader}
use Rattle.u_base.specs.Parts.{lead}
use Rattle.u_base.specs.Then.{both}
use Rattle.u_base.specs.Choice.{mapped, choice}
use Rattle.u_base.specs.FromZero.{number0}
use Rattle.u_base.specs.Signed.{signed}
use Rattle.u_base.specs.Fixed.{fixed}
use Rattle.u_base.specs.TextAt.{IsTextOf, IsNoText, IsTextAt, IsNoTextAt}
use Rattle.u_value.specs.Pointer.{pointer, IsPointer}
use Rattle.u_value.specs.Values.{value_text}
use Rattle.u_value.specs.declared.value.Value.{Value}
use Rattle.u_value.specs.declared.value.Value.TheVariants.{Int, Bool, Proc, Ref}
use Rattle.u_value.specs.declared.reading.ValueTextError.{ValueTextError}
use Rattle.u_value.specs.declared.reading.ValueTextError.TheVariants.{BadValue, NoMemory}

-- the parts of a value are in their ranges
abbrev pub IsValue : Value → Type 0
IsValue (Int z) = FitsSigned w64 z
IsValue (Bool b) = Unit {0}
IsValue (Proc block) = IsBlock block
IsValue (Ref p) = IsName p.name × IsPointer p

-- behind a name: `#` and a length
abbrev pub length_at : Reader ℕ
length_at = lead 35 (number0 1000000)

-- behind the `&`: a name, `#` and a length
abbrev pub pointer_at : Reader (Activity × ℕ)
pointer_at = both name_steps (λ _. length_at)

-- what was read, by its first byte
abbrev pub Read : Type 0
Read = (Activity × ℕ) ⊎ (List ℕ ⊎ (Unit {0} ⊎ (Unit {0} ⊎ ℤ)))

abbrev pub reference_of : Activity × ℕ → Value
reference_of p = Ref (pointer p.0 p.1)

abbrev pub value_of : Read → Value
value_of =
    elim [
      | inl p ↦ reference_of p
      | inr y ↦ elim y [ inl b ↦ Proc b | inr z ↦ elim z [ inl _ ↦ Bool false | inr t ↦ elim t [ inl _ ↦ Bool true | inr n ↦ Int n ] ] ]
    ]

abbrev pub alse : List ℕ
alse = codes "alse"

abbrev pub rue : List ℕ
rue = codes "rue"

-- what stands behind the first byte of `false`, and of `true`
abbrev pub false_at : Reader Value
false_at = mapped (λ _. Bool false) (fixed alse)

abbrev pub true_at : Reader Value
true_at = mapped (λ _. Bool true) (fixed rue)

-- `&` and a pointer, `@` and a block, `false`, `true`, or a number
unfoldable pub value_at : Reader Value
value_at = mapped value_of (choice 38 pointer_at (choice 64 block_at (choice 102 (fixed alse) (choice 116 (fixed rue) signed))))

-- what reading a value answers

abbrev pub IsValueOf : List ℕ → Value → Type 0
IsValueOf = IsTextOf value_text IsValue

-- the bytes are no value's text, and k is where the longest front of one ends; or a growth was refused
abbrev pub IsValueErrorOf : List ℕ → ValueTextError → Type 0
IsValueErrorOf bytes (BadValue k) = IsNoText value_text IsValue bytes k
IsValueErrorOf bytes NoMemory = Unit {0}

-- the value of the longest text that begins at the offset, and its end
abbrev pub IsValueAt : List ℕ → ℕ → Value → ℕ → Type 0
IsValueAt = IsTextAt value_text IsValue

-- no value's text begins at the offset, and k is where the longest front of one ends; or a growth was refused
abbrev pub IsValueErrorAt : List ℕ → ℕ → ValueTextError → Type 0
IsValueErrorAt bytes offset (BadValue k) = IsNoTextAt value_text IsValue bytes offset k
IsValueErrorAt bytes offset NoMemory = Unit {0}

-- The reader of entries, and what reading an entry answers.
use Rattle.std.specs.Prelude.{ℕ, ◌+◌, ◌-◌, ◌⊎◌, Bool, ◌&&◌, nat_le, cond, List, [], ◌∷◌, Ok, Err, codes}
use Rattle.std.proofs.Common.{inl, inr}
use Rattle.u_name.specs.Context.{IsBetween}
use Rattle.u_name.specs.Name.{Activity, IsName}
use Rattle.u_name.specs.Cell.{CellOf, cell_of, IsCell}
use Rattle.u_name.specs.NameReader.{name_steps}
use Rattle.u_base.specs.Reader.{Reader}
use Rattle.u_base.specs.Parts.{lead}
use Rattle.u_base.specs.Then.{both}
use Rattle.u_base.specs.Choice.{mapped, choice}
use Rattle.u_base.specs.FromZero.{number0}
use Rattle.u_base.specs.Fixed.{fixed}
use Rattle.u_base.specs.TextAt.{IsTextOf, IsNoText}
use Rattle.u_value.specs.Reading.{IsValue, value_at}
use Rattle.u_value.specs.declared.value.Value.{Value}
use Rattle.u_value.specs.declared.fault_kind.FaultKind.{FaultKind}
use Rattle.u_value.specs.declared.fault_kind.FaultKind.TheVariants as kinds
use Rattle.u_rule.specs.Parts.{token, most_ports}
use Rattle.u_rule.specs.EntryOrder.{write_of}
use Rattle.u_rule.specs.EntryText.{entry_text}
use Rattle.u_rule.specs.declared.parts.Fault.{Fault}
use Rattle.u_rule.specs.declared.entry.Entry.{Entry}
use Rattle.u_rule.specs.declared.entry.Entry.TheVariants as entries
use Rattle.u_rule.specs.declared.reading.TextError.{TextError}
use Rattle.u_rule.specs.declared.reading.TextError.TheVariants.{BadText, NoMemory}

-- the parts of an entry are in their ranges
abbrev pub IsEntry : Entry → Type 0
IsEntry (entries.Token t) = IsName t.activity × IsBetween 1 t.port most_ports × IsValue t.value
IsEntry (entries.Write w) = IsName w.cell.name × IsCell w.cell × IsName w.writer × IsValue w.value
IsEntry (entries.Fault f) = IsName f.activity
IsEntry (entries.Answer v) = IsValue v

-- a digit from `1` to that of the greatest port
abbrev pub is_port_digit : ℕ → Bool
is_port_digit c = nat_le 49 c && nat_le c (48 + most_ports)

abbrev pub port_by : Bool → ℕ → Reader ℕ
port_by b c cs = cond b (Ok (c - 48, cs)) (Err (c ∷ cs))

-- a port, which is one digit
abbrev pub port_at : Reader ℕ
port_at [] = Err []
port_at (c ∷ cs) = port_by (is_port_digit c) c cs

-- behind a name: an index in brackets
abbrev pub index_at : Reader (ℕ × Unit {0})
index_at = lead 91 (both (number0 999999) (λ _. fixed (93 ∷ [])))

-- `n[i]`
unfoldable pub cell_at : Reader CellOf
cell_at = mapped (λ t. cell_of t.0 t.1.0) (both name_steps (λ _. index_at))

-- what is read of a kind of fault, by the first byte of its word
abbrev pub OneOfEight : Type 0
OneOfEight = Unit {0} ⊎ (Unit {0} ⊎ (Unit {0} ⊎ (Unit {0} ⊎ (Unit {0} ⊎ (Unit {0} ⊎ (Unit {0} ⊎ Unit {0}))))))

abbrev pub kind_of : OneOfEight → FaultKind
kind_of =
    elim [
      | inl _ ↦ kinds.Kind
      | inr a ↦ elim a [
        | inl _ ↦ kinds.Overflow
        | inr b ↦ elim b [
          | inl _ ↦ kinds.Zero
          | inr c ↦ elim c [
            | inl _ ↦ kinds.Deep
            | inr d ↦ elim d [
              | inl _ ↦ kinds.Initiation
              | inr e ↦ elim e [ inl _ ↦ kinds.Length | inr f ↦ elim f [ inl _ ↦ kinds.Bounds | inr _ ↦ kinds.Arity ] ]
            ]
          ]
        ]
      ]
    ]

-- what stands behind the first byte of each word, and the last word

abbrev pub ind : List ℕ
ind = codes "ind"

abbrev pub verflow : List ℕ
verflow = codes "verflow"

abbrev pub ero : List ℕ
ero = codes "ero"

abbrev pub eep : List ℕ
eep = codes "eep"

abbrev pub nitiation : List ℕ
nitiation = codes "nitiation"

abbrev pub ength : List ℕ
ength = codes "ength"

abbrev pub ounds : List ℕ
ounds = codes "ounds"

abbrev pub arity : List ℕ
arity = codes "arity"

-- the word of a kind of fault
abbrev pub kind_at : Reader FaultKind
kind_at =
    mapped kind_of
    (choice 107 (fixed ind)
    (choice 111 (fixed verflow)
    (choice 122 (fixed ero)
    (choice 100 (fixed eep) (choice 105 (fixed nitiation) (choice 108 (fixed ength) (choice 98 (fixed ounds) (fixed arity))))))))

-- a space, and what stands behind it

abbrev pub spaced_value : Reader Value
spaced_value = lead 32 value_at

abbrev pub spaced_name : Reader Activity
spaced_name = lead 32 name_steps

abbrev pub spaced_cell : Reader CellOf
spaced_cell = lead 32 cell_at

abbrev pub spaced_port : Reader ℕ
spaced_port = lead 32 port_at

abbrev pub spaced_kind : Reader FaultKind
spaced_kind = lead 32 kind_at

-- ` PORT VALUE`
abbrev pub port_and_value : Reader (ℕ × Value)
port_and_value = lead 32 (both port_at (λ _. spaced_value))

-- ` WRITER VALUE`
abbrev pub writer_and_value : Reader (Activity × Value)
writer_and_value = lead 32 (both name_steps (λ _. spaced_value))

-- behind the letter of each kind of entry

abbrev pub token_at : Reader (Activity × (ℕ × Value))
token_at = lead 32 (both name_steps (λ _. port_and_value))

abbrev pub write_at : Reader (CellOf × (Activity × Value))
write_at = lead 32 (both cell_at (λ _. writer_and_value))

abbrev pub fault_at : Reader (Activity × FaultKind)
fault_at = lead 32 (both name_steps (λ _. spaced_kind))

-- an answer, with its letter
abbrev pub answer_at : Reader Value
answer_at = lead 97 spaced_value

-- what was read, by its letter
abbrev pub Read : Type 0
Read = (Activity × (ℕ × Value)) ⊎ ((CellOf × (Activity × Value)) ⊎ ((Activity × FaultKind) ⊎ Value))

abbrev pub token_of : Activity × (ℕ × Value) → Entry
token_of t = entries.Token (token t.0 t.1.0 t.1.1)

abbrev pub written_of : CellOf × (Activity × Value) → Entry
written_of t = entries.Write (write_of t.0 t.1.0 t.1.1)

abbrev pub fault_of : Activity → FaultKind → Fault
fault_of activity kind = record { activity = activity; kind = kind }

abbrev pub faulted_of : Activity × FaultKind → Entry
faulted_of t = entries.Fault (fault_of t.0 t.1)

abbrev pub answer_of : Value → Entry
answer_of v = entries.Answer v

abbrev pub entry_of : Read → Entry
entry_of = elim [ inl t ↦ token_of t | inr y ↦ elim y [ inl w ↦ written_of w | inr z ↦ elim z [ inl f ↦ faulted_of f | inr v ↦ answer_of v ] ] ]

-- `t`, `w`, `x` or `a`, and the parts
unfoldable pub entry_at : Reader Entry
entry_at = mapped entry_of (choice 116 token_at (choice 119 write_at (choice 120 fault_at answer_at)))

-- what reading an entry answers

abbrev pub IsEntryOf : List ℕ → Entry → Type 0
IsEntryOf = IsTextOf entry_text IsEntry

-- the bytes are no entry's text, and k is where the longest front of one ends; or a growth was refused
abbrev pub IsEntryErrorOf : List ℕ → TextError → Type 0
IsEntryErrorOf bytes (BadText k) = IsNoText entry_text IsEntry bytes k
IsEntryErrorOf bytes NoMemory = Unit {0}

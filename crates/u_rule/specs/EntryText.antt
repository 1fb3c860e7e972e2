-- Texts of entries.
use Rattle.std.specs.Prelude.{ℕ, List, ◌∷◌, ◌++◌, codes}
use Rattle.std.specs.Fmt.{decimal}
use Rattle.u_name.specs.NameText.{name_text}
use Rattle.u_name.specs.Cell.{cell_text}
use Rattle.u_value.specs.Values.{value_text}
use Rattle.u_value.specs.FaultKinds.{fault_kind_text}
use Rattle.u_rule.specs.Parts.{TokenParts}
use Rattle.u_rule.specs.declared.parts.Write.{Write}
use Rattle.u_rule.specs.declared.parts.Fault.{Fault}
use Rattle.u_rule.specs.declared.entry.Entry.{Entry}
use Rattle.u_rule.specs.declared.entry.Entry.TheVariants as entries

-- `t NAME PORT VALUE`
abbrev pub token_text : TokenParts → List ℕ
token_text t = codes "t " ++ (name_text t.activity ++ (32 ∷ (decimal t.port ++ (32 ∷ value_text t.value))))

-- `w CELL WRITER VALUE`
abbrev pub write_text : Write → List ℕ
write_text w = codes "w " ++ (cell_text w.cell ++ (32 ∷ (name_text w.writer ++ (32 ∷ value_text w.value))))

-- `x NAME KIND`
abbrev pub fault_text : Fault → List ℕ
fault_text f = codes "x " ++ (name_text f.activity ++ (32 ∷ fault_kind_text f.kind))

-- a letter for the kind of entry, and its parts behind spaces; of an answer `a VALUE`
unfoldable pub entry_text : Entry → List ℕ
entry_text (entries.Token t) = token_text t
entry_text (entries.Write w) = write_text w
entry_text (entries.Fault f) = fault_text f
entry_text (entries.Answer v) = codes "a " ++ value_text v

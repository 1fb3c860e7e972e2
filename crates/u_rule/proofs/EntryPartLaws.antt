-- The readers of the parts of an entry, once the first byte is known.
use Rattle.std.specs.Prelude.{◌≡◌, ℕ, ◌⊎◌, List, [], ◌∷◌, length, Result, Ok}
use Rattle.std.proofs.Common.{sym, ◌∙◌, ap, inr, arith}
use Rattle.u_base.specs.Reader.{Reader}
use Rattle.u_base.specs.Then.{both}
use Rattle.u_base.specs.Choice.{mapped, choice}
use Rattle.u_base.specs.Fixed.{fixed}
use Rattle.u_name.specs.Name.{Activity}
use Rattle.u_name.specs.Cell.{CellOf}
use Rattle.u_value.specs.declared.value.Value.{Value}
use Rattle.u_value.specs.declared.fault_kind.FaultKind.{FaultKind}
use Rattle.u_value.specs.declared.fault_kind.FaultKind.TheVariants as kinds
use Rattle.u_rule.proofs.FirstByteLaws.{turned, NotBehind, chosen, passed, begins_with, begins_with_none}
use Rattle.u_rule.proofs.StepLaws.{lead_both, both_ok}
use Rattle.u_rule.specs.EntryReading.{cell_at, spaced_cell, writer_and_value, kind_of, ind, verflow, ero, eep, nitiation, ength, ounds, arity, kind_at, token_at, write_at, fault_at, answer_at, token_of, written_of, faulted_of, answer_of, entry_of, entry_at}
use Rattle.u_rule.specs.declared.entry.Entry.{Entry}
use Rattle.u_rule.specs.declared.entry.Entry.TheVariants as entries
use Rattle.u_rule.specs.declared.parts.Write.{Write}

-- kinds of faults

abbrev others6 : Reader (Unit {0} ⊎ Unit {0})
others6 = choice 98 (fixed ounds) (fixed arity)

abbrev others5 : Reader (Unit {0} ⊎ (Unit {0} ⊎ Unit {0}))
others5 = choice 108 (fixed ength) others6

abbrev others4 : Reader (Unit {0} ⊎ (Unit {0} ⊎ (Unit {0} ⊎ Unit {0})))
others4 = choice 105 (fixed nitiation) others5

abbrev others3 : Reader (Unit {0} ⊎ (Unit {0} ⊎ (Unit {0} ⊎ (Unit {0} ⊎ Unit {0}))))
others3 = choice 100 (fixed eep) others4

abbrev others2 : Reader (Unit {0} ⊎ (Unit {0} ⊎ (Unit {0} ⊎ (Unit {0} ⊎ (Unit {0} ⊎ Unit {0})))))
others2 = choice 122 (fixed ero) others3

abbrev others1 : Reader (Unit {0} ⊎ (Unit {0} ⊎ (Unit {0} ⊎ (Unit {0} ⊎ (Unit {0} ⊎ (Unit {0} ⊎ Unit {0}))))))
others1 = choice 111 (fixed verflow) others2

pub kind_kind : (bs cs : List ℕ) → bs ≡ 107 ∷ cs → kind_at bs ≡ mapped (λ _. kinds.Kind) (fixed ind) cs
kind_kind bs cs e =
    chosen 107 (fixed ind) others1 kind_of bs cs e

pub kind_overflow : (bs cs : List ℕ) → bs ≡ 111 ∷ cs → kind_at bs ≡ mapped (λ _. kinds.Overflow) (fixed verflow) cs
kind_overflow bs cs e =
    passed 107 (fixed ind) others1 kind_of bs (begins_with 111 107 bs cs e (λ f. omega arith))
    ∙ chosen 111 (fixed verflow) others2 (λ y. kind_of (inr y)) bs cs e

pub kind_zero : (bs cs : List ℕ) → bs ≡ 122 ∷ cs → kind_at bs ≡ mapped (λ _. kinds.Zero) (fixed ero) cs
kind_zero bs cs e =
    passed 107 (fixed ind) others1 kind_of bs (begins_with 122 107 bs cs e (λ f. omega arith))
    ∙ passed 111 (fixed verflow) others2 (λ y. kind_of (inr y)) bs (begins_with 122 111 bs cs e (λ f. omega arith))
    ∙ chosen 122 (fixed ero) others3 (λ y. kind_of (inr (inr y))) bs cs e

pub kind_deep : (bs cs : List ℕ) → bs ≡ 100 ∷ cs → kind_at bs ≡ mapped (λ _. kinds.Deep) (fixed eep) cs
kind_deep bs cs e =
    passed 107 (fixed ind) others1 kind_of bs (begins_with 100 107 bs cs e (λ f. omega arith))
    ∙ passed 111 (fixed verflow) others2 (λ y. kind_of (inr y)) bs (begins_with 100 111 bs cs e (λ f. omega arith))
    ∙ passed 122 (fixed ero) others3 (λ y. kind_of (inr (inr y))) bs (begins_with 100 122 bs cs e (λ f. omega arith))
    ∙ chosen 100 (fixed eep) others4 (λ y. kind_of (inr (inr (inr y)))) bs cs e

pub kind_initiation : (bs cs : List ℕ) → bs ≡ 105 ∷ cs → kind_at bs ≡ mapped (λ _. kinds.Initiation) (fixed nitiation) cs
kind_initiation bs cs e =
    passed 107 (fixed ind) others1 kind_of bs (begins_with 105 107 bs cs e (λ f. omega arith))
    ∙ passed 111 (fixed verflow) others2 (λ y. kind_of (inr y)) bs (begins_with 105 111 bs cs e (λ f. omega arith))
    ∙ passed 122 (fixed ero) others3 (λ y. kind_of (inr (inr y))) bs (begins_with 105 122 bs cs e (λ f. omega arith))
    ∙ passed 100 (fixed eep) others4 (λ y. kind_of (inr (inr (inr y)))) bs (begins_with 105 100 bs cs e (λ f. omega arith))
    ∙ chosen 105 (fixed nitiation) others5 (λ y. kind_of (inr (inr (inr (inr y))))) bs cs e

pub kind_length : (bs cs : List ℕ) → bs ≡ 108 ∷ cs → kind_at bs ≡ mapped (λ _. kinds.Length) (fixed ength) cs
kind_length bs cs e =
    passed 107 (fixed ind) others1 kind_of bs (begins_with 108 107 bs cs e (λ f. omega arith))
    ∙ passed 111 (fixed verflow) others2 (λ y. kind_of (inr y)) bs (begins_with 108 111 bs cs e (λ f. omega arith))
    ∙ passed 122 (fixed ero) others3 (λ y. kind_of (inr (inr y))) bs (begins_with 108 122 bs cs e (λ f. omega arith))
    ∙ passed 100 (fixed eep) others4 (λ y. kind_of (inr (inr (inr y)))) bs (begins_with 108 100 bs cs e (λ f. omega arith))
    ∙ passed 105 (fixed nitiation) others5 (λ y. kind_of (inr (inr (inr (inr y))))) bs (begins_with 108 105 bs cs e (λ f. omega arith))
    ∙ chosen 108 (fixed ength) others6 (λ y. kind_of (inr (inr (inr (inr (inr y)))))) bs cs e

pub kind_bounds : (bs cs : List ℕ) → bs ≡ 98 ∷ cs → kind_at bs ≡ mapped (λ _. kinds.Bounds) (fixed ounds) cs
kind_bounds bs cs e =
    passed 107 (fixed ind) others1 kind_of bs (begins_with 98 107 bs cs e (λ f. omega arith))
    ∙ passed 111 (fixed verflow) others2 (λ y. kind_of (inr y)) bs (begins_with 98 111 bs cs e (λ f. omega arith))
    ∙ passed 122 (fixed ero) others3 (λ y. kind_of (inr (inr y))) bs (begins_with 98 122 bs cs e (λ f. omega arith))
    ∙ passed 100 (fixed eep) others4 (λ y. kind_of (inr (inr (inr y)))) bs (begins_with 98 100 bs cs e (λ f. omega arith))
    ∙ passed 105 (fixed nitiation) others5 (λ y. kind_of (inr (inr (inr (inr y))))) bs (begins_with 98 105 bs cs e (λ f. omega arith))
    ∙ passed 108 (fixed ength) others6 (λ y. kind_of (inr (inr (inr (inr (inr y)))))) bs (begins_with 98 108 bs cs e (λ f. omega arith))
    ∙ chosen 98 (fixed ounds) (fixed arity) (λ y. kind_of (inr (inr (inr (inr (inr (inr y))))))) bs cs e

pub kind_other : (bs : List ℕ) → NotBehind 107 bs → NotBehind 111 bs → NotBehind 122 bs → NotBehind 100 bs → NotBehind 105 bs → NotBehind 108 bs → NotBehind 98 bs → kind_at bs ≡ mapped (λ _. kinds.Arity) (fixed arity) bs
kind_other bs n107 n111 n122 n100 n105 n108 n98 =
    passed 107 (fixed ind) others1 kind_of bs n107
    ∙ passed 111 (fixed verflow) others2 (λ y. kind_of (inr y)) bs n111
    ∙ passed 122 (fixed ero) others3 (λ y. kind_of (inr (inr y))) bs n122
    ∙ passed 100 (fixed eep) others4 (λ y. kind_of (inr (inr (inr y)))) bs n100
    ∙ passed 105 (fixed nitiation) others5 (λ y. kind_of (inr (inr (inr (inr y))))) bs n105
    ∙ passed 108 (fixed ength) others6 (λ y. kind_of (inr (inr (inr (inr (inr y)))))) bs n108
    ∙ passed 98 (fixed ounds) (fixed arity) (λ y. kind_of (inr (inr (inr (inr (inr (inr y))))))) bs n98

-- writes

abbrev any_writer : CellOf → Reader (Activity × Value)
any_writer _ = writer_and_value

write_then : (bs : List ℕ) → mapped written_of write_at bs ≡ mapped written_of (both spaced_cell any_writer) bs
write_then bs = ap (turned written_of) (lead_both 32 cell_at any_writer bs)

pub write_read : (cell : CellOf) (w : Write) (bs others rest : List ℕ) → spaced_cell bs ≡ Ok (cell, others) → w.cell ≡ cell → writer_and_value others ≡ Ok ((w.writer, w.value), rest) → mapped written_of write_at bs ≡ Ok (entries.Write w, rest)
write_read cell w bs others rest h e k =
    write_then bs
    ∙ both_ok spaced_cell any_writer written_of bs cell others h
    ∙ ap (turned (λ t. written_of (cell, t))) k
    ∙ ap (λ c. Ok (written_of (c, (w.writer, w.value)), rest)) (sym e)

-- entries

abbrev fault_or_answer : Reader ((Activity × FaultKind) ⊎ Value)
fault_or_answer = choice 120 fault_at answer_at

abbrev no_token : Reader ((CellOf × (Activity × Value)) ⊎ ((Activity × FaultKind) ⊎ Value))
no_token = choice 119 write_at fault_or_answer

pub entry_token : (bs cs : List ℕ) → bs ≡ 116 ∷ cs → entry_at bs ≡ mapped token_of token_at cs
unfolding entry_at
entry_token bs cs e = chosen 116 token_at no_token entry_of bs cs e

pub entry_write : (bs cs : List ℕ) → bs ≡ 119 ∷ cs → entry_at bs ≡ mapped written_of write_at cs
unfolding entry_at
entry_write bs cs e = passed 116 token_at no_token entry_of bs (begins_with 119 116 bs cs e (λ f. omega arith)) ∙ chosen 119 write_at fault_or_answer (λ y. entry_of (inr y)) bs cs e

pub entry_fault : (bs cs : List ℕ) → bs ≡ 120 ∷ cs → entry_at bs ≡ mapped faulted_of fault_at cs
unfolding entry_at
entry_fault bs cs e =
    passed 116 token_at no_token entry_of bs (begins_with 120 116 bs cs e (λ f. omega arith))
    ∙ passed 119 write_at fault_or_answer (λ y. entry_of (inr y)) bs (begins_with 120 119 bs cs e (λ f. omega arith))
    ∙ chosen 120 fault_at answer_at (λ y. entry_of (inr (inr y))) bs cs e

pub entry_other : (bs : List ℕ) → NotBehind 116 bs → NotBehind 119 bs → NotBehind 120 bs → entry_at bs ≡ mapped answer_of answer_at bs
unfolding entry_at
entry_other bs a b c =
    passed 116 token_at no_token entry_of bs a
    ∙ passed 119 write_at fault_or_answer (λ y. entry_of (inr y)) bs b
    ∙ passed 120 fault_at answer_at (λ y. entry_of (inr (inr y))) bs c

abbrev pub ReadEntry : Type 0
ReadEntry = Result (Entry × List ℕ) (List ℕ)

pub entry_behind_other : (bs : List ℕ) (c : ℕ) (cs : List ℕ) (r : ReadEntry) → bs ≡ c ∷ cs → (c ≡ 116 → ⊥) → (c ≡ 119 → ⊥) → (c ≡ 120 → ⊥) → mapped answer_of answer_at bs ≡ r → entry_at bs ≡ r
entry_behind_other bs c cs r e a b d h = entry_other bs (begins_with c 116 bs cs e a) (begins_with c 119 bs cs e b) (begins_with c 120 bs cs e d) ∙ h

pub entry_behind_nothing : (bs : List ℕ) (r : ReadEntry) → length bs ≡ 0 → mapped answer_of answer_at bs ≡ r → entry_at bs ≡ r
entry_behind_nothing [] r e h = entry_other [] (begins_with_none 116) (begins_with_none 119) (begins_with_none 120) ∙ h
entry_behind_nothing (c ∷ cs) r e h = absurd (omega arith)

-- The derived orders of entries and of firings are those in plain words.
use Rattle.std.specs.Prelude.{◌≡◌, [], ◌∷◌, Option, Some, None, refl}
use Rattle.std.proofs.Common.{ap, ◌∙◌}
use Rattle.std.specs.Option.{option_cmp}
use Rattle.std.specs.Ordering.{ordering_then, nat_cmp}
use Rattle.u_name.specs.NameOrder.{name_cmp}
use Rattle.u_name.specs.Cell.{cell_cmp}
use Rattle.u_value.specs.Values.{value_cmp}
use Rattle.u_value.specs.ExactOrders.{derived_value_cmp, derived_fault_kind_cmp}
use Rattle.u_rule.specs.Parts.{TokenParts, ValueList}
use Rattle.u_rule.specs.ValuesOrder.{values_order}
use Rattle.u_rule.specs.WrittenOrder.{written_order}
use Rattle.u_rule.specs.Orders.{token_cmp, write_cmp, fault_cmp, entry_order, values_cmp, written_cmp, firing_order}
use Rattle.u_rule.specs.EntryOrder.{entry_cmp, firing_cmp}
use Rattle.u_rule.specs.declared.parts.Write.{Write}
use Rattle.u_rule.specs.declared.parts.Fault.{Fault}
use Rattle.u_rule.specs.declared.entry.Entry.{Entry}
use Rattle.u_rule.specs.declared.entry.Entry.TheVariants as entries
use Rattle.u_rule.specs.declared.firing.Firing.{Firing}
use Rattle.u_rule.specs.declared.parts.Written.{Written}
use Rattle.u_rule.specs.contracts.parts.TokenOrd.TheImpl as token_ord
use Rattle.u_rule.specs.contracts.parts.WriteOrd.TheImpl as write_ord
use Rattle.u_rule.specs.contracts.parts.FaultOrd.TheImpl as fault_ord

derived_token_cmp : (a b : TokenParts) → (token_ord.ghosts).cmp a b ≡ token_cmp a b
derived_token_cmp a b =
    ap (λ r. ordering_then (name_cmp a.activity b.activity) (ordering_then (nat_cmp a.port b.port) r)) (derived_value_cmp a.value b.value)

derived_write_cmp : (a b : Write) → (write_ord.ghosts).cmp a b ≡ write_cmp a b
derived_write_cmp a b =
    ap (λ r. ordering_then (cell_cmp a.cell b.cell) (ordering_then (name_cmp a.writer b.writer) r)) (derived_value_cmp a.value b.value)

derived_fault_cmp : (a b : Fault) → (fault_ord.ghosts).cmp a b ≡ fault_cmp a b
derived_fault_cmp a b = ap (λ r. ordering_then (name_cmp a.activity b.activity) r) (derived_fault_kind_cmp a.kind b.kind)

pub derived_entry_cmp : (a b : Entry) → entry_cmp a b ≡ entry_order a b
derived_entry_cmp (entries.Token a) (entries.Token b) = derived_token_cmp a b
derived_entry_cmp (entries.Write a) (entries.Write b) = derived_write_cmp a b
derived_entry_cmp (entries.Fault a) (entries.Fault b) = derived_fault_cmp a b
derived_entry_cmp (entries.Answer a) (entries.Answer b) = derived_value_cmp a b
derived_entry_cmp a b = refl

derived_values_cmp : (a b : ValueList) → values_order a b ≡ values_cmp a b
derived_values_cmp [] [] = refl
derived_values_cmp [] (w ∷ ws) = refl
derived_values_cmp (v ∷ vs) [] = refl
derived_values_cmp (v ∷ vs) (w ∷ ws) =
    ap (λ r. ordering_then r (values_order vs ws)) (derived_value_cmp v w) ∙ ap (λ r. ordering_then (value_cmp v w) r) (derived_values_cmp vs ws)

derived_option_cmp : (a b : Option Written) → option_cmp written_order a b ≡ option_cmp written_cmp a b
derived_option_cmp None None = refl
derived_option_cmp None (Some b) = refl
derived_option_cmp (Some a) None = refl
derived_option_cmp (Some a) (Some b) = ap (λ r. ordering_then (name_cmp a.writer b.writer) r) (derived_value_cmp a.value b.value)

pub derived_firing_cmp : (a b : Firing) → firing_cmp a b ≡ firing_order a b
derived_firing_cmp a b =
    ap (λ r. ordering_then (name_cmp a.activity b.activity) (ordering_then r (option_cmp written_order a.write b.write)))
    (derived_values_cmp a.values b.values)
    ∙ ap (λ r. ordering_then (name_cmp a.activity b.activity) (ordering_then (values_cmp a.values b.values) r)) (derived_option_cmp a.write b.write)

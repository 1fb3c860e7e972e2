-- Entries, firings and their parts have total orders in which only a thing itself ties with it. These
-- laws stand here because the impls of `ExactOrd` cite them.
use Rattle.std.specs.Prelude.{◌≡◌, Option, Some, None, refl}
use Rattle.std.proofs.Common.{ap, ◌∙◌}
use Rattle.std.specs.Cmp.{IsTotalOrder}
use Rattle.std.specs.Option.{option_cmp}
use Rattle.std.specs.FinMap.{nat_cmp-IsAntisymmetric}
use Rattle.std.specs.declared.cmp.Ordering.TheVariants.{Equal}
use Rattle.u_name.specs.Name.{Activity}
use Rattle.u_name.specs.ContextLaws.{both}
use Rattle.u_name.specs.NameOrder.{name_cmp_ties}
use Rattle.u_name.specs.ExactOrders.{cell_cmp_ties}
use Rattle.u_value.specs.ExactOrders.{derived_value_ties, derived_fault_kind_ties}
use Rattle.u_value.specs.declared.fault_kind.FaultKind.{FaultKind}
use Rattle.u_rule.specs.EntryOrder.{write_of, firing, entry_cmp, firing_cmp}
use Rattle.u_rule.specs.Parts.{TokenParts, token}
use Rattle.u_rule.specs.ValuesOrder.{values_order_ties}
use Rattle.u_rule.specs.WrittenOrder.{written_order, written_order_ties}
use Rattle.u_rule.specs.declared.parts.Write.{Write}
use Rattle.u_rule.specs.declared.parts.Fault.{Fault}
use Rattle.u_rule.specs.declared.entry.Entry.{Entry}
use Rattle.u_rule.specs.declared.entry.Entry.TheVariants as entries
use Rattle.u_rule.specs.declared.firing.Firing.{Firing}
use Rattle.u_rule.specs.declared.parts.Written.{Written}
use Rattle.u_rule.specs.contracts.parts.TokenOrd.TheImpl as token_ord
use Rattle.u_rule.specs.contracts.parts.WriteOrd.TheImpl as write_ord
use Rattle.u_rule.specs.contracts.parts.FaultOrd.TheImpl as fault_ord
use Rattle.u_rule.specs.contracts.entry.EntryOrd.TheImpl.Laws as entry_laws
use Rattle.u_rule.specs.contracts.firing.FiringOrd.TheImpl.Laws as firing_laws

pub entry_cmp_total : IsTotalOrder entry_cmp
entry_cmp_total = entry_laws.total-law

pub firing_cmp_total : IsTotalOrder firing_cmp
firing_cmp_total = firing_laws.total-law

token_ties : (a b : TokenParts) → (token_ord.ghosts).cmp a b ≡ Equal → a ≡ b
token_ties a b h =
    let u = both _ _ h in
    let v = both _ _ u.1 in
    ap (λ n. token n a.port a.value) (name_cmp_ties a.activity b.activity u.0)
    ∙ ap (λ p. token b.activity p a.value) (nat_cmp-IsAntisymmetric a.port b.port v.0)
    ∙ ap (λ w. token b.activity b.port w) (derived_value_ties a.value b.value v.1)

write_ties : (a b : Write) → (write_ord.ghosts).cmp a b ≡ Equal → a ≡ b
write_ties a b h =
    let u = both _ _ h in
    let v = both _ _ u.1 in
    ap (λ c. write_of c a.writer a.value) (cell_cmp_ties a.cell b.cell u.0)
    ∙ ap (λ n. write_of b.cell n a.value) (name_cmp_ties a.writer b.writer v.0)
    ∙ ap (λ w. write_of b.cell b.writer w) (derived_value_ties a.value b.value v.1)

abbrev fault : Activity → FaultKind → Fault
fault activity kind = record { activity = activity; kind = kind }

-- faults that tie are the same
pub fault_ties : (a b : Fault) → (fault_ord.ghosts).cmp a b ≡ Equal → a ≡ b
fault_ties a b h =
    let u = both _ _ h in
    ap (λ n. fault n a.kind) (name_cmp_ties a.activity b.activity u.0) ∙ ap (λ k. fault b.activity k) (derived_fault_kind_ties a.kind b.kind u.1)

-- entries that tie are the same
pub entry_cmp_ties : (a b : Entry) → entry_cmp a b ≡ Equal → a ≡ b
entry_cmp_ties (entries.Token a) (entries.Token b) h = ap (λ t. entries.Token t) (token_ties a b h)
entry_cmp_ties (entries.Write a) (entries.Write b) h = ap (λ t. entries.Write t) (write_ties a b h)
entry_cmp_ties (entries.Fault a) (entries.Fault b) h = ap (λ t. entries.Fault t) (fault_ties a b h)
entry_cmp_ties (entries.Answer a) (entries.Answer b) h = ap (λ t. entries.Answer t) (derived_value_ties a b h)
entry_cmp_ties a b h = cc

option_ties : (a b : Option Written) → option_cmp written_order a b ≡ Equal → a ≡ b
option_ties None None h = refl
option_ties None (Some b) h = cc
option_ties (Some a) None h = cc
option_ties (Some a) (Some b) h = ap (λ w. Some w) (written_order_ties a b h)

-- firings that tie are the same
pub firing_cmp_ties : (a b : Firing) → firing_cmp a b ≡ Equal → a ≡ b
firing_cmp_ties a b h =
    let u = both _ _ h in
    let v = both _ _ u.1 in
    ap (λ n. firing n a.values a.write) (name_cmp_ties a.activity b.activity u.0)
    ∙ ap (λ vs. firing b.activity vs a.write) (values_order_ties a.values b.values v.0)
    ∙ ap (λ w. firing b.activity b.values w) (option_ties a.write b.write v.1)

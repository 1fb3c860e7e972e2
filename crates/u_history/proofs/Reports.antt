-- Reports of sets that are the same.
use Rattle.std.proofs.Common.{◌≡◌, ℕ, List, length, map, Contains, sym, ap, ◌∙◌}
use Rattle.std.specs.Cmp.{IsTotalOrder}
use Rattle.std.proofs.lemmas.Cmp.{nat_cmp_total, on_total, then_total}
use Rattle.u_base.specs.Firing.{Same}
use Rattle.u_sets.specs.Rising.{Rises}
use Rattle.u_sets.proofs.Places.{one_list_of, list_of_same}
use Rattle.u_value.specs.declared.value.Value.{Value}
use Rattle.u_value.specs.contracts.value.ValueOrd.TheImpl.Laws as value_laws
use Rattle.u_name.specs.NameOrder.{name_cmp_total}
use Rattle.u_name.specs.ExactOrders.{cell_cmp_total}
use Rattle.u_rule.specs.Parts.{token}
use Rattle.u_rule.specs.EntryOrder.{entry_cmp, write_of}
use Rattle.u_rule.specs.ExactOrders.{entry_cmp_total}
use Rattle.u_rule.specs.declared.parts.Written.{Written}
use Rattle.u_rule.specs.declared.parts.Fault.{Fault}
use Rattle.u_rule.specs.declared.entry.Entry.{Entry}
use Rattle.u_rule.specs.declared.entry.Entry.TheVariants as entries
use Rattle.u_rule.specs.contracts.parts.WrittenOrd.TheImpl.Laws as written_laws
use Rattle.u_rule.specs.contracts.parts.FaultOrd.TheImpl.Laws as fault_laws
use Rattle.u_history.specs.declared.report.Ending.{Ending}
use Rattle.u_history.specs.declared.report.Counts.{Counts}
use Rattle.u_history.specs.declared.outcome.Outcome.{Outcome}
use Rattle.u_history.specs.Orders.{value_order, written_order, fault_order}
use Rattle.u_history.specs.Outcomes.{CellPairs, PortValues, PairIn, ValueAt, HasTwo, IsCellClash, IsPortClash, cell_clash_order, port_clash_order, IsOutcome}
use Rattle.u_history.specs.Clashes.{cell_pairs, port_values}
use Rattle.u_history.specs.OutcomeParts.{IsOutcomeOf, report_text_of}
use Rattle.u_history.specs.Report.{IsReportOf, report_text}

pub cells_total : IsTotalOrder cell_clash_order
cells_total = on_total (λ (r : CellPairs). r.cell) cell_cmp_total

pub ports_total : IsTotalOrder port_clash_order
ports_total = then_total (on_total (λ (r : PortValues). r.activity) name_cmp_total) (on_total (λ (r : PortValues). r.port) nat_cmp_total)

module _ (H K : Entry → Type 0) (same : Same H K) where
  two_same : {X : Type 0} (M : X → Entry) → HasTwo (λ x. H (M x)) → HasTwo (λ x. K (M x))
  two_same M (a, b, h, k, q) = (a, b, (same (M a)).0 h, (same (M b)).0 k, q)

  two_back : {X : Type 0} (M : X → Entry) → HasTwo (λ x. K (M x)) → HasTwo (λ x. H (M x))
  two_back M (a, b, h, k, q) = (a, b, (same (M a)).1 h, (same (M b)).1 k, q)

  same_cells : Same (IsCellClash H) (IsCellClash K)
  same_cells r =
      let M = λ (x : Written). entries.Write (write_of r.cell x.writer x.value) in (
        (λ h. (two_same M h.0, list_of_same written_order written_laws.total-law (PairIn H r.cell) (PairIn K r.cell) (λ x. same (M x)) r.pairs h.1)),
        λ k. (two_back M k.0, list_of_same written_order written_laws.total-law (PairIn K r.cell) (PairIn H r.cell) (λ x. ((same (M x)).1, (same (M x)).0)) r.pairs k.1),
      )

  same_ports : Same (IsPortClash H) (IsPortClash K)
  same_ports r =
      let M = λ (x : Value). entries.Token (token r.activity r.port x) in (
        (λ h. (two_same M h.0, list_of_same value_order value_laws.total-law (ValueAt H r.activity r.port) (ValueAt K r.activity r.port) (λ x. same (M x)) r.values h.1)),
        λ k. (two_back M k.0, list_of_same value_order value_laws.total-law (ValueAt K r.activity r.port) (ValueAt H r.activity r.port) (λ x. ((same (M x)).1, (same (M x)).0)) r.values k.1),
      )

  -- the outcome of a set is that of its like
  pub outcome_same : (answers : List Value) (cells : List CellPairs) (ports : List PortValues) (faults : List Fault) → IsOutcome H answers cells ports faults → IsOutcome K answers cells ports faults
  outcome_same answers cells ports faults o = record {
    all_answers = list_of_same value_order value_laws.total-law (λ v. H (entries.Answer v)) (λ v. K (entries.Answer v)) (λ v. same (entries.Answer v)) answers o.all_answers;
    all_cells = list_of_same cell_clash_order cells_total (IsCellClash H) (IsCellClash K) same_cells cells o.all_cells;
    all_ports = list_of_same port_clash_order ports_total (IsPortClash H) (IsPortClash K) same_ports ports o.all_ports;
    all_faults = list_of_same fault_order fault_laws.total-law (λ x. H (entries.Fault x)) (λ x. K (entries.Fault x)) (λ x. same (entries.Fault x)) faults o.all_faults;
  }

  -- and so is its report
  pub report_same : (state : Ending) (firings parked : ℕ) (text : List ℕ) → IsReportOf H state firings parked text → IsReportOf K state firings parked text
  report_same state firings parked text r = record {
    entries = r.entries;
    all_entries = list_of_same entry_cmp entry_cmp_total H K same r.entries r.all_entries;
    answers = r.answers;
    cells = r.cells;
    ports = r.ports;
    faults = r.faults;
    outcome = outcome_same r.answers r.cells r.ports r.faults r.outcome;
    is = r.is;
  }

  -- sets that are the same have one report
  pub report_one : (state : Ending) (firings parked : ℕ) (text other : List ℕ) → IsReportOf H state firings parked text → IsReportOf K state firings parked other → text ≡ other
  report_one state firings parked text other r q =
      let a = one_list_of entry_cmp entry_cmp_total H K same r.entries q.entries r.all_entries q.all_entries in
      let b = one_list_of value_order value_laws.total-law (λ v. H (entries.Answer v)) (λ v. K (entries.Answer v)) (λ v. same (entries.Answer v)) r.answers q.answers r.outcome.all_answers q.outcome.all_answers in
      let c = one_list_of cell_clash_order cells_total (IsCellClash H) (IsCellClash K) same_cells r.cells q.cells r.outcome.all_cells q.outcome.all_cells in
      let d = one_list_of port_clash_order ports_total (IsPortClash H) (IsPortClash K) same_ports r.ports q.ports r.outcome.all_ports q.outcome.all_ports in
      let e = one_list_of fault_order fault_laws.total-law (λ x. H (entries.Fault x)) (λ x. K (entries.Fault x)) (λ x. same (entries.Fault x)) r.faults q.faults r.outcome.all_faults q.outcome.all_faults in
      r.is ∙ (λ i. report_text state firings parked (length (a i)) (b i) (c i) (d i) (e i)) ∙ sym q.is

-- the text of the outcome of a list that rises is the report of what it has
pub report_is : (es : List Entry) (o : Outcome) (state : Ending) (counts : Counts) (text : List ℕ) → Rises entry_cmp es → counts.entries ≡ length es → IsOutcomeOf (Contains es) o → text ≡ report_text_of state counts o → IsReportOf (Contains es) state counts.firings counts.parked text
report_is es o state counts text rises count outcome is = record {
  entries = es;
  all_entries = record { rises = rises; exact = λ x. ((λ m. m), λ m. m) };
  answers = o.answers;
  cells = map cell_pairs o.cell_clashes;
  ports = map port_values o.port_clashes;
  faults = o.faults;
  outcome = outcome;
  is = is ∙ ap (λ (n : ℕ). report_text state counts.firings counts.parked n o.answers (map cell_pairs o.cell_clashes) (map port_values o.port_clashes) o.faults) count;
}

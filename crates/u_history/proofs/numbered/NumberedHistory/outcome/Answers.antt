use Rattle.std.proofs.Common.{List, Contains, subst, sym, ap, ◌∙◌, ◌↔◌, map}
use Rattle.u_rule.specs.EntryOrder.{entry_cmp}
use Rattle.u_rule.specs.declared.entry.Entry.{Entry}
use Rattle.u_sets.specs.Rising.{Rises}
use Rattle.u_sets.proofs.Keyed.{ok_then}
use Rattle.u_history.specs.Tables.{contents_of, InTables, Matters, all_entries}
use Rattle.u_history.specs.Outcomes.{lent}
use Rattle.u_history.specs.OutcomeParts.{IsOutcomeOf}
use Rattle.u_history.specs.Clashes.{cell_pairs, port_values}
use Rattle.u_history.proofs.Tabled.{held_in}
use Rattle.u_history.proofs.Telling.{outcome_of_telling}
use Rattle.u_history.proofs.Reports.{outcome_same}
use Rattle.u_history.proofs.numbered.NumberedHistory.outcome.Goals as goal

pub of-requires : goal.of-requires
of-requires c = subst (Rises entry_cmp) (sym (ap lent c.deref-2.ensures.value ∙ c.in_ok-lent.ensures ∙ c.deref.ensures.value)) c.in_ok-entries.ensures.rises

pub returns : goal.returns
returns c =
    let t = contents_of c.self.inside.tables in
    let is = ap lent c.deref-2.ensures.value ∙ c.in_ok-lent.ensures ∙ c.deref.ensures.value in
    let M = Contains (lent c.deref-2.result.now) in
    let same = λ (e : Entry). subst (λ (es : List Entry). Contains es e ↔ Matters (InTables t) e) (sym is) (c.in_ok-entries.ensures.all e) in
    rw (← c.self.view_is)
    (ok_then c.of.result (IsOutcomeOf M) (IsOutcomeOf M) (IsOutcomeOf (Contains (all_entries t))) c.of.ensures c.of.ensures
    (λ o a b. outcome_same (InTables t) (Contains (all_entries t)) (λ e. let h = held_in t c.self.invariant.tables.others e in (h.1, h.0)) o.answers (map cell_pairs o.cell_clashes) (map port_values o.port_clashes) o.faults
    (outcome_of_telling (InTables t) M same o.answers (map cell_pairs o.cell_clashes) (map port_values o.port_clashes) o.faults a)))

use Rattle.std.proofs.Common.{List, Contains, map, subst, sym}
use Rattle.u_sets.specs.Rising.{IsListOf}
use Rattle.u_value.specs.declared.value.Value.{Value}
use Rattle.u_rule.specs.declared.parts.Fault.{Fault}
use Rattle.u_rule.specs.declared.entry.Entry.TheVariants as kinds
use Rattle.u_history.specs.declared.clash.CellClash.{CellClash}
use Rattle.u_history.specs.declared.clash.PortClash.{PortClash}
use Rattle.u_history.specs.Orders.{value_order, fault_order}
use Rattle.u_history.specs.Outcomes.{lent, IsCellClash, IsPortClash, cell_clash_order, port_clash_order}
use Rattle.u_history.specs.Clashes.{cell_pairs, port_values}
use Rattle.u_history.proofs.outcome.Outcome.of.Goals as goal

pub returns : goal.returns
returns c =
    let H = Contains (lent c.args.entries.now) in
    record {
      all_answers = subst (λ (xs : List Value). IsListOf value_order (λ v. H (kinds.Answer v)) xs) (sym c.new.ensures) c.in_ok-answers.ensures;
      all_cells = subst (λ (xs : List CellClash). IsListOf cell_clash_order (IsCellClash H) (map cell_pairs xs)) (sym c.new-2.ensures) c.in_ok-cell_clashes.ensures;
      all_ports = subst (λ (xs : List PortClash). IsListOf port_clash_order (IsPortClash H) (map port_values xs)) (sym c.new-3.ensures) c.in_ok-port_clashes.ensures;
      all_faults = subst (λ (xs : List Fault). IsListOf fault_order (λ x. H (kinds.Fault x)) xs) (sym c.new-4.ensures) c.in_ok-faults.ensures;
    }

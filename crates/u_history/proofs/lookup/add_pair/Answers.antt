use Rattle.std.proofs.Common.{◌∙◌, ap, sym}
use Rattle.u_name.specs.Cell.{CellOf}
use Rattle.u_value.specs.declared.value.Value.{Value}
use Rattle.u_name.specs.Name.{Activity}
use Rattle.u_rule.specs.EntryOrder.{write_of, written}
use Rattle.u_rule.specs.declared.parts.Written.{Written}
use Rattle.u_rule.specs.declared.entry.Entry.TheVariants as kinds
use Rattle.u_history.proofs.OneValue.{one_pair}
use Rattle.u_history.proofs.Gathered.{added}
use Rattle.u_history.proofs.lookup.add_pair.Goals as goal

pub returns-in_ok-place_in-clause-ok : goal.returns-in_ok-place_in-clause-ok
returns-in_ok-place_in-clause-ok c =
    added (λ (x : Written). kinds.Write (write_of c.args.cell.now x.writer x.value)) (one_pair c.args.cell.now) c.args.entry.now c.args.list.now.items c.place_in.new.list.items (written c.in_ok-copy.field-0 c.in_ok-copy-2.field-0)
    (c.in-Write.is
    ∙ (ap (λ (l : CellOf). kinds.Write (write_of l c.in-Write.item.writer c.in-Write.item.value)) (c.is_in_cell.ensures.0 c.if-is_in_cell.true)
    ∙ (ap (λ (n : Activity). kinds.Write (write_of c.args.cell.now n c.in-Write.item.value)) (sym c.in_ok-copy.ensures)
    ∙ ap (λ (v : Value). kinds.Write (write_of c.args.cell.now c.in_ok-copy.field-0 v)) (sym c.in_ok-copy-2.ensures))))
    c.in_ok-place_in.ensures.ok

use Rattle.u_rule.specs.EntryOrder.{write_of}
use Rattle.u_rule.specs.declared.entry.Entry.TheVariants as entries
use Rattle.u_history.specs.Tables.{contents_of}
use Rattle.u_history.proofs.Tabled.{held_in}
use Rattle.u_history.proofs.numbered.NumberedHistory.writes_to.Goals as goal

pub returns-clause-all : goal.returns-clause-all
returns-clause-all c w =
    let h = held_in (contents_of c.self.inside.tables) c.self.invariant.tables.others (entries.Write (write_of c.args.cell.now w.writer w.value)) in
    let r = c.under.ensures.all w in
    rw (← c.self.view_is) ((λ t. h.1 (r.0 t)), λ m. r.1 (h.0 m))

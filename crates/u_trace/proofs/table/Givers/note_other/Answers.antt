use Rattle.std.proofs.Common.{sym, subst}
use Rattle.u_rule.specs.declared.entry.Entry.{Entry}
use Rattle.u_trace.specs.Places.{entry_eq, IsPut}
use Rattle.u_trace.proofs.TableLaws.{notes_other, other_still}
use Rattle.u_trace.proofs.table.Givers.note_other.Goals as goal

pub returns-in-Some-clause-notes : goal.returns-in-Some-clause-notes
returns-in-Some-clause-notes c = other_still c.args.self.now.names c.args.self.now.tokens c.args.entry.now c.requires c.args.self.now.others c.args.place c.in-Some.field-0 (sym c.in-Some.ensures)

pub returns-clause-notes : goal.returns-clause-notes
returns-clause-notes c =
    let put = subst (λ (e : Entry). IsPut entry_eq c.args.self.now.others e c.args.place c.put.new.self) c.in_ok-copy.ensures c.in_ok-put.ensures.ok in
    notes_other c.args.self.now.names c.args.self.now.tokens c.args.entry.now c.requires c.args.self.now.others c.put.new.self c.args.place put (sym c.in_default.ensures)

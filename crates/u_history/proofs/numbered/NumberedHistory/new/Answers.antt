use Rattle.std.proofs.Common.{sym, ap, length, List}
use Rattle.u_rule.specs.declared.entry.Entry.{Entry}
use Rattle.u_history.specs.Tables.{contents_of}
use Rattle.u_history.proofs.Tabled.{no_entries}
use Rattle.u_history.proofs.numbered.NumberedHistory.new.Goals as goal

pub invariant_of-result : goal.invariant_of-result
invariant_of-result c = record {
  tables = c.new.ensures.tables;
  count = ap (λ (es : List Entry). length es) (sym (no_entries (contents_of c.new.result) c.new.ensures.tables.others c.new.ensures.held));
}

pub returns : goal.returns
returns c = no_entries (contents_of c.new.result) c.new.ensures.tables.others c.new.ensures.held

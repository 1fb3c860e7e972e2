use Rattle.std.proofs.Common.{◌∙◌, ◌++◌, ap, sym, subst, map, List}
use Rattle.std.specs.Map.Iter.{deref}
use Rattle.u_names.specs.CellPairs.{deref_at_cell}
use Rattle.u_base.specs.Firing.{Distinct}
use Rattle.u_rule.specs.declared.entry.Entry.{Entry}
use Rattle.u_history.specs.Tables.{contents_of, write_entry}
use Rattle.u_history.proofs.Tabled.{three, listed_distinct}
use Rattle.u_history.proofs.tables.Tables.listed.Goals as goal

pub returns-clause-all : goal.returns-clause-all
returns-clause-all c =
    let writes = ap (λ ps. map write_entry (map deref_at_cell ps)) c.deref.ensures.value ∙ ap (λ ps. map write_entry ps) c.in_ok-writes.ensures.all in
    let others = ap (λ ps. map deref ps) c.deref-2.ensures.value ∙ c.in_ok-others.ensures.all in
    three _ _ _ c.in_ok-list.list.items c.push_writes.new.list.items c.push_others.new.list.items c.in_ok-list.ensures.all
    (c.in_ok-push_writes.ensures ∙ ap (λ (es : List Entry). c.in_ok-list.list.items ++ es) writes)
    (c.in_ok-push_others.ensures ∙ ap (λ (es : List Entry). c.push_writes.new.list.items ++ es) others)

pub returns-clause-distinct : goal.returns-clause-distinct
returns-clause-distinct c =
    let t = contents_of c.args.self.now in
    subst (λ (es : List Entry). Distinct es) (sym (returns-clause-all c))
    (listed_distinct t c.requires.others c.in_ok-list.ensures.distinct c.in_ok-writes.ensures.distinct c.in_ok-others.ensures.rises)

use Rattle.std.proofs.Common.{◌∙◌, ap, List, Contains, subst, sym}
use Rattle.u_sets.specs.Rising.{Rises, IsListOf}
use Rattle.u_rule.specs.EntryOrder.{entry_cmp, write_of}
use Rattle.u_rule.specs.declared.parts.Written.{Written}
use Rattle.u_rule.specs.declared.entry.Entry.{Entry}
use Rattle.u_rule.specs.declared.entry.Entry.TheVariants as kinds
use Rattle.u_history.specs.Orders.{written_order}
use Rattle.u_history.specs.Outcomes.{lent}
use Rattle.u_history.proofs.Gathered.{along}
use Rattle.u_history.proofs.history.History.writes.Goals as goal

pub returns : goal.returns
returns c =
    along c.pairs_in.result (λ (es : List Entry) v. IsListOf written_order (λ (x : Written). Contains es (kinds.Write (write_of c.args.cell.now x.writer x.value))) v.items) (lent c.deref-2.result.now) c.args.self.now
    (ap lent c.deref-2.ensures.value ∙ c.in_ok-lent.ensures ∙ c.deref.ensures.value ∙ c.in_ok-entries.ensures.all) c.pairs_in.ensures

pub pairs_in-requires : goal.pairs_in-requires
pairs_in-requires c = subst (Rises entry_cmp) (sym (ap lent c.deref-2.ensures.value ∙ c.in_ok-lent.ensures ∙ c.deref.ensures.value ∙ c.in_ok-entries.ensures.all)) c.in_ok-entries.ensures.rises

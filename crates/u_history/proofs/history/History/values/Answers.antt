use Rattle.std.proofs.Common.{◌∙◌, ap, List, Contains, subst, sym}
use Rattle.u_sets.specs.Rising.{Rises, IsListOf}
use Rattle.u_rule.specs.EntryOrder.{entry_cmp}
use Rattle.u_value.specs.declared.value.Value.{Value}
use Rattle.u_rule.specs.Parts.{token}
use Rattle.u_rule.specs.declared.entry.Entry.{Entry}
use Rattle.u_rule.specs.declared.entry.Entry.TheVariants as kinds
use Rattle.u_history.specs.Orders.{value_order}
use Rattle.u_history.specs.Outcomes.{lent}
use Rattle.u_history.proofs.Gathered.{along}
use Rattle.u_history.proofs.history.History.values.Goals as goal

pub returns : goal.returns
returns c =
    along c.values_at.result (λ (es : List Entry) v. IsListOf value_order (λ (x : Value). Contains es (kinds.Token (token c.args.activity.now c.args.port x))) v.items) (lent c.deref-2.result.now) c.args.self.now
    (ap lent c.deref-2.ensures.value ∙ c.in_ok-lent.ensures ∙ c.deref.ensures.value ∙ c.in_ok-entries.ensures.all) c.values_at.ensures

pub values_at-requires : goal.values_at-requires
values_at-requires c = subst (Rises entry_cmp) (sym (ap lent c.deref-2.ensures.value ∙ c.in_ok-lent.ensures ∙ c.deref.ensures.value ∙ c.in_ok-entries.ensures.all)) c.in_ok-entries.ensures.rises

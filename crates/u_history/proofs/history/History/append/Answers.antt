use Rattle.std.proofs.Common.{◌≡◌, ◌∙◌, ◌++◌, ap, subst, List}
use Rattle.std.specs.Prelude.{OnOk}
use Rattle.u_rule.specs.declared.entry.Entry.{Entry}
use Rattle.u_history.specs.Outcomes.{lent}
use Rattle.u_history.specs.Text.{history_text}
use Rattle.u_history.proofs.history.History.append.Goals as goal

pub returns-clause-ok : goal.returns-clause-ok
returns-clause-ok c =
    subst (λ (es : List Entry). OnOk c.push_lines.result (c.push_lines.new.out.items ≡ c.args.out.now.items ++ history_text es))
    (ap lent c.deref-2.ensures.value ∙ c.in_ok-lent.ensures ∙ c.deref.ensures.value ∙ c.in_ok-entries.ensures.all) c.push_lines.ensures.ok

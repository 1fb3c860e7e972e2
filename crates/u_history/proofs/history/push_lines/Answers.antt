use Rattle.std.proofs.Common.{◌≤◌, ◌∙◌, ◌++◌, ap, arith, length, List, map}
use Rattle.std.proofs.lemmas.List.{take_all}
use Rattle.u_base.specs.Spaced.{ended}
use Rattle.u_rule.specs.EntryText.{entry_text}
use Rattle.u_rule.specs.declared.entry.Entry.{Entry}
use Rattle.u_history.specs.Outcomes.{lent}
use Rattle.u_history.specs.Text.{history_text}
use Rattle.u_history.proofs.Gathered.{lent_more, lent_end}
use Rattle.u_history.proofs.Lines.{text_more}
use Rattle.u_history.proofs.history.push_lines.Goals as goal

pub loop-entry-preserved : goal.loop-entry-preserved
loop-entry-preserved c =
    rw (lent_more c.args.entries.now c.loop-entry.entry-index c.entry-item.result c.loop-entry-test.true c.entry-item.is)
    (text_more _ c.entry-item.result.now c.args.out.now.items c.loop-entry.out.items c.push_line.new.out.items c.loop-entry.invariant c.in_ok-push_line.ensures.ok)

pub returns-clause-ok : goal.returns-clause-ok
unfolding history_text
returns-clause-ok c =
    let h : length c.args.entries.now ≤ c.loop-entry.entry-index = omega arith in
    c.loop-entry.invariant
    ∙ ap (λ (es : List Entry). c.args.out.now.items ++ ended (map entry_text es)) (take_all c.loop-entry.entry-index (lent c.args.entries.now) (lent_end c.args.entries.now c.loop-entry.entry-index h))

use Rattle.std.proofs.Common.{◌∙◌, ap, sym}
use Rattle.u_value.specs.declared.value.Value.{Value}
use Rattle.u_rule.specs.declared.entry.Entry.TheVariants as kinds
use Rattle.u_history.proofs.Gathered.{added}
use Rattle.u_history.proofs.outcome.add_answer.Goals as goal

pub returns-in_ok-place_in-clause-ok : goal.returns-in_ok-place_in-clause-ok
returns-in_ok-place_in-clause-ok c = added (λ (x : Value). kinds.Answer x) (λ a b e. cc) c.args.entry.now c.args.list.now.items c.place_in.new.list.items c.in_ok-copy.field-0 (c.in-Answer.is ∙ ap (λ (x : Value). kinds.Answer x) (sym c.in_ok-copy.ensures)) c.in_ok-place_in.ensures.ok

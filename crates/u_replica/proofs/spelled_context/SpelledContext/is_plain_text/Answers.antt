use Rattle.std.proofs.Common.{rules, ap, ◌∙◌}
use Rattle.u_rule.specs.FiringText.{values_text}
use Rattle.u_replica.proofs.SpelledTexts.{firing_there}
use Rattle.u_replica.proofs.spelled_context.SpelledContext.is_plain_text.Goals as goal

pub returns-in-Some-behind_name : goal.returns-in-Some-behind_name
returns-in-Some-behind_name c = λ h.
    firing_there c.args.firing.now c.args.line.now c.in-Some.name.now c.in-Some-behind_name.values.now (search rules) c.in-Some.ensures c.in-Some-behind_name.ensures (c.are_values.ensures h ∙ ap values_text c.as_slice.ensures.values)

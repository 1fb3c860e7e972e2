use Rattle.std.proofs.Common.{◌∙◌, ◌++◌, ap, sym}
use Rattle.u_name.specs.NameText.{context_text}
use Rattle.u_replica.proofs.SpelledTexts.{name_there}
use Rattle.u_replica.proofs.spelled_context.SpelledContext.behind_name.Goals as goal

pub returns : goal.returns
returns c = name_there c.args.name.now c.args.bytes.now c.in_ok-parts.parts.now c.in_ok-rest.rest.now (c.in_ok-parts.ensures ∙ ap (λ t. t ++ c.in_ok-parts.parts.now) (c.deref.ensures.value ∙ c.args.self.now.spelled ∙ ap context_text (sym c.requires))) c.in_ok-rest.ensures

use Rattle.std.proofs.Common.{Some, sym, ap, ◌∙◌}
use Rattle.u_name.specs.Context.{Tree}
use Rattle.u_name.specs.ContextHash.{same_context}
use Rattle.u_names.proofs.contexts.Contexts.is_at.Goals as goal

pub returns-in-Some : goal.returns-in-Some
returns-in-Some c same =
    sym c.in-Some.ensures ∙ ap (λ (t : Tree). Some t) (same_context c.in-Some.there.now c.args.context.now (sym c.eq.ensures ∙ same))

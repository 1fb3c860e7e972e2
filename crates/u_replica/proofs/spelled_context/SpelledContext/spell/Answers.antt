use Rattle.std.proofs.Common.{sym, ◌∙◌}
use Rattle.std.specs.Cmp.{Equal-is}
use Rattle.u_name.specs.ContextOrder.{context_cmp}
use Rattle.u_name.specs.ContextLaws.{context_cmp_ties}
use Rattle.u_replica.proofs.spelled_context.SpelledContext.spell.Goals as goal

pub returns-then-eq : goal.returns-then-eq
returns-then-eq c = context_cmp_ties c.args.self.now.context c.args.context.now ((Equal-is (context_cmp c.args.self.now.context c.args.context.now)).0 (sym c.eq.ensures ∙ c.if-eq.true))

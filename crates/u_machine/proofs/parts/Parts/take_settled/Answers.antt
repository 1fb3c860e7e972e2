use Rattle.std.proofs.Common.{sym, ◌∙◌}
use Rattle.u_machine.proofs.Settled.{settles_itself, not_both}
use Rattle.u_machine.proofs.Steps.{log_taken}
use Rattle.u_machine.proofs.Lists.{slice_get_Contains}
use Rattle.u_machine.proofs.parts.Parts.take_settled.Goals as goal

pub take_ready-requires-clause-ready : goal.take_ready-requires-clause-ready
take_ready-requires-clause-ready c = slice_get_Contains c.args.self.now.ready 0 c.args.firing.now (c.is_least.ensures.0 c.if-is_least.true)

pub returns-then-has_begun-clause-answer : goal.returns-then-has_begun-clause-answer
returns-then-has_begun-clause-answer c = (
  log_taken _ _ _ _ _ _ c.requires.kept.logged c.args.firing.now (c.has_begun.ensures.0 c.if-has_begun.true),
  settles_itself c.args.self.now c.requires.kept c.requires.settled,
)

pub returns-then-not-is_own-clause-answer : goal.returns-then-not-is_own-clause-answer
returns-then-not-is_own-clause-answer c = (sym c.is_own.ensures ∙ c.if-not-is_own.true, settles_itself c.args.self.now c.requires.kept c.requires.settled)

pub take_early-requires-clause-unapplied : goal.take_early-requires-clause-unapplied
take_early-requires-clause-unapplied c m = not_both c.has_begun.result (c.has_begun.ensures.1 m) c.if-has_begun.false

pub take_early-requires-clause-unready : goal.take_early-requires-clause-unready
take_early-requires-clause-unready c m = not_both c.contains.result (c.contains.ensures.1 m) c.if-contains.false

pub take_early-requires-clause-firing : goal.take_early-requires-clause-firing
take_early-requires-clause-firing c = sym c.is_own.ensures ∙ c.if-not-is_own.false

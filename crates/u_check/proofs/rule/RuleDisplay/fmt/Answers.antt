use Rattle.u_check.proofs.rule.RuleDisplay.fmt.Goals as goal

pub returns-clause-writes : goal.returns-clause-writes
returns-clause-writes g c = rw (← c.number.ensures) c.write.ensures.writes

use Rattle.u_history.proofs.tables.Tables.values_at.Goals as goal

pub returns-clause-all : goal.returns-clause-all
returns-clause-all c v = c.values_of.ensures.all c.args.activity.now c.number_for.ensures v

use Rattle.u_history.proofs.history.History.values_under.Goals as goal

pub returns-clause-all : goal.returns-clause-all
returns-clause-all c = rw (← c.self.view_is) c.values_under.ensures.all

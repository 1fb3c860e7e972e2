use Rattle.u_history.proofs.history.History.writes_to.Goals as goal

pub returns-clause-all : goal.returns-clause-all
returns-clause-all c = rw (← c.self.view_is) c.writes_to.ensures.all

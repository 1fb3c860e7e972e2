use Rattle.u_history.proofs.history.History.unordered_entries.Goals as goal

pub returns-clause-all : goal.returns-clause-all
returns-clause-all c = rw (← c.self.view_is) c.unordered_entries.ensures.all

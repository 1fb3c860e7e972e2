use Rattle.u_history.proofs.history.History.insert.Goals as goal

pub returns-clause-ok : goal.returns-clause-ok
returns-clause-ok c = rw (← c.self.view_is) c.insert.ensures.ok

pub returns-clause-new : goal.returns-clause-new
returns-clause-new c = rw (← c.self.view_is) c.insert.ensures.new

use Rattle.u_history.proofs.history.History.insert_copy.Goals as goal

pub returns-clause-ok : goal.returns-clause-ok
returns-clause-ok c = rw (← c.self.view_is) c.insert_copy.ensures.ok

pub returns-clause-new : goal.returns-clause-new
returns-clause-new c = rw (← c.self.view_is) c.insert_copy.ensures.new

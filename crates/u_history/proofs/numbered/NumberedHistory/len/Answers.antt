use Rattle.u_history.specs.Tables.{contents_of}
use Rattle.u_history.proofs.Tabled.{all_rise}
use Rattle.u_history.proofs.numbered.NumberedHistory.len.Goals as goal

pub returns-clause-rises : goal.returns-clause-rises
returns-clause-rises c = rw (← c.self.view_is) (all_rise (contents_of c.self.inside.tables))

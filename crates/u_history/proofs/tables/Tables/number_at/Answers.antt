use Rattle.u_history.proofs.Numbering.{renamed_same, renamed_tables}
use Rattle.u_history.proofs.tables.Tables.number_at.Goals as goal

pub returns-in_err-number-clause-same : goal.returns-in_err-number-clause-same
returns-in_err-number-clause-same c = renamed_same c.args.self.now c.requires c.number_beside.new.self c.in_err-number.ensures.grows c.in_err-number.ensures.distinct

pub returns-in_err-number-clause-tables : goal.returns-in_err-number-clause-tables
returns-in_err-number-clause-tables c = renamed_tables c.args.self.now c.requires c.number_beside.new.self c.in_err-number.ensures.grows c.in_err-number.ensures.distinct

pub returns-clause-same : goal.returns-clause-same
returns-clause-same c = renamed_same c.args.self.now c.requires c.number_beside.new.self c.in_ok-number.ensures.grows c.in_ok-number.ensures.distinct

pub returns-clause-tables : goal.returns-clause-tables
returns-clause-tables c = renamed_tables c.args.self.now c.requires c.number_beside.new.self c.in_ok-number.ensures.grows c.in_ok-number.ensures.distinct

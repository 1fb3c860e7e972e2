use Rattle.std.proofs.Common.{rules}
use Rattle.u_fleet.proofs.Living.{run_gains, run_last, run_fails}
use Rattle.u_fleet.proofs.rounds.run_last.Goals as goal

pub returns-in-Ok-clause-gains : goal.returns-in-Ok-clause-gains
returns-in-Ok-clause-gains c = run_gains _ _ _ _ c.run-ran.ensures.answer

pub returns-in-Ok-clause-ran : goal.returns-in-Ok-clause-ran
returns-in-Ok-clause-ran c = run_last _ _ _ _ c.holds-2.ensures.is.machine (c.in-Ok.ensures).answer

pub returns-in-Err-Full-clause-gains : goal.returns-in-Err-Full-clause-gains
returns-in-Err-Full-clause-gains c = run_gains _ _ _ _ c.run-ran.ensures.answer

pub returns-in-Err-Full-clause-fails : goal.returns-in-Err-Full-clause-fails
returns-in-Err-Full-clause-fails c = run_fails _ _ _ _ c.holds-2.ensures.is.machine c.run-ran.ensures.answer (search rules)

pub returns-in-Err-NoMemory-clause-gains : goal.returns-in-Err-NoMemory-clause-gains
returns-in-Err-NoMemory-clause-gains c = run_gains _ _ _ _ c.run-ran.ensures.answer

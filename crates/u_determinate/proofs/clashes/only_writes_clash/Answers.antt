use Rattle.u_determinate.proofs.Theorem.{determinate_job, strict_job}
use Rattle.u_determinate.proofs.Outside.{quiet_is_whole, replies_alone_write}
use Rattle.u_rule.proofs.Outcome.{ends_whole, has_one_outcome}
use Rattle.u_determinate.proofs.clashes.only_writes_clash.Goals as goal

pub returns-clause-determinate : goal.returns-clause-determinate
returns-clause-determinate c = determinate_job c.args.job.now c.program-program.ensures.checked

pub returns-clause-strict : goal.returns-clause-strict
returns-clause-strict c = strict_job c.args.job.now c.program-program.ensures.checked

pub returns-clause-outcome : goal.returns-clause-outcome
returns-clause-outcome c = has_one_outcome c.args.job.now

pub returns-clause-ends : goal.returns-clause-ends
returns-clause-ends c = ends_whole c.args.job.now

pub returns-clause-whole : goal.returns-clause-whole
returns-clause-whole c = quiet_is_whole c.args.job.now

pub returns-clause-asked : goal.returns-clause-asked
returns-clause-asked c = replies_alone_write c.args.job.now

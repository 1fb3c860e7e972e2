use Rattle.std.proofs.Common.{rules}
use Rattle.u_value.specs.declared.value.Value.TheVariants as values
use Rattle.u_rule.proofs.Follow.{start_fits}
use Rattle.u_rule.proofs.rule.start.Goals as goal

pub returns-clause-fitting : goal.returns-clause-fitting
returns-clause-fitting c =
    start_fits c.args.job.now.program.blocks c.program-program.ensures.checked _ (values.Int c.args.job.now.argument) (search rules) (search rules)

use Rattle.std.proofs.Common.{rules}
use Rattle.u_rule.specs.Rule.{is_firing_of, gives_of}
use Rattle.u_rule.proofs.Follow.{ends_call, all_given_fit, firing_fits}
use Rattle.u_rule.proofs.rule.given.Goals as goal

pub given_at-requires-clause-ends : goal.given_at-requires-clause-ends
given_at-requires-clause-ends c =
    let f = firing_fits c.args.job.now c.args.firing.now c.in-Some.statement.now (search rules) (search rules) in
    let w = ends_call c.args.job.now.program.blocks c.program-program.ensures.checked c.in-Some.statement.now c.args.firing.now.activity (search rules) f in
    search rules

pub returns-clause-fitting : goal.returns-clause-fitting
unfolding is_firing_of gives_of
returns-clause-fitting c =
    let f = firing_fits c.args.job.now c.args.firing.now c.in-Some.statement.now (search rules) (search rules) in
    all_given_fit c.args.job.now.program.blocks c.program-program.ensures.checked (gives_of c.args.job.now c.args.firing.now) c.args.job.now.program.version c.in-Some.statement.now c.args.firing.now.activity c.args.firing.now.values c.args.firing.now.write (search rules) (search rules) (search rules) f

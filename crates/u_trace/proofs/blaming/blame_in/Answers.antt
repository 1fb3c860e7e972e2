use Rattle.std.proofs.Common.{subst}
use Rattle.u_trace.specs.Blames.{AreLeastTokens}
use Rattle.u_rule.specs.Rule.{own_of}
use Rattle.u_trace.proofs.GiverLaws.{are_firings}
use Rattle.u_trace.proofs.BlameLaws.{one_held, other_held, found_at}
use Rattle.u_trace.proofs.blaming.blame_in.Goals as goal

pub two_least-requires : goal.two_least-requires
two_least-requires c = record { port = c.requires.port; firings = are_firings (own_of c.args.job.now) c.args.log.now c.requires.derivation }

pub blame_stories-requires-clause-one : goal.blame_stories-requires-clause-one
blame_stories-requires-clause-one c =
    one_held c.args.job.now c.args.log.now c.args.activity.now c.args.port (c.in-Some.one, c.in-Some.other)
    (subst (AreLeastTokens c.args.job.now c.args.log.now c.args.activity.now c.args.port) c.in-Some.is c.in_ok-one.ensures)

pub blame_stories-requires-clause-other : goal.blame_stories-requires-clause-other
blame_stories-requires-clause-other c =
    other_held c.args.job.now c.args.log.now c.args.activity.now c.args.port (c.in-Some.one, c.in-Some.other)
    (subst (AreLeastTokens c.args.job.now c.args.log.now c.args.activity.now c.args.port) c.in-Some.is c.in_ok-one.ensures)

pub returns-in_ok-found-in-Some : goal.returns-in_ok-found-in-Some
returns-in_ok-found-in-Some c =
    found_at c.args.job.now c.args.log.now c.args.activity.now c.args.port (c.in-Some.one, c.in-Some.other) c.in_ok-found-in-Some.found
    (subst (AreLeastTokens c.args.job.now c.args.log.now c.args.activity.now c.args.port) c.in-Some.is c.in_ok-one.ensures)
    c.in_ok-found-in-Some.ensures

use Rattle.std.proofs.Common.{rules}
use Rattle.std.specs.Prelude.{Contains}
use Rattle.u_match.proofs.Answering.{answered_nowhere}
use Rattle.u_match.proofs.matcher.Waking.firings_of_token.Goals as goal

pub returns-in_default-clause-exact : goal.returns-in_default-clause-exact
returns-in_default-clause-exact c = rw (c.requires.empty) (answered_nowhere (Contains c.args.self.now.history.now.entries) c.args.token.now c.args.self.now.job.now (search rules))

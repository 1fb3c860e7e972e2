use Rattle.u_match.proofs.Left.{answered}
use Rattle.u_match.proofs.matcher.Matcher.enter_whole.Goals as goal

pub returns : goal.returns
returns c = answered c.args.job.now c.args.self.now c.args.entry.now c.let_in-came.result c.let_in-came.new.found.items c.keep_woken.new.firings.items c.let_in-came.new.self c.let_in-came.ensures c.keep_woken.ensures

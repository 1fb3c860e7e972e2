use Rattle.u_rule.specs.declared.entry.Entry.TheVariants as entries
use Rattle.u_match.proofs.Left.{answered}
use Rattle.u_match.proofs.matcher.Matcher.enter_token.Goals as goal

pub returns : goal.returns
returns c = answered c.args.job.now c.args.self.now (entries.Token c.args.token.now) c.let_token_in-came.result c.let_token_in-came.new.found.items c.keep_woken.new.firings.items c.let_token_in-came.new.self c.let_token_in-came.ensures c.keep_woken.ensures

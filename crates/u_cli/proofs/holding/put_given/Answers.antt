use Rattle.std.proofs.Common.{List, ap, ◌∙◌}
use Rattle.u_cli.proofs.holding.put_given.Goals as goal

pub returns : goal.returns
returns c = rw (c.deref.ensures.value ∙ c.in_ok-given.ensures.all) at c.put_all.ensures

use Rattle.std.proofs.Common.{rules}
use Rattle.u_explain.proofs.LineLaws.{follow_end}
use Rattle.u_explain.proofs.fronts.follow_left.Goals as goal

pub returns-in-End : goal.returns-in-End
returns-in-End c = follow_end c.args.follows c.args.bytes.now (search rules)

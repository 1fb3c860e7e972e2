use Rattle.std.proofs.Common.{rules}
use Rattle.u_explain.proofs.BehindLaws.{behind_first, first_too}
use Rattle.u_explain.proofs.text_place.TextPlace.behind.Goals as goal

pub returns-in-FirstBlock : goal.returns-in-FirstBlock
returns-in-FirstBlock c = λ before p b. behind_first c.in-FirstBlock.version before c.args.line.now (first_too before c.args.self c.in-FirstBlock.version (search rules) p) b

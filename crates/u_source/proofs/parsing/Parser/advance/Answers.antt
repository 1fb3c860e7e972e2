use Rattle.std.proofs.Common.{arith, rules}
use Rattle.u_source.proofs.Leading.{takes_inside, follows}
use Rattle.u_source.proofs.parsing.Parser.advance.Goals as goal

pub overflow_add-self : goal.overflow_add-self
overflow_add-self c = omega (arith, c.requires.inside, takes_inside c.args.tokens.now c.args.self.now.number c.args.top c.in-Ok.step (search rules))

pub returns : goal.returns
returns c = follows c.args.tokens.now c.args.top c.args.self.now _ c.in-Ok.step (search rules) (search rules) c.in_ok-push_made.ensures (search rules) c.requires.inside

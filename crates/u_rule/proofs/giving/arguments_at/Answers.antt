use Rattle.std.proofs.Common.{◌≡◌, ◌+◌, [], arith, get_or, rules}
use Rattle.u_rule.specs.Parts.{token}
use Rattle.u_rule.specs.Rule.{beside}
use Rattle.u_rule.proofs.TokenLaws.{arguments_pushed}
use Rattle.u_rule.proofs.giving.arguments_at.Goals as goal

pub loop-argument-preserved : goal.loop-argument-preserved
loop-argument-preserved c =
    let a = c.args.first.now in
    let vs = c.args.arguments.now in
    let i = c.loop-argument.argument-index in
    let v = c.argument-item.result in
    let t : c.new-in-loop-argument.result ≡ token (beside a (i + 1)) 1 (get_or vs i v) = search rules in (
      arguments_pushed [] c.loop-argument.entries.items c.push.new.self.items a vs i v c.new-in-loop-argument.result c.loop-argument-test.true c.loop-argument.invariant.0 t (c.in_ok-push.ensures.items),
      omega (arith, c.loop-argument.invariant.1),
    )

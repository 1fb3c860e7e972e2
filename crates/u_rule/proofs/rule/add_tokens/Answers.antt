use Rattle.std.proofs.Common.{◌≡◌, ◌+◌, arith, get_or, rules}
use Rattle.u_rule.specs.Parts.{token}
use Rattle.u_rule.proofs.TokenLaws.{tokens_pushed}
use Rattle.u_rule.proofs.rule.add_tokens.Goals as goal

pub loop-value-preserved : goal.loop-value-preserved
loop-value-preserved c =
    let a = c.args.activity.now in
    let vs = c.args.values.now in
    let i = c.loop-value.value-index in
    let v = c.value-item.result in
    let t : c.new-token.result ≡ token a (i + 1) (get_or vs i v) = search rules in (
      tokens_pushed c.args.tokens.now.items c.loop-value.tokens.items c.push.new.self.items a vs i v c.new-token.result c.loop-value-test.true c.loop-value.invariant.0 t (c.in_ok-push.ensures.items),
      omega (arith, c.loop-value.invariant.1),
    )

use Rattle.std.proofs.Common.{◌≡◌, ◌≤◌, ◌∷◌, drop, length, ◌∙◌, subst, arith, rules}
use Rattle.u_scope.specs.KindVerdicts.{IsGoneOn}
use Rattle.u_scope.proofs.WalkLaws.{seen_more, least_next, dropped_more}
use Rattle.u_scope.proofs.checking.first_clash.Goals as goal

pub loop-node-preserved : goal.loop-node-preserved
loop-node-preserved c =
    let first : c.loop-node.rest.now ≡ c.in-Some.node.now ∷ c.in-Some.others.now = search rules in
    let there : drop c.loop-node.number c.args.nodes.now ≡ c.in-Some.node.now ∷ c.in-Some.others.now = c.loop-node.invariant.rest ∙ first in
    let count : c.loop-node.number ≤ length c.args.nodes.now = grind (arith, c.loop-node.invariant.count) in
    let gone = subst (λ m. IsGoneOn c.args.tokens.now c.in-Some.node.now m c.loop-node.walk c.advance.new.self) c.meaning_at.ensures c.in_ok-advance.ensures in
    record {
      rest = dropped_more c.loop-node.number c.args.nodes.now c.in-Some.others.now c.in-Some.node.now there;
      count = grind (arith, c.loop-node.invariant.count, first);
      seen = seen_more c.args.tokens.now c.args.meanings.now c.loop-node.number c.args.nodes.now c.in-Some.others.now c.in-Some.node.now c.loop-node.walk c.advance.new.self count there gone c.loop-node.invariant.seen;
      least = least_next c.args.tokens.now c.args.meanings.now c.loop-node.number c.args.nodes.now c.in-Some.others.now c.in-Some.node.now c.loop-node.walk c.advance.new.self there gone c.loop-node.invariant.seen c.loop-node.invariant.least;
    }

use Rattle.std.proofs.Common.{arith}
use Rattle.u_scope.proofs.VerdictLaws.{walked_more, meant_more, scopes_next}
use Rattle.u_scope.proofs.checked.go_through.Goals as goal

pub loop-number-preserved : goal.loop-number-preserved
loop-number-preserved c = record {
  inside = omega arith;
  scopes = scopes_next c.args.tokens.now c.args.procedures.now c.args.nodes.now c.loop-number.number c.loop-number.walk c.advance.new.self c.in_ok-advance.ensures;
  least = walked_more c.args.tokens.now c.args.procedures.now c.args.nodes.now c.loop-number.number c.loop-number.walk c.advance.new.self c.in_ok-advance.ensures c.loop-number.invariant.least;
  meanings = meant_more c.args.tokens.now c.args.procedures.now c.args.nodes.now c.loop-number.number c.loop-number.walk c.advance.new.self c.in_ok-advance.ensures c.loop-number.invariant.meanings;
}

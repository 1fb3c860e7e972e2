use Rattle.std.proofs.Common.{rules}
use Rattle.u_scope.proofs.VerdictLaws.{gone_past}
use Rattle.u_scope.proofs.checked.Walk.advance.Goals as goal

pub returns : goal.returns
returns c = gone_past c.args.tokens.now c.args.procedures.now c.args.nodes.now _ _ c.in-Some.behind.now c.args.number c.in-Some.node.now c.deref.result.now _ _ c.breach_between-value.result c.args.self.now _ c.split_at.ensures.front c.split_at.ensures.back (search rules) c.deref.ensures.value c.requires.scopes c.requires.inside c.judged-meaning.ensures c.breach_between-value.ensures (search rules) (search rules) (search rules)

use Rattle.std.proofs.Common.{suc, rules}
use Rattle.u_source.specs.Derivations.{start}
use Rattle.u_source.proofs.Leading.{popped_less, popped_leads, stuck_behind}
use Rattle.u_source.proofs.parsing.parse.Goals as goal

pub loop-top-smaller : goal.loop-top-smaller
loop-top-smaller c = popped_less c.args.tokens.now c.in-Some.top _ c.advance.new.self c.loop-top.parser.stack.items c.in-Some.ensures.items c.in_ok-advance.ensures

pub loop-top-preserved : goal.loop-top-preserved
loop-top-preserved c = record {
  inside = c.in_ok-advance.ensures.inside;
  steps = suc c.loop-top.invariant.steps;
  leads = popped_leads c.args.tokens.now c.in-Some.top _ c.advance.new.self c.loop-top.parser.stack.items c.loop-top.invariant.steps (start c.args.tokens.now) c.in-Some.ensures.items c.loop-top.invariant.leads c.in_ok-advance.ensures;
}

pub returns-then-parser-tokens : goal.returns-then-parser-tokens
returns-then-parser-tokens c = stuck_behind c.args.tokens.now c.loop-top.parser.stack.items c.loop-top.parser.number c.loop-top.invariant.steps c.loop-top.parser.nodes.items (search rules) c.if-parser-tokens.true c.loop-top.invariant.leads

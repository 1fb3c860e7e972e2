use Rattle.std.proofs.Common.{◌∙◌, sym, ap, subst, arith, length}
use Rattle.u_compile.specs.Drawings.{AreValues}
use Rattle.u_compile.proofs.LeadLaws.{leads_then, value_step}
use Rattle.u_compile.proofs.drawing.lead_values.Goals as goal

pub returns-in_err-lead_value-clause-some : goal.returns-in_err-lead_value-clause-some
returns-in_err-lead_value-clause-some c = leads_then c.args.graph.now c.loop-value.graph c.lead_value.new.graph c.loop-value.invariant.led c.lead_value.ensures.some

pub loop-value-preserved : goal.loop-value-preserved
loop-value-preserved c = record {
  led = leads_then c.args.graph.now c.loop-value.graph c.lead_value.new.graph c.loop-value.invariant.led c.lead_value.ensures.some;
  links = value_step c.args.graph.now c.loop-value.graph c.lead_value.new.graph c.args.values.now c.in-Some.value.now c.in-Some.others.now c.loop-value.rest.now c.loop-value.port c.loop-value.invariant.led c.in_ok-lead_value.ensures.ok c.in-Some.ensures.cases.0 ∙ c.loop-value.invariant.links;
  there = λ h. c.loop-value.invariant.there (subst (AreValues c.args.values.now) (sym c.in-Some.ensures.cases.0) (c.in_ok-lead_value.ensures.value, h));
  room = omega (arith, c.loop-value.invariant.room, ap length c.in-Some.ensures.cases.0);
}

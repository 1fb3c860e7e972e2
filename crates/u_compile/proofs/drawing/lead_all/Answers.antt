use Rattle.std.proofs.Common.{refl, ◌∙◌}
use Rattle.u_compile.proofs.LeadLaws.{leads_self, leads_one, leads_then, lead_step}
use Rattle.u_compile.proofs.drawing.lead_all.Goals as goal

pub loop-output-init : goal.loop-output-init
loop-output-init c = record { led = leads_self c.args.graph.now; links = refl }

pub loop-output-preserved : goal.loop-output-preserved
loop-output-preserved c = record {
  led = leads_then c.args.graph.now c.loop-output.graph c.lead.new.self c.loop-output.invariant.led (leads_one c.loop-output.graph c.lead.new.self c.in-Some.output.now c.args.port c.in_ok-lead.ensures);
  links = lead_step c.args.graph.now c.loop-output.graph c.lead.new.self c.in-Some.output.now c.in-Some.others.now c.loop-output.rest.now c.args.port c.loop-output.invariant.led c.in_ok-lead.ensures c.in-Some.ensures.cases.0 ∙ c.loop-output.invariant.links;
}

use Rattle.std.proofs.Common.{subst}
use Rattle.u_fleet.specs.Headline.{IsReport}
use Rattle.u_fleet.specs.declared.plan.FleetPlan.{FleetPlan}
use Rattle.u_cli.specs.Fleets.{goes}
use Rattle.u_cli.proofs.AllDone.{tells_fleet}
use Rattle.u_cli.proofs.fleets.fleet.Goals as goal

pub returns-in-Ok-report_of : goal.returns-in-Ok-report_of
returns-in-Ok-report_of g c =
    let r = c.in-Ok.report in
    tells_fleet c.args.job.now c.args.workers c.args.rounds c.requires.workers.0 r.machine r.published.items r.ends.items
    (subst (λ (p : FleetPlan). IsReport goes c.args.job.now p r.machine r.published.items r.ends.items) c.plan_of-plan.ensures.is c.in-Ok.ensures.report)
    c.in-Ok-report_of.told.text.items c.in-Ok-report_of.told.status c.holds.ensures.is c.in-Ok-report_of.ensures

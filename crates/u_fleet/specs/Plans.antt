-- The ranges of a fleet's plan, which are this project's profile.
use Rattle.std.specs.Prelude.{◌≤◌}
use Rattle.u_name.specs.Context.{IsBetween}
use Rattle.u_fleet.specs.declared.plan.FleetPlan.{FleetPlan}

pub record IsPlan (plan : FleetPlan) : Type 0 where
  pub workers : IsBetween 1 plan.workers 8
  pub rounds : plan.rounds ≤ 1000
  pub budget : IsBetween 1 plan.budget 1000000
  pub limit : IsBetween 1 plan.limit 1000000

-- Firings that some run of a job could make.
use Rattle.u_base.specs.Firing.{Enabled, Whole}
use Rattle.u_check.specs.Jobs.{JobParts}
use Rattle.u_rule.specs.Rule.{own_of}
use Rattle.u_rule.specs.declared.firing.Firing.{Firing}

-- f is a firing of the job, and each entry that it needs is in the job's whole history
abbrev pub IsSound : JobParts → Firing → Type 0
IsSound job f = Enabled (own_of job) (Whole (own_of job)) f

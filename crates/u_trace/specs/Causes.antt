-- Which firings give an entry over a history.
use Rattle.std.specs.Prelude.{◌≡◌, List, Contains}
use Rattle.u_check.specs.Jobs.{JobParts}
use Rattle.u_rule.specs.Rule.{own_of}
use Rattle.u_rule.specs.declared.entry.Entry.{Entry}
use Rattle.u_rule.specs.declared.firing.Firing.{Firing}
use Rattle.u_base.specs.Firing.{Enabled}

-- f is a firing of the job whose needs all lie in the history, and it gives e
abbrev pub IsCause : JobParts → List Entry → Entry → Firing → Type 0
IsCause job history e f = Enabled (own_of job) (Contains history) f × Contains ((own_of job).gives f) e

-- f is g, and gives e
abbrev pub IsKept : JobParts → Entry → Firing → Firing → Type 0
IsKept job e g f = (g ≡ f) × Contains ((own_of job).gives f) e

-- f is one of the firings, and gives e
abbrev pub IsGiverIn : JobParts → List Firing → Entry → Firing → Type 0
IsGiverIn job log e f = Contains log f × Contains ((own_of job).gives f) e

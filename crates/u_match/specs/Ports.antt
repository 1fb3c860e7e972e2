-- How many ports an activity has.
use Rattle.std.specs.Prelude.{ℕ, Option, Some, None}
use Rattle.u_name.specs.Name.{Activity}
use Rattle.u_program.specs.Parts.{StatementParts}
use Rattle.u_check.specs.Kinds.{ports_of}
use Rattle.u_check.specs.Jobs.{JobParts}
use Rattle.u_rule.specs.Fits.{statement_of}

-- of no statement none
abbrev pub ports_in : Option StatementParts → ℕ
ports_in None = 0
ports_in (Some s) = ports_of s.kind

-- those of the statement that the activity executes
abbrev pub ports_at : JobParts → Activity → ℕ
ports_at job a = ports_in (statement_of job.program.blocks a.block a.statement)

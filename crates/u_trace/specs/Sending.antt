-- Which entries a firing that gives an entry can need.
use Rattle.std.specs.Prelude.{ℕ, Bool, true, ◌||◌, ◌==◌, List, Option, Some, None}
use Rattle.std.specs.List.{list_any}
use Rattle.u_name.specs.Name.{Activity}
use Rattle.u_program.specs.Parts.{StatementParts}
use Rattle.u_program.specs.declared.program.Kind.{Kind}
use Rattle.u_program.specs.declared.program.Destination.{Destination}
use Rattle.u_check.specs.Jobs.{JobParts}
use Rattle.u_check.specs.Kinds.{is_apply, is_end, is_store, is_leave}
use Rattle.u_rule.specs.Fits.{statement_of}
use Rattle.u_rule.specs.declared.entry.Entry.{Entry}
use Rattle.u_rule.specs.declared.entry.Entry.TheVariants as entries

-- one of the destinations is of that statement
abbrev pub leads_to : List Destination → ℕ → Bool
leads_to ds n = list_any (λ (d : Destination). d.statement == n) ds

-- a statement of that kind can give what does not go to its destinations
abbrev pub sends_far : Kind → Bool
sends_far k = is_apply k || (is_end k || (is_store k || is_leave k))

-- a firing of the statement can give the entry
abbrev pub may_send : StatementParts → Entry → Bool
may_send s (entries.Token t) = sends_far s.kind || (leads_to s.to t.activity.statement || leads_to s.otherwise t.activity.statement)
may_send s (entries.Answer v) = sends_far s.kind
may_send s e = true

abbrev pub may_send_at : Option StatementParts → Entry → Bool
may_send_at None e = true
may_send_at (Some s) e = may_send s e

-- a firing of the activity can
abbrev pub may_give : JobParts → Activity → Entry → Bool
may_give job a e = may_send_at (statement_of job.program.blocks a.block a.statement) e

-- a firing that gives e can need x
abbrev pub matters : JobParts → Entry → Entry → Bool
matters job e (entries.Token t) = may_give job t.activity e
matters job e x = true

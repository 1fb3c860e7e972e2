-- How many parameters a procedure has: one more than its block has `param` statements.
use Rattle.std.specs.Prelude.{ℕ, ◌+◌, if◌then◌else◌, Option, List}
use Rattle.u_program.specs.Parts.{StatementParts, BlockParts}
use Rattle.u_check.specs.Rules.{statement_at, is_param_in}

-- 1 where the statement is a `param`
abbrev pub one_param : Option StatementParts → ℕ
one_param o = if is_param_in o then 1 else 0

-- `begin` takes the first parameter; each `param` takes another, and stands among statements 2 to 4
abbrev pub parameters_in : List StatementParts → ℕ
parameters_in ss = 1 + (one_param (statement_at ss 2) + (one_param (statement_at ss 3) + one_param (statement_at ss 4)))

abbrev pub parameters_of : BlockParts → ℕ
parameters_of b = parameters_in b.statements

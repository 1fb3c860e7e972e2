use Rattle.std.proofs.Common.{rules, ◌≡◌, ◌+◌, length, inl, inr}
use Rattle.u_program.proofs.Steps.{number_wrong, statement_over, statement_taken}
use Rattle.u_program.proofs.part.PartialProgram.with_statement.Goals as goal
use Rattle.u_program.proofs.part.PartialProgram.with_statement.Goals.{then-destinations-gt16-via-then-destinations-gt16, then-destinations-gt16-via-else-destinations-gt16+then-otherwise-gt16}

pub returns-then-number-statements : goal.returns-then-number-statements
returns-then-number-statements c = number_wrong c.args.version c.args.self.done.items c.args.self.last c.args.number c.args.statement c.requires.part c.requires.line (search rules)

pub returns-then-number-gt999 : goal.returns-then-number-gt999
returns-then-number-gt999 c =
    let n : c.args.number ≡ length c.args.self.last.statements + 1 = search rules in
    statement_over c.args.version c.args.self.done.items c.args.self.last c.args.number c.args.statement c.requires.part c.requires.line n (inl (search rules))

pub returns-then-destinations-gt16 : goal.returns-then-destinations-gt16
returns-then-destinations-gt16 c =
    let n : c.args.number ≡ length c.args.self.last.statements + 1 = search rules in
    statement_over c.args.version c.args.self.done.items c.args.self.last c.args.number c.args.statement c.requires.part c.requires.line n
    (elim c.then-destinations-gt16.branch [ then-destinations-gt16-via-then-destinations-gt16 w ↦ inr (inl (search rules)) | then-destinations-gt16-via-else-destinations-gt16+then-otherwise-gt16 w ↦ inr (inr (search rules)) ])

pub returns : goal.returns
returns c =
    let n : c.args.number ≡ length c.args.self.last.statements + 1 = search rules in
    rw c.in_ok-last.ensures (statement_taken c.args.version c.args.self.done.items c.args.self.last c.args.number c.args.statement c.requires.part c.requires.line n (search rules) (search rules) (search rules))

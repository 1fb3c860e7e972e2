use Rattle.std.proofs.Common.{sym, List, subst}
use Rattle.std.specs.List.{AllByRecursion}
use Rattle.u_program.specs.Parts.{StatementParts}
use Rattle.u_program.specs.Limits.{IsStatement, the_limits}
use Rattle.u_rule.proofs.Places.{within_limits}
use Rattle.u_rule.proofs.fits.statement_of.Goals as goal

pub returns-clause-limits : goal.returns-clause-limits
returns-clause-limits c =
    let each = subst (λ (ss : List StatementParts). AllByRecursion (IsStatement the_limits) ss) (sym c.statements.ensures) c.in_ok-block.ensures.limits.each in
    within_limits c.statements.result.now c.args.number c.in_ok-statement.statement.now each (sym c.in_ok-statement.ensures)

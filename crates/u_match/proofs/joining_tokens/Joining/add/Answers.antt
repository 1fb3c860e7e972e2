use Rattle.std.proofs.Common.{rules, ◌≡◌, sym, subst, Some}
use Rattle.u_name.specs.Name.{Activity}
use Rattle.u_rule.specs.Fits.{statement_of}
use Rattle.u_match.specs.Finite.{HasSome}
use Rattle.u_match.specs.Joins.{IsSomeSame, IsKept}
use Rattle.u_match.proofs.Steps.{told_made, with_told}
use Rattle.u_match.proofs.Finite.{too_many}
use Rattle.u_match.proofs.joining_tokens.Joining.add.Goals as goal

pub returns-in_err-keep_told-clause-many : goal.returns-in_err-keep_told-clause-many
returns-in_err-keep_told-clause-many c =
    let job = c.args.self.now.job.now in
    let s = c.args.self.now.statement.now in
    let stands = subst (λ (a : Activity). statement_of job.program.blocks a.block a.statement ≡ Some s) (sym c.requires.own) c.requires.known.0 in
    too_many c.from_residual-in_err-keep_told.result (HasSome (IsSomeSame job c.in_ok-told.told)) (HasSome (IsKept job c.args.firing))
    (λ (f, k). (f, told_made job c.args.firing s stands c.in_ok-told.told c.in_ok-told.ensures.told f k)) (search rules)

pub returns-clause-ok : goal.returns-clause-ok
returns-clause-ok c =
    let job = c.args.self.now.job.now in
    let s = c.args.self.now.statement.now in
    let stands = subst (λ (a : Activity). statement_of job.program.blocks a.block a.statement ≡ Some s) (sym c.requires.own) c.requires.known.0 in
    with_told job c.args.firing s stands c.in_ok-told.told c.args.found.now.items c.keep.new.found.items c.keep_told.new.found.items c.in_ok-told.ensures.told c.in_ok-keep.ensures.ok c.in_ok-keep_told.ensures.ok

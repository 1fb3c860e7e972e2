use Rattle.std.proofs.Common.{◌≡◌, ◌∙◌, sym, rules, Some}
use Rattle.u_rule.specs.Fits.{statement_of}
use Rattle.u_rule.proofs.Told.{told_found, told_only}
use Rattle.u_plain.proofs.enabling.told.Goals as goal

pub returns : goal.returns
returns c f own =
    let job = c.args.job.now in
    let made = c.args.made.now in
    let s = c.in-Some.statement.now in
    let n : statement_of job.program.blocks made.activity.block made.activity.statement ≡ Some s = search rules in
    ((λ e. told_only job f made s n own (sym c.in_ok-reply.ensures ∙ e)), (λ p. c.in_ok-reply.ensures ∙ told_found job f made s n p.0 p.1))

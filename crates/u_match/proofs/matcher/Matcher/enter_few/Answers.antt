use Rattle.std.proofs.Common.{◌∙◌, ap, sym, subst}
use Rattle.u_rule.specs.Parts.{TokenParts}
use Rattle.u_rule.specs.Fits.{IsFitting}
use Rattle.u_rule.specs.declared.entry.Entry.{Entry}
use Rattle.u_rule.specs.declared.entry.Entry.TheVariants as entries
use Rattle.u_match.specs.Waking.{EnterAnswer}
use Rattle.u_match.proofs.matcher.Matcher.enter_few.Goals as goal

pub enter_token-requires : goal.enter_token-requires
enter_token-requires c =
    let is = ap (λ (t : TokenParts). entries.Token t) c.of.ensures ∙ sym c.in-Token.is in
    subst (λ (e : Entry). IsFitting c.args.job.now.program.blocks e) (sym is) c.requires

pub returns-in-Token : goal.returns-in-Token
returns-in-Token c =
    let is = ap (λ (t : TokenParts). entries.Token t) c.of.ensures ∙ sym c.in-Token.is in
    subst (λ (e : Entry). EnterAnswer c.args.job.now c.args.self.now e c.enter_token.result c.enter_token.new.woken.items c.enter_token.new.self) is c.enter_token.ensures

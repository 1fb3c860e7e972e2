use Rattle.std.proofs.Common.{◌↔◌, ◌∙◌, ap, sym, subst}
use Rattle.std.specs.Prelude.{OnOk, IfOk, IsTrue, Contains}
use Rattle.u_rule.specs.Parts.{TokenParts}
use Rattle.u_rule.specs.declared.entry.Entry.{Entry}
use Rattle.u_rule.specs.declared.entry.Entry.TheVariants as entries
use Rattle.u_sets.specs.Members.{IsWith}
use Rattle.u_match.specs.Numbers.{IsNumberOfEntry}
use Rattle.u_match.proofs.matcher.put.Goals as goal

pub put_at-requires : goal.put_at-requires
put_at-requires c =
    let is = ap (λ (t : TokenParts). entries.Token t) c.of.ensures ∙ sym c.in-Token.is in
    subst (λ (e : Entry). IsNumberOfEntry c.args.history.now.names e c.args.number) (sym is) c.requires

pub returns-in-Token-clause-ok : goal.returns-in-Token-clause-ok
returns-in-Token-clause-ok c =
    let is = ap (λ (t : TokenParts). entries.Token t) c.of.ensures ∙ sym c.in-Token.is in
    subst (λ (e : Entry). OnOk c.put_at.result (IsWith c.args.history.now.entries e c.put_at.new.self.entries)) is c.put_at.ensures.ok

pub returns-in-Token-clause-new : goal.returns-in-Token-clause-new
returns-in-Token-clause-new c =
    let is = ap (λ (t : TokenParts). entries.Token t) c.of.ensures ∙ sym c.in-Token.is in
    subst (λ (e : Entry). IfOk c.put_at.result (λ b. IsTrue b ↔ (Contains c.args.history.now.entries e → ⊥))) is c.put_at.ensures.new

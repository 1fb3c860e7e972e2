use Rattle.std.proofs.Common.{◌↔◌, ◌∙◌, ap, sym, subst}
use Rattle.std.specs.Prelude.{OnOk, IfOk, IsTrue}
use Rattle.u_rule.specs.Parts.{TokenParts}
use Rattle.u_rule.specs.declared.entry.Entry.{Entry}
use Rattle.u_rule.specs.declared.entry.Entry.TheVariants as kinds
use Rattle.u_history.specs.Tables.{Holds, HoldsMore}
use Rattle.u_history.proofs.tables.Tables.insert_copy.Goals as goal

pub returns-in-Token-clause-ok : goal.returns-in-Token-clause-ok
returns-in-Token-clause-ok c =
    let is = ap (λ (t : TokenParts). kinds.Token t) c.of.ensures ∙ sym c.in-Token.is in
    subst (λ (e : Entry). OnOk c.insert_token_copy.result (HoldsMore c.args.self.now e c.insert_token_copy.new.self)) is c.insert_token_copy.ensures.ok

pub returns-in-Token-clause-new : goal.returns-in-Token-clause-new
returns-in-Token-clause-new c =
    let is = ap (λ (t : TokenParts). kinds.Token t) c.of.ensures ∙ sym c.in-Token.is in
    subst (λ (e : Entry). IfOk c.insert_token_copy.result (λ b. IsTrue b ↔ (Holds c.args.self.now e → ⊥))) is c.insert_token_copy.ensures.new

pub returns-clause-ok : goal.returns-clause-ok
returns-clause-ok c = rw (← c.in_ok-copy.ensures) c.in_ok-added.ensures.ok

pub returns-clause-new : goal.returns-clause-new
returns-clause-new c = rw (← c.in_ok-copy.ensures) c.in_ok-added.ensures.new

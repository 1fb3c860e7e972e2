use Rattle.std.proofs.Common.{ap, sym, ◌∙◌, subst}
use Rattle.std.specs.Prelude.{OnOk}
use Rattle.u_rule.specs.declared.entry.Entry.{Entry}
use Rattle.u_rule.specs.Parts.{TokenParts}
use Rattle.u_rule.specs.declared.entry.Entry.TheVariants as entries
use Rattle.u_sets.specs.Members.{AreThose, HasOr}
use Rattle.u_match.specs.Numbers.{NumbersEntry}
use Rattle.u_match.specs.Waking.{IsWokenBy}
use Rattle.u_match.proofs.WriteWaking.{wakes_none}
use Rattle.u_match.proofs.matcher.Waking.firings.Goals as goal

pub firings_of_token-requires-clause-number : goal.firings_of_token-requires-clause-number
firings_of_token-requires-clause-number c =
    let is = ap (λ (t : TokenParts). entries.Token t) c.of.ensures ∙ sym c.in-Token.is in
    subst (λ (e : Entry). NumbersEntry c.args.self.now.history.now.names e c.args.self.now.number) (sym is) c.requires.number

pub returns-in-Token-clause-exact : goal.returns-in-Token-clause-exact
returns-in-Token-clause-exact c =
    let is = ap (λ (t : TokenParts). entries.Token t) c.of.ensures ∙ sym c.in-Token.is in
    subst (λ (e : Entry). OnOk c.firings_of_token.result (AreThose (IsWokenBy c.args.self.now.job.now e (HasOr c.args.self.now.history.now.entries e)) c.firings_of_token.new.found.items)) is c.firings_of_token.ensures.exact

pub returns-in-Fault-clause-exact : goal.returns-in-Fault-clause-exact
returns-in-Fault-clause-exact c =
    wakes_none c.args.self.now.job.now (HasOr c.args.self.now.history.now.entries c.args.self.now.entry.now) c.args.self.now.entry.now (λ t e. let h = sym c.in-Fault.is ∙ e in absurd (cc)) (λ w e. let h = sym c.in-Fault.is ∙ e in absurd (cc)) c.args.found.now.items c.requires.empty

pub returns-in-Answer-clause-exact : goal.returns-in-Answer-clause-exact
returns-in-Answer-clause-exact c =
    wakes_none c.args.self.now.job.now (HasOr c.args.self.now.history.now.entries c.args.self.now.entry.now) c.args.self.now.entry.now (λ t e. let h = sym c.in-Answer.is ∙ e in absurd (cc)) (λ w e. let h = sym c.in-Answer.is ∙ e in absurd (cc)) c.args.found.now.items c.requires.empty

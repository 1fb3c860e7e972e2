use Rattle.std.proofs.Common.{◌↔◌, IsTrue, sym, ◌∙◌, subst}
use Rattle.std.specs.Prelude.{Contains}
use Rattle.std.proofs.lemmas.Bool.{false≢true}
use Rattle.u_base.specs.Firing.{Within}
use Rattle.u_rule.specs.Parts.{ValueList}
use Rattle.u_rule.specs.Rule.{tokens_from}
use Rattle.u_match.proofs.Finding.{enabled_if}
use Rattle.u_match.proofs.enabling.has_all_of.Goals as goal

pub returns-then-not-there : goal.returns-then-not-there
returns-then-not-there c =
    let h = subst (λ (vs : ValueList). IsTrue c.in_ok-there.there ↔ Within (Contains c.args.history.now) (tokens_from c.args.firing.now.activity 1 vs)) c.as_slice.ensures.values c.in_ok-there.ensures in
    ((λ t. absurd (cc)), λ en. absurd (false≢true (sym c.if-not-there.true ∙ h.1 ((enabled_if c.args.job.now c.args.firing.now (Contains c.args.history.now) en.0).0 en).0)))

pub returns : goal.returns
returns c =
    let s = enabled_if c.args.job.now c.args.firing.now (Contains c.args.history.now) (sym c.is_own.ensures ∙ c.if-not-is_own.false) in
    let h = subst (λ (vs : ValueList). IsTrue c.in_ok-there.there ↔ Within (Contains c.args.history.now) (tokens_from c.args.firing.now.activity 1 vs)) c.as_slice.ensures.values c.in_ok-there.ensures in
    ((λ t. s.1 (h.0 c.if-not-there.false, c.in_ok-read.ensures.0 t)), λ en. c.in_ok-read.ensures.1 (s.0 en).1)

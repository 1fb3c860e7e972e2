use Rattle.std.proofs.Common.{rules, ◌∙◌, inl, inr, refl, sym, subst, List}
use Rattle.std.specs.Prelude.{Contains}
use Rattle.u_name.specs.Name.{Activity}
use Rattle.u_rule.specs.Fits.{IsExecutable}
use Rattle.u_rule.specs.declared.entry.Entry.{Entry}
use Rattle.u_rule.specs.declared.entry.Entry.TheVariants as entries
use Rattle.u_sets.specs.Columns.{IsNumberOf}
use Rattle.u_sets.specs.Members.{IsWith}
use Rattle.u_match.proofs.Executing.{executes, nowhere}
use Rattle.u_match.proofs.Wakes.{woken_over}
use Rattle.u_match.proofs.matcher.Matcher.let_token_in.Goals as goal

pub unreachable-requires : goal.unreachable-requires
unreachable-requires c = nowhere c.args.job.now.program.blocks c.args.token.now c.requires.fits (search rules)

pub woken_by-requires-clause-known : goal.woken_by-requires-clause-known
woken_by-requires-clause-known c =
    let p = c.args.job.now.program.blocks in
    (search rules, λ k. subst (λ (a : Activity). IsExecutable p a) (sym c.activity-3.ensures) (executes p c.args.token.now c.requires.fits))

pub woken_by-requires-clause-number : goal.woken_by-requires-clause-number
woken_by-requires-clause-number c = inl (subst (λ (a : Activity). IsNumberOf c.number_at.new.self.names a c.in_ok-number.number) c.activity-2.ensures c.in_ok-number.ensures.number)

pub returns-then-not-added : goal.returns-then-not-added
returns-then-not-added c =
    let f = c.if-not-added.true in
    let is = c.in_ok-number.ensures.same ∙ c.numbered_mut-history.ensures.entries ∙ c.self.view_is in
    let still = c.in_ok-added.ensures.still (λ t. absurd (cc)) ∙ is in
    (subst (λ (es : List Entry). Contains es (entries.Token c.args.token.now)) still ((c.in_ok-added.ensures.ok (entries.Token c.args.token.now)).1 (inr refl)), still)

pub returns : goal.returns
returns c =
    let t = c.if-not-added.false in
    let is = c.in_ok-number.ensures.same ∙ c.numbered_mut-history.ensures.entries ∙ c.self.view_is in (
      subst (λ (es : List Entry). Contains es (entries.Token c.args.token.now) → ⊥) is (c.in_ok-added.ensures.new.0 (cc)),
      subst (λ (es : List Entry). IsWith es (entries.Token c.args.token.now) c.admit_token.new.history.entries) is c.in_ok-added.ensures.ok,
      woken_over c.args.job.now (entries.Token c.args.token.now) c.number_at.new.self.entries c.admit_token.new.history.entries c.woken_by.new.found.items c.in_ok-added.ensures.ok c.in-Ok.ensures.exact,
      c.in-Ok.ensures.rises,
    )

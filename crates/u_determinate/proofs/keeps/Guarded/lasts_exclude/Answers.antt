use Rattle.std.proofs.Common.{ℕ, arith, refl, sym, ◌∙◌}
use Rattle.std.proofs.lemmas.Bool.{false≢true}
use Rattle.u_determinate.specs.Determinate.{Exclude}
use Rattle.u_determinate.specs.Meetings.{IsLastOf}
use Rattle.u_determinate.proofs.Links.{number_within}
use Rattle.u_determinate.proofs.Opposed.{below_next}
use Rattle.u_determinate.proofs.keeps.Guarded.lasts_exclude.Goals as goal
use Rattle.u_determinate.proofs.keeps.Guarded.lasts_exclude.Goals.{else-is_last_of-via-then-is_last_of+else-not-statements_exclude, else-is_last_of-via-else-is_last_of}

pub loop-other-preserved : goal.loop-other-preserved
loop-other-preserved c =
    let ss = c.args.self.now.flow.statements.now in
    below_next (λ (n : ℕ). IsLastOf ss c.args.region n → Exclude ss c.args.number n) c.loop-other.other c.loop-other.invariant
    (λ l. elim c.else-is_last_of.branch [
      | else-is_last_of-via-then-is_last_of+else-not-statements_exclude w ↦ w.statements_exclude.ensures.0 w.if-not-statements_exclude.false
      | else-is_last_of-via-else-is_last_of w ↦ absurd (false≢true (sym w.if-is_last_of.false ∙ c.is_last_of.ensures.1 l))
    ])

pub returns : goal.returns
returns c =
    ((λ t n l. c.loop-other.invariant n (let w = number_within c.args.self.now.flow.statements.now n l.0.it l.0.stands in omega (arith, w.1, c.loop-other-test.false)) l), λ f. refl)

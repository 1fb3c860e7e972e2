use Rattle.std.proofs.Common.{ℕ, arith, refl, sym, ◌∙◌, subst, Bool, length}
use Rattle.std.proofs.lemmas.Bool.{false≢true}
use Rattle.std.proofs.lemmas.Option.{slice_get_read}
use Rattle.u_determinate.specs.Guards.{HasGuard}
use Rattle.u_determinate.specs.Meetings.{Opposed}
use Rattle.u_determinate.proofs.Opposed.{past_guard, none_excludes, below_next}
use Rattle.u_determinate.proofs.keeps.Guarded.statements_exclude.Goals as goal

pub loop-guards-preserved : goal.loop-guards-preserved
loop-guards-preserved c =
    let ss = c.args.self.now.flow.statements.now in
    let i = c.loop-guards.guards-index in
    let g = c.guards-item.result in
    let m = c.requires.all.each i g (slice_get_read c.args.self.now.guards.now _ i g refl c.loop-guards-test.true c.guards-item.is) in
    below_next (λ (n : ℕ). Opposed ss n c.args.one c.args.other → ⊥) i c.loop-guards.invariant
    (λ o. false≢true (sym c.if-have_opposed.false ∙ c.have_opposed.ensures.1 (subst (λ (n : ℕ). Opposed ss n c.args.one c.args.other) (sym m.control) o)))

pub returns : goal.returns
returns c =
    let ss = c.args.self.now.flow.statements.now in
    ((λ t. absurd (false≢true t)), λ e. absurd (none_excludes ℕ (λ (i : ℕ) (v : Bool) (x : ℕ). HasGuard ss i v x) (length ss) (λ i l v x. past_guard ss i l v x) c.args.one c.args.other (λ i l. c.loop-guards.invariant i (omega (arith, l, c.requires.all.count, c.loop-guards-test.false))) e))

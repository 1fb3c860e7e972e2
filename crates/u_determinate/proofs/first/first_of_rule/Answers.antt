use Rattle.std.proofs.Common.{◌≡◌, ℕ, refl, arith, Some, Option, subst}
use Rattle.std.specs.Prelude.{slice_get}
use Rattle.std.proofs.lemmas.Option.{slice_get_read}
use Rattle.u_determinate.specs.Breaches.{Asks, IsFirstFailing}
use Rattle.u_determinate.proofs.Breaches.{one_more, kept_all, first_here}
use Rattle.u_determinate.proofs.first.first_of_rule.Goals as goal

pub loop-i-init : goal.loop-i-init
loop-i-init c = λ j it h. absurd (omega (arith, h))

pub loop-i-preserved : goal.loop-i-preserved
loop-i-preserved c =
    let p = c.args.blocks.now in
    let b = c.index-blocks-i.result in
    let at : slice_get p c.loop-i.i ≡ Some b = slice_get_read p _ c.loop-i.i b refl (omega arith) c.index-blocks-i.is in
    one_more p c.args.rule c.loop-i.i b at (subst (λ (o : Option ℕ). IsFirstFailing (Asks c.args.rule b) o) c.in_default.is c.in_ok-at.ensures) c.loop-i.invariant

pub returns : goal.returns
returns c = kept_all c.args.blocks.now c.args.rule c.loop-i.i (omega arith) c.loop-i.invariant

pub returns-in-Some : goal.returns-in-Some
returns-in-Some c =
    let p = c.args.blocks.now in
    let b = c.index-blocks-i.result in
    let at : slice_get p c.loop-i.i ≡ Some b = slice_get_read p _ c.loop-i.i b refl (omega arith) c.index-blocks-i.is in
    first_here p c.args.rule c.loop-i.i b c.in-Some.at at c.loop-i.invariant (subst (λ (o : Option ℕ). IsFirstFailing (Asks c.args.rule b) o) c.in-Some.is c.in_ok-at.ensures)

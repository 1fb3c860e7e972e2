use lib.IntN.{ℤ}
use mir.Syntax.{w64}
use mir.Val.{SFits}
use Rattle.std.proofs.Common.{rules, ◌≡◌, pos, neg_ℤ, Option, subst, ap, ◌∙◌}
use Rattle.std.specs.Prelude.{IfSome}
use Rattle.std.proofs.lemmas.Int.{to_z-of_z}
use Rattle.u_program.specs.declared.program.Constant.TheVariants.{Int}
use Rattle.u_source.specs.declared.form.Form.{Form}
use Rattle.u_compile.specs.Trees.{HasForm}
use Rattle.u_compile.specs.Operands.{number, negative}
use Rattle.u_compile.proofs.lowering.Lowering.constant.Goals as goal

pub returns-in_ok-value-in-Number-clause-some : goal.returns-in_ok-value-in-Number-clause-some
returns-in_ok-value-in-Number-clause-some c =
    let t = c.args.self.now.tree.now in
    let n = c.in_ok-number_of-in-Number.field-0 in
    let v = c.in_ok-value-in-Number.value in
    let fits : SFits w64 v = search rules in
    let is : v ≡ pos n = subst (λ (o : Option ℤ). IfSome o (λ (i : ℤ). i ≡ pos n)) c.in_ok-value-in-Number.ensures c.positive.ensures in
    number n (subst (λ (f : Form). HasForm t c.args.number f) c.in-Number.is c.in_ok-form.ensures) c.in_ok-number_of-in-Number.ensures (ap Int (to_z-of_z w64 v fits ∙ is))

pub returns-in_ok-value-in-Negative-clause-some : goal.returns-in_ok-value-in-Negative-clause-some
returns-in_ok-value-in-Negative-clause-some c =
    let t = c.args.self.now.tree.now in
    let n = c.in_ok-number_of-in-Negative.field-0 in
    let v = c.in_ok-value-in-Negative.value in
    let fits : SFits w64 v = search rules in
    let is : v ≡ neg_ℤ (pos n) = subst (λ (o : Option ℤ). IfSome o (λ (i : ℤ). i ≡ neg_ℤ (pos n))) c.in_ok-value-in-Negative.ensures c.negative.ensures in
    negative n (subst (λ (f : Form). HasForm t c.args.number f) c.in-Negative.is c.in_ok-form.ensures) c.in_ok-number_of-in-Negative.ensures (ap Int (to_z-of_z w64 v fits ∙ is))

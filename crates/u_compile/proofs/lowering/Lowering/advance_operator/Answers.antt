use Rattle.std.proofs.Common.{sym, subst}
use Rattle.std.proofs.lemmas.Result.{on_ok_weaker}
use Rattle.u_source.specs.declared.form.Form.{Form}
use Rattle.u_compile.specs.Operands.{Operates, lowering}
use Rattle.u_compile.proofs.lowering.Lowering.advance_operator.Goals as goal

pub returns-in_ok-binary-in-Unequal : goal.returns-in_ok-binary-in-Unequal
returns-in_ok-binary-in-Unequal c =
    let l = lowering c.args.self.now in
    let m = lowering c.unary.new.self in
    on_ok_weaker c.unary.result (λ h. subst (λ (f : Form). Operates f l m) (sym c.in-Unequal.is) (record { between = lowering c.binary-in-Unequal.new.self; equal = c.in_ok-binary-in-Unequal.ensures; no = h })) c.unary.ensures

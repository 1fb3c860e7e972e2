use Rattle.std.proofs.lemmas.Result.{IfOk-weaker}
use Rattle.u_compile.proofs.drawing.Drawing.leave.Goals as goal

pub returns : goal.returns
returns c =
    IfOk-weaker c.add_unary-2.result _ _ (λ v h. record { between = c.add_unary.new.self; given = c.in_ok-last.last; last = c.in_ok-last.ensures.gives; leave = h }) c.add_unary-2.ensures.gives

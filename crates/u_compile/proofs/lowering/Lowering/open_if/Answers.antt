use Rattle.std.proofs.Common.{List, ap}
use Rattle.u_compile.proofs.TreeLaws.{not_found}
use Rattle.u_compile.specs.declared.lowering.Frame.{Frame}
use Rattle.u_compile.specs.Operands.{lowering}
use Rattle.u_compile.specs.Sides.{OpensIf, with_frames}
use Rattle.u_compile.proofs.lowering.Lowering.open_if.Goals as goal

pub returns-then-is_select : goal.returns-then-is_select
returns-then-is_select c =
    let taken = lowering c.pop_value.new.self in
    OpensIf.choice (c.in_ok-is_select.ensures.0 c.if-is_select.true) taken c.in_ok-value.value c.in_ok-value.ensures (ap (λ (fs : List Frame). with_frames taken fs) c.in_ok-push.ensures.items)

pub returns : goal.returns
returns c = OpensIf.sides (not_found c.in_ok-is_select.is_select c.in_ok-is_select.ensures.1 c.if-is_select.false) (lowering c.pop_value.new.self) c.in_ok-value.value c.in_ok-value.ensures c.in_ok-open_sides.ensures

use Rattle.std.proofs.Common.{List, ap}
use Rattle.u_compile.specs.declared.lowering.Frame.{Frame}
use Rattle.u_compile.specs.Operands.{lowering}
use Rattle.u_compile.specs.Sides.{in_scope, with_frames}
use Rattle.u_compile.proofs.SideLaws.{popped_is, opens_other}
use Rattle.u_compile.proofs.lowering.Lowering.open_other.Goals as goal

pub returns : goal.returns
returns c =
    let l = lowering c.args.self.now in
    let ended = lowering c.pop_frame.new.self in
    let q = lowering c.add_side.new.self in
    let side = c.in_ok-side.side in
    opens_other l ended q (in_scope (with_frames q c.push.new.self.items) side) c.in-Sides.sides side (popped_is l ended _ _ c.in_ok-sides.ensures c.in-Sides.is) c.in_ok-side.ensures (ap (λ (fs : List Frame). in_scope (with_frames q fs) side) c.in_ok-push.ensures.items)

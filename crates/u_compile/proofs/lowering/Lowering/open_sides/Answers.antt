use Rattle.std.proofs.Common.{List, ap}
use Rattle.u_compile.specs.declared.lowering.Frame.{Frame}
use Rattle.u_compile.specs.Operands.{lowering}
use Rattle.u_compile.specs.Sides.{in_scope, with_frames}
use Rattle.u_compile.proofs.SideLaws.{opens_sides}
use Rattle.u_compile.proofs.lowering.Lowering.open_sides.Goals as goal

pub returns : goal.returns
returns c =
    let q = lowering c.add_side.new.self in
    let side = c.in_ok-side.side in
    opens_sides (lowering c.args.self.now) (lowering c.note.new.self) q (in_scope (with_frames q c.push.new.self.items) side) c.control.new.self _ c.args.whole _ side c.in_ok-control.ensures c.in_ok-note.ensures c.in_ok-side.ensures (ap (λ (fs : List Frame). in_scope (with_frames q fs) side) c.in_ok-push.ensures.items)

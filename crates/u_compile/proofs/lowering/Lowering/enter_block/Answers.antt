use Rattle.std.proofs.Common.{List, ap}
use Rattle.u_compile.specs.declared.lowering.Frame.{Frame}
use Rattle.u_compile.specs.Drawings.{DrawingParts}
use Rattle.u_compile.specs.Operands.{LoweringParts, lowering}
use Rattle.u_compile.specs.Sides.{in_scope, with_frames}
use Rattle.u_compile.proofs.SideLaws.{enters_block}
use Rattle.u_compile.proofs.lowering.Lowering.enter_block.Goals as goal

pub returns : goal.returns
returns c =
    let n = lowering c.note.new.self in
    let p : LoweringParts = record n { drawing = c.set_test.new.self } in
    let q = lowering c.add_side.new.self in
    enters_block (lowering c.args.self.now) n p q _ c.args.turns c.control.new.self c.args.value c.in_ok-control.control c.in_ok-block.block c.in_ok-control.ensures c.in_ok-note.ensures (ap (λ (d : DrawingParts). record n { drawing = d }) c.in_ok-set_test.ensures) c.in_ok-block.ensures (ap (λ (fs : List Frame). in_scope (with_frames q fs) c.in_ok-block.block) c.in_ok-push.ensures.items)

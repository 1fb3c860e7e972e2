use Rattle.std.proofs.Common.{List, ap}
use Rattle.u_compile.specs.declared.lowering.Frame.{Frame}
use Rattle.u_compile.specs.Operands.{lowering}
use Rattle.u_compile.specs.Sides.{with_frames}
use Rattle.u_compile.proofs.SideLaws.{popped_is}
use Rattle.u_compile.proofs.LoopLaws.{opens_loop}
use Rattle.u_compile.proofs.lowering.Lowering.open_loop.Goals as goal

pub returns : goal.returns
returns c =
    let ended = lowering c.pop_frame.new.self in
    let tested = lowering c.test_limit.new.self in
    opens_loop c.args.number c.in_ok-whole.whole c.in-Begun.waiting c.in_ok-clock.clock c.in_ok-turn.turn c.in-Begun.limit (lowering c.args.self.now) ended (lowering c.bind_limit.new.self) (lowering c.add_turns.new.self) (lowering c.carry_variables.new.self) tested _ (popped_is (lowering c.args.self.now) ended _ _ c.in_ok-waiting.ensures c.in-Begun.is) c.in_ok-whole.ensures c.in_ok-clock.ensures c.in_ok-bind_limit.ensures c.in_ok-turn.ensures c.in_ok-carry_variables.ensures c.in_ok-test_limit.ensures (ap (λ (fs : List Frame). with_frames tested fs) c.in_ok-push.ensures.items)

use Rattle.std.proofs.Common.{arith}
use Rattle.std.specs.Prelude.{Contains}
use Rattle.u_trace.specs.Waiting.{HasToken}
use Rattle.u_trace.proofs.PortLaws.{filled_none, filled_more, filled_all}
use Rattle.u_trace.proofs.filling.filled.Goals as goal

pub loop-number-init : goal.loop-number-init
loop-number-init c = filled_none c.none-ports.result (HasToken (Contains c.args.history.now) c.args.activity.now) c.none-ports.ensures

pub loop-number-preserved : goal.loop-number-preserved
loop-number-preserved c =
    filled_more c.loop-number.ports (HasToken (Contains c.args.history.now) c.args.activity.now) c.in_ok-ports.ports c.loop-number.number (omega (arith, c.loop-number.auto.number)) c.loop-number.invariant c.in_ok-ports.ensures

pub returns : goal.returns
returns c =
    filled_all c.loop-number.ports (HasToken (Contains c.args.history.now) c.args.activity.now) c.loop-number.number (omega (arith, c.loop-number-test.false, c.loop-number.auto.number-end)) c.loop-number.invariant

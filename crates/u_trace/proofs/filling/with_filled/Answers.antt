use Rattle.std.specs.Prelude.{Contains}
use Rattle.u_trace.specs.Waiting.{HasToken}
use Rattle.u_trace.proofs.PortLaws.{put_in, left_out}
use Rattle.u_trace.proofs.filling.with_filled.Goals as goal

pub returns-then-there : goal.returns-then-there
returns-then-there c = put_in c.args.ports (HasToken (Contains c.args.history.now) c.args.activity.now) c.with.result c.args.number (c.in_ok-there.ensures.0 c.if-there.true) c.with.ensures

pub returns : goal.returns
returns c =
    left_out c.args.ports (HasToken (Contains c.args.history.now) c.args.activity.now) c.args.number (λ t. let h = c.in_ok-there.ensures.1 t in let n = c.if-there.false in cc)

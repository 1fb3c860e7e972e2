use Rattle.std.specs.Prelude.{Contains}
use Rattle.u_trace.proofs.Stored.{some_token}
use Rattle.u_trace.proofs.filling.has_token.Goals as goal

pub returns : goal.returns
returns c =
    some_token (Contains c.args.history.now) c.args.activity.now c.in_ok-activity.activity c.args.number c.values_at.result.now c.is_empty.result c.is_empty.ensures c.in_ok-activity.ensures c.values_at.ensures.all

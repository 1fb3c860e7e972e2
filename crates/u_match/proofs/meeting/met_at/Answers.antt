use Rattle.std.specs.Prelude.{Contains}
use Rattle.std.proofs.Common.{◌∙◌, refl}
use Rattle.u_match.proofs.MetValues.{met_elsewhere}
use Rattle.u_match.proofs.meeting.met_at.Goals as goal

pub returns : goal.returns
returns c =
    met_elsewhere (Contains c.args.history.now.entries) c.args.token.now c.args.token.now.activity c.args.port refl (λ e. c.if-port.false (c.port.ensures.port ∙ e)) c.values_of.result.now (c.values_of.ensures.all c.args.token.now.activity c.requires)

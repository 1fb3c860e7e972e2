use Rattle.u_rule.proofs.SentTokens.{sent_token}
use Rattle.u_rule.proofs.held.token_at.Goals as goal

pub returns : goal.returns
returns c = sent_token c.args.near.now c.args.value.now c.args.to.now c.args.place _ _ _ c.requires.there c.beside-activity.ensures c.new.ensures

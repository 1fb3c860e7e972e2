use Rattle.std.proofs.Common.{sym, ◌∙◌, ap, arith, inr, refl, List, [], ◌∷◌, ◌++◌, ◌-◌, get_or}
use Rattle.u_delta.specs.declared.message.Ask.{Ask}
use Rattle.u_delta.specs.declared.message.Message.{Message}
use Rattle.u_delta.specs.declared.message.Message.TheVariants as messages
use Rattle.u_world.specs.Inside.{world_of}
use Rattle.u_world.specs.WorldState.{world, Has, At}
use Rattle.u_world.proofs.Places.{at_read}
use Rattle.u_world.proofs.inside.Inside.ask.Goals as goal

pub ask-ask-requires : goal.ask-ask-requires
ask-ask-requires c =
    let w = world_of c.args.self.now in
    let r = c.index.result.now in
    let has : Has w c.args.asker = c.if-not-has.ensures.0 refl in
    let there : Has w c.args.asked = c.if-not-has-2.ensures.0 refl in
    let at : At w.replicas c.args.asker r = at_read w.replicas c.args.asker r r has (c.index.ensures ∙ ap (λ i. get_or w.replicas (i - 1) r) c.from.ensures) in
    let n = (c.requires.members c.args.asker r at).number in
    let count = c.requires.count in
    ((there.0, omega (arith, there.1, count.1)), λ e. c.if-asker-asked.false (sym (e ∙ n)))

pub returns : goal.returns
returns c =
    let w = world_of c.args.self.now in
    let r = c.index.result.now in
    let has : Has w c.args.asker = c.if-not-has.ensures.0 refl in
    let there : Has w c.args.asked = c.if-not-has-2.ensures.0 refl in
    let at : At w.replicas c.args.asker r = at_read w.replicas c.args.asker r r has (c.index.ensures ∙ ap (λ i. get_or w.replicas (i - 1) r) c.from.ensures) in
    let sent = c.in_ok-push.ensures.items ∙ ap (λ (a : Ask). w.messages ++ (messages.Ask a ∷ [])) c.ask-ask.ensures in
    inr ((has, there, c.if-asker-asked.false), (r, at, ap (λ (ms : List Message). world w.job w.limit w.replicas ms w.saves) sent))

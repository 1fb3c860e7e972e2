use Rattle.std.proofs.Common.{◌≡◌, drop, [], ◌++◌, ◌∙◌, ap}
use Rattle.std.proofs.lemmas.Result.{MatchResult-weaker}
use Rattle.u_outlet.proofs.Growing.{grows, fold_joined}
use Rattle.u_outlet.specs.Fronts.{joined}
use Rattle.u_outlet.proofs.publishing.show.Goals as goal

pub publish_as-requires : goal.publish_as-requires
publish_as-requires g c next is =
    let now = c.args.writer.desk.shown.value in
    let batches = drop c.args.writer.behind c.args.writer.log.items in
    grows _ _ now next (joined batches, is ∙ fold_joined now batches)

pub returns-clause-ok : goal.returns-clause-ok
returns-clause-ok g c =
    let w = c.args.writer in
    let now = w.desk.shown.value in
    let batches = drop w.behind w.log.items in
    let r = c.publish_as.result in
    MatchResult-weaker r.1
    {P' = λ _. (r.0.desk.shown.value ≡ now ++ joined batches) × (joined (drop r.0.behind r.0.log.items) ≡ [])}
    {Q' = λ _. Unit {0}}
    c.publish_as.ensures.values (λ _ p. (p.0 ∙ fold_joined now batches, ap joined p.1)) (λ _ _. tt)

pub returns-clause-err : goal.returns-clause-err
returns-clause-err g c =
    let w = c.args.writer in
    let now = w.desk.shown.value in
    let batches = drop w.behind w.log.items in
    let r = c.publish_as.result in
    MatchResult-weaker r.1
    {P' = λ _. Unit {0}}
    {Q' = λ _. (r.0.desk.shown.value ≡ now) × (joined (drop r.0.behind r.0.log.items) ≡ joined batches)}
    c.publish_as.ensures.values (λ _ _. tt) (λ _ p. (p.0, ap joined p.1))

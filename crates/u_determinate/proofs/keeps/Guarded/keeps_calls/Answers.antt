use Rattle.u_determinate.proofs.Links.{number_within}
use Rattle.u_determinate.proofs.keeps.Guarded.keeps_calls.Goals as goal

pub has_one_call-requires-clause-within : goal.has_one_call-requires-clause-within
has_one_call-requires-clause-within c =
    let x = c.is_back.ensures.0 c.if-not-is_back.false in
    (number_within c.args.self.now.flow.statements.now c.args.number x.it x.stands).1

pub returns-else-not-is_back : goal.returns-else-not-is_back
returns-else-not-is_back c =
    ((λ t e. c.has_one_call.ensures.0 t), λ f. c.has_one_call.ensures.1 (f (c.is_back.ensures.0 c.if-not-is_back.false)))

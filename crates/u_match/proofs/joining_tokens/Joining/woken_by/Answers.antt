use Rattle.u_match.proofs.joining_tokens.Joining.woken_by.Goals as goal

pub returns-clause-exact : goal.returns-clause-exact
returns-clause-exact c f =
    let still = c.put_in_order.ensures.same f in
    let all = c.in_ok-gathered.ensures.exact f in
    ((λ m. all.0 (still.0 m)), λ k. still.1 (all.1 k))

use Rattle.std.proofs.Common.{◌≡◌, inl, inr, rules}
use Rattle.u_plain.proofs.Growing.{first_fits}
use Rattle.u_plain.proofs.enabling.add_firings.Goals as goal

pub returns : goal.returns
returns c f =
    let p : c.in-Token.token.port ≡ 1 = search rules in
    let k = first_fits c.args.job.now c.args.held.now c.args.entry.now c.in-Token.token c.in_ok-made.made c.in-Token.is p c.in_ok-made.ensures f in (
      (λ m. elim ((c.in_ok-grow.ensures f).0 m) [ inl a ↦ inl a | inr e ↦ inr (k.0 e) ]),
      (λ s. elim s [ inl a ↦ (c.in_ok-grow.ensures f).1 (inl a) | inr e ↦ (c.in_ok-grow.ensures f).1 (inr (k.1 e)) ]),
    )

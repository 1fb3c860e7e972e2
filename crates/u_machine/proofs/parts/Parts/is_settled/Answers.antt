use Rattle.std.proofs.Common.{arith, ◌≡◌, length, refl}
use Rattle.u_machine.proofs.Settled.{settled_there, settled_back}
use Rattle.u_machine.proofs.parts.Parts.is_settled.Goals as goal

pub returns-then-self-len-clause-settled : goal.returns-then-self-len-clause-settled
returns-then-self-len-clause-settled c =
    ((λ t. absurd (cc)), λ s. let e = settled_back c.args.self.now c.requires s in let n = c.len.ensures in let l = c.if-self-len.true in absurd (omega (arith, e, l)))

pub returns-clause-settled : goal.returns-clause-settled
returns-clause-settled c =
    let n = c.len.ensures in
    let p = c.requires.logged.place in
    let l = c.if-self-len.false in
    let e : c.args.self.now.applied_count ≡ length c.args.self.now.log.items = omega (arith, l) in
    ((λ t. settled_there c.args.self.now c.requires e), λ s. refl)

pub returns-clause-applied_count : goal.returns-clause-applied_count
returns-clause-applied_count c =
    let n = c.len.ensures in
    let p = c.requires.logged.place in
    let l = c.if-self-len.false in
    ((λ t. omega (arith, l)), λ s. refl)

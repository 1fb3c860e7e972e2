use Rattle.std.proofs.Common.{◌≡◌, ◌≤◌, ◌-◌, ap, length, arith}
use Rattle.u_machine.specs.Invariant.{parked_of}
use Rattle.u_machine.proofs.Flight.{as_they_wait, few_parked}
use Rattle.u_machine.proofs.Settled.{no_woken_parked}
use Rattle.u_machine.proofs.parts.Parts.is_parked.Goals as goal
use Rattle.u_machine.proofs.parts.Parts.is_parked.Goals.{Else-self}

-- the parked firings are those of the set
they_wait : (c : Else-self) → parked_of c.args.self.now ≡ c.args.self.now.parked
they_wait c = as_they_wait _ c.args.self.now.applied_count c.args.self.now.log.items c.args.self.now.parked c.if-self.false

pub returns-then-self-clause-parked : goal.returns-then-self-clause-parked
returns-then-self-clause-parked c =
    let few = few_parked c.args.self.now c.if-self.true in
    ((λ t. absurd (cc)), λ m. absurd (no_woken_parked c.args.self.now c.requires.kept c.args.firing.now c.requires.woken few m))

pub returns-then-len-self-clause-parked : goal.returns-then-len-self-clause-parked
returns-then-len-self-clause-parked c =
    let parked = c.len.ensures.len in
    let log = c.len-2.ensures in
    let w = ap length (they_wait (goal.at.returns-then-len-self-clause-parked c).Else-self) in
    let few : length (parked_of c.args.self.now) ≤ length c.args.self.now.log.items - c.args.self.now.applied_count = omega (arith, parked, log, w, c.if-len-self.true) in
    ((λ t. absurd (cc)), λ m. absurd (no_woken_parked c.args.self.now c.requires.kept c.args.firing.now c.requires.woken few m))

pub returns-clause-parked : goal.returns-clause-parked
returns-clause-parked c = rw (they_wait (goal.at.returns-clause-parked c).Else-self) c.contains.ensures

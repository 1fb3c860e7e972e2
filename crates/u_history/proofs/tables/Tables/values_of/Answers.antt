use Rattle.std.proofs.Common.{◌≡◌, ◌↔◌, ◌<◌, ◌-◌, inl, inr, suc, length, Contains, subst, arith}
use Rattle.std.proofs.lemmas.Bool.Decides.{nat_tests}
use Rattle.u_history.proofs.Numbering.{Column, at_number, nothing_at}
use Rattle.u_history.proofs.tables.Tables.values_of.Goals as goal

pub returns-then-port-eq0-clause-all : goal.returns-then-port-eq0-clause-all
returns-then-port-eq0-clause-all c a m v =
    let z : c.args.port ≡ 0 = grind (arith, nat_tests, c.if-port-eq0.true) in
    nothing_at c.args.self.now c.requires c.args.port a v (inl z)

pub returns-in-Some-clause-all : goal.returns-in-Some-clause-all
returns-in-Some-clause-all c a m v =
    let t = c.args.self.now in
    let found = c.in-Some.ensures.lookup in
    let f = c.from.ensures in
    let z : (c.args.port ≡ 0 → ⊥) = (λ h. grind (arith, nat_tests, c.if-port-eq0.false, h)) in
    let e : c.args.port ≡ suc (c.from.result - 1) = grind (arith, f, z) in
    let k = at_number t c.requires c.args.port (c.from.result - 1) c.args.number c.in-Some.column.now a v e found.3.0 m in
    let h = subst (λ (d : Column). Contains c.at.result.now v ↔ Contains d (c.args.number, v)) found.1 (c.at.ensures.all v) in
    ((λ x. k.0 (h.0 x)), λ x. h.1 (k.1 x))

pub returns-in-None-clause-all : goal.returns-in-None-clause-all
returns-in-None-clause-all c a m v =
    let t = c.args.self.now in
    let past = c.in-None.ensures.lookup.3 in
    let f = c.from.ensures in
    let z : (c.args.port ≡ 0 → ⊥) = (λ h. grind (arith, nat_tests, c.if-port-eq0.false, h)) in
    let l : length t.columns < c.args.port = grind (arith, f, z, past) in
    nothing_at t c.requires c.args.port a v (inr l)

use Rattle.std.proofs.Common.{◌≡◌, Ok, Err, refl, sym, subst, rules}
use Rattle.std.specs.Prelude.{MatchResult, IfOk}
use Rattle.u_rule.specs.FiringReading.{activity_at, behind_name}
use Rattle.u_rule.specs.declared.firing.Firing.{Firing}
use Rattle.u_rule.proofs.FirstByteLaws.{ReadOf}
use Rattle.u_rule.proofs.FiringPartLaws.{firing_named}
use Rattle.u_rule.proofs.firing_reading.front_firing.Goals as goal

pub returns-in-Ok : goal.returns-in-Ok
returns-in-Ok c =
    let h : activity_at c.args.bytes.now ≡ Ok (c.in-Ok.activity, c.in-Ok.rest.now) = search rules in
    let e = firing_named c.in-Ok.activity c.args.bytes.now c.in-Ok.rest.now (behind_name c.in-Ok.activity c.in-Ok.rest.now) h refl in
    subst (λ (r : ReadOf Firing). IfOk c.with_name.result (λ front. MatchResult front (λ found. r ≡ Ok (found.0, found.1.now)) (λ rest. r ≡ Err rest.now))) (sym e) c.with_name.ensures

use Rattle.std.proofs.Common.{◌≡◌, ◌<◌, ◌++◌, [], ◌∷◌, Ok, Err, length, sym, ap, subst, rules, arith}
use Rattle.std.specs.Prelude.{MatchResult, IfOk}
use Rattle.std.proofs.lemmas.Bool.Decides.{nat_tests}
use Rattle.u_rule.specs.FiringReading.{next_at, firing_behind}
use Rattle.u_rule.specs.Parts.{most_ports}
use Rattle.u_rule.specs.declared.firing.Firing.{Firing}
use Rattle.u_rule.specs.declared.firing_reading.Next.TheVariants.{Another}
use Rattle.u_rule.proofs.FirstByteLaws.{ReadOf}
use Rattle.u_rule.proofs.FiringPartLaws.{values_another, values_refused}
use Rattle.u_rule.proofs.firing_reading.+with_more.Goals as goal

pub returns-in-Err : goal.returns-in-Err
returns-in-Err t c =
    let h : next_at c.args.bytes.now ≡ Err c.in-Err.rest.now = search rules in
    let l : length c.args.values.items < most_ports = grind (arith, nat_tests, c.requires.count, c.if-len-eq-MOST_PORTS.false) in
    values_refused c.args.activity c.args.values.items c.args.bytes.now c.in-Err.rest.now l h

pub returns-in-Another : goal.returns-in-Another
returns-in-Another t c =
    let h : next_at c.args.bytes.now ≡ Ok (Another c.in-Another.value, c.in-Ok.found.1.now) = search rules in
    let l : length c.args.values.items < most_ports = grind (arith, nat_tests, c.requires.count, c.if-len-eq-MOST_PORTS.false) in
    let i : c.push.new.self.items ≡ c.args.values.items ++ (c.in-Another.value ∷ []) = search rules in
    let e = values_another c.args.activity c.args.values.items c.in-Another.value c.args.bytes.now c.in-Ok.found.1.now (firing_behind c.args.activity c.push.new.self.items c.in-Ok.found.1.now) l h (ap (λ vs. firing_behind c.args.activity vs c.in-Ok.found.1.now) (sym i)) in
    subst (λ (r : ReadOf Firing). IfOk c.with_more.result (λ front. MatchResult front (λ found. r ≡ Ok (found.0, found.1.now)) (λ rest. r ≡ Err rest.now))) (sym e) c.with_more.ensures

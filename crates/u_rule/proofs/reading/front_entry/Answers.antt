use Rattle.std.proofs.Common.{◌≡◌, ◌∷◌, Ok, Err, sym, subst, rules}
use Rattle.std.specs.Prelude.{MatchResult, IfOk}
use Rattle.u_rule.proofs.EntryPartLaws.{ReadEntry, entry_token, entry_write, entry_fault}
use Rattle.u_rule.proofs.reading.front_entry.Goals as goal

pub returns-in-116 : goal.returns-in-116
returns-in-116 c =
    let e : c.args.bytes.now ≡ 116 ∷ c.in-Some.rest.now = search rules in
    subst (λ (r : ReadEntry). IfOk c.front_token.result (λ front. MatchResult front (λ found. r ≡ Ok (found.0, found.1.now)) (λ rest. r ≡ Err rest.now))) (sym (entry_token c.args.bytes.now c.in-Some.rest.now e)) c.front_token.ensures

pub returns-in-119 : goal.returns-in-119
returns-in-119 c =
    let e : c.args.bytes.now ≡ 119 ∷ c.in-Some.rest.now = search rules in
    subst (λ (r : ReadEntry). IfOk c.front_write.result (λ front. MatchResult front (λ found. r ≡ Ok (found.0, found.1.now)) (λ rest. r ≡ Err rest.now))) (sym (entry_write c.args.bytes.now c.in-Some.rest.now e)) c.front_write.ensures

pub returns-in-120 : goal.returns-in-120
returns-in-120 c =
    let e : c.args.bytes.now ≡ 120 ∷ c.in-Some.rest.now = search rules in
    subst (λ (r : ReadEntry). IfOk c.front_fault.result (λ front. MatchResult front (λ found. r ≡ Ok (found.0, found.1.now)) (λ rest. r ≡ Err rest.now))) (sym (entry_fault c.args.bytes.now c.in-Some.rest.now e)) c.front_fault.ensures

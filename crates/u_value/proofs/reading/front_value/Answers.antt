use Rattle.std.proofs.Common.{◌≡◌, ◌∷◌, ℕ, List, Result, Ok, Err, sym, subst, rules}
use Rattle.std.specs.Prelude.{MatchResult, IfOk}
use Rattle.u_value.specs.declared.value.Value.{Value}
use Rattle.u_value.proofs.ReadingLaws.{behind_ampersand, behind_at, behind_f, behind_t}
use Rattle.u_value.proofs.reading.front_value.Goals as goal

abbrev R : Type 0
R = Result (Value × List ℕ) (List ℕ)

pub returns-in-38 : goal.returns-in-38
returns-in-38 c =
    let e : c.args.bytes.now ≡ 38 ∷ c.in-Some.rest.now = search rules in
    subst (λ (r : R). IfOk c.front_reference.result (λ front. MatchResult front (λ found. r ≡ Ok (found.0, found.1.now)) (λ rest. r ≡ Err rest.now))) (sym (behind_ampersand c.args.bytes.now c.in-Some.rest.now e)) c.front_reference.ensures

pub returns-in-64 : goal.returns-in-64
returns-in-64 c =
    let e : c.args.bytes.now ≡ 64 ∷ c.in-Some.rest.now = search rules in
    subst (λ (r : R). IfOk c.front_procedure.result (λ front. MatchResult front (λ found. r ≡ Ok (found.0, found.1.now)) (λ rest. r ≡ Err rest.now))) (sym (behind_at c.args.bytes.now c.in-Some.rest.now e)) c.front_procedure.ensures

pub returns-in-102 : goal.returns-in-102
returns-in-102 c =
    let e : c.args.bytes.now ≡ 102 ∷ c.in-Some.rest.now = search rules in
    subst (λ (r : R). MatchResult c.front_false.result (λ found. r ≡ Ok (found.0, found.1.now)) (λ rest. r ≡ Err rest.now)) (sym (behind_f c.args.bytes.now c.in-Some.rest.now e)) c.front_false.ensures

pub returns-in-116 : goal.returns-in-116
returns-in-116 c =
    let e : c.args.bytes.now ≡ 116 ∷ c.in-Some.rest.now = search rules in
    subst (λ (r : R). MatchResult c.front_true.result (λ found. r ≡ Ok (found.0, found.1.now)) (λ rest. r ≡ Err rest.now)) (sym (behind_t c.args.bytes.now c.in-Some.rest.now e)) c.front_true.ensures

use Rattle.std.proofs.Common.{List, ℕ, Bor, subst, rules, refl}
use Rattle.std.proofs.lemmas.Option.{slice_get_read}
use Rattle.u_replica.specs.ListedLines.{IsLineAt}
use Rattle.u_replica.proofs.ListedLaws.{line_at}
use Rattle.u_replica.proofs.listed_lines.ListedLines.place_of.Goals as goal

pub returns-in-Some : goal.returns-in-Some
returns-in-Some c =
    let line : Bor (List ℕ) = c.in-Some.line.now in
    let found = c.in-Some.ensures.lookup in
    let place = c.in_ok-place.field-0.now in
    subst (λ (ls : List (Bor (List ℕ))). IsLineAt ls place c.args.text.now) c.deref.ensures.value
    (line_at c.deref.result.now place line c.args.text.now (slice_get_read c.deref.result.now _ place line refl found.3.0 found.1) (search rules))

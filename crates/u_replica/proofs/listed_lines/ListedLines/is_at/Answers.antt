use Rattle.std.proofs.Common.{List, ℕ, Bor, subst, refl}
use Rattle.std.proofs.lemmas.Option.{slice_get_read}
use Rattle.u_rule.specs.FiringText.{firing_text}
use Rattle.u_replica.specs.ListedLines.{IsLineAt}
use Rattle.u_replica.proofs.ListedLaws.{line_at}
use Rattle.u_replica.proofs.listed_lines.ListedLines.is_at.Goals as goal

pub returns-in-Some : goal.returns-in-Some
returns-in-Some c t =
    let line : Bor (List ℕ) = c.in-Some.line.now in
    let found = c.in-Some.ensures.lookup in
    let text = firing_text c.args.firing.now in
    subst (λ (ls : List (Bor (List ℕ))). IsLineAt ls c.args.place text) c.deref.ensures.value
    (line_at c.deref.result.now c.args.place line text (slice_get_read c.deref.result.now _ c.args.place line refl found.3.0 (found.3.1 line)) (c.is_plain_text.ensures t))

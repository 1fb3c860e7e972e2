use Rattle.std.proofs.Common.{◌≡◌, ◌∙◌, ◌++◌, List, ℕ, take, drop, ap, sym, append_assoc}
use Rattle.std.proofs.lemmas.List.{take-append-drop}
use Rattle.u_share.proofs.Written.{appends_more}
use Rattle.u_share.proofs.output.write_out.Goals as goal

split : (bytes front rest next : List ℕ) (n : ℕ) → bytes ≡ front ++ rest → next ≡ drop n rest → bytes ≡ (front ++ take n rest) ++ next
split bytes front rest next n e d =
    e ∙ ap (λ (t : List ℕ). front ++ t) (sym (take-append-drop n rest)) ∙ sym (append_assoc front (take n rest) (drop n rest)) ∙ ap (λ (t : List ℕ). (front ++ take n rest) ++ t) (sym d)

pub loop-rest-preserved : goal.loop-rest-preserved
loop-rest-preserved g c =
    let (front, e, w) = c.loop-rest.invariant in (
      front ++ take c.in-Ok.count c.loop-rest.rest.now,
      split c.args.bytes.now front c.loop-rest.rest.now _ c.in-Ok.count e c.behind-rest.ensures,
      appends_more _ _ _ front (take c.in-Ok.count c.loop-rest.rest.now) w c.in-Ok.ensures.bytes,
    )

use Rattle.std.proofs.Common.{arith, subst, sym, ◌∙◌, ◌∷◌, ℕ, List}
use Rattle.u_explain.specs.Left.{IsLongestFront}
use Rattle.u_explain.specs.Places.{IsAllowed}
use Rattle.u_explain.proofs.ScanLaws.{same_line}
use Rattle.u_explain.proofs.lines.refused_at.Goals as goal

pub returns-in-Some : goal.returns-in-Some
returns-in-Some c = λ before line others e n b.
    let r = c.behind_lines-behind.ensures before (line ∷ others) e (omega (arith, n)) b in
    let s = same_line c.behind_lines-behind.result.rest.now c.in-Some.line.now c.in-Some.field-0-1.now line others _ c.in-Some.ensures.cut r.2 in
    (s, r.1 ∙ sym n, subst (λ (l : List ℕ). IsLongestFront (IsAllowed before) l c.offset_of.result) s (c.offset_of.ensures before r.0))

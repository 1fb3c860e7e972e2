use Rattle.std.proofs.Common.{◌≡◌, ◌∙◌, ap, sym}
use Rattle.std.specs.Prelude.{ℤ}
use Rattle.u_program.specs.Parts.{ProgramParts}
use Rattle.u_program.proofs.Same.{IsOne}
use Rattle.u_check.specs.Tables.{TableRows}
use Rattle.u_check.specs.Jobs.{JobParts, IsOneJob, job}
use Rattle.u_check.proofs.JobLaws.{same_exactly}
use Rattle.u_replica.proofs.merging.is_same.Goals as goal

-- two that are one job and have one table are equal
whole : (a b : JobParts) → IsOneJob a b → a.table ≡ b.table → a ≡ b
whole a b o t =
    ap (λ (p : ProgramParts). job p a.argument a.table) o.program ∙ (ap (λ (z : ℤ). job b.program z a.table) o.argument ∙ ap (λ (r : TableRows). job b.program b.argument r) t)

pub returns-then-eq : goal.returns-then-eq
returns-then-eq c =
    let left = c.args.left.now in
    let right = c.args.right.now in
    let v : IsOne left.program = rw c.program.ensures.program at c.blocks-left.ensures.own_limits in
    let w : IsOne right.program = rw c.program-2.ensures.program at c.blocks-right.ensures.own_limits in
    let one : IsOneJob right left = (same_exactly right left w v).0 (sym c.eq.ensures ∙ c.if-eq.true) in (
      (λ t. whole right left one (sym c.table.ensures ∙ (c.is_same.ensures.0 t ∙ c.table-then-eq.ensures))),
      λ e. c.is_same.ensures.1 (c.table.ensures ∙ (ap (λ (j : JobParts). j.table) e ∙ sym c.table-then-eq.ensures)),
    )

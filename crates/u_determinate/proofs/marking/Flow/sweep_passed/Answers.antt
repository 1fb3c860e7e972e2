use Rattle.std.proofs.Common.{arith, sym, ◌∙◌}
use Rattle.std.proofs.lemmas.Bool.{false≢true}
use Rattle.u_determinate.specs.Guards.{PassedOn}
use Rattle.u_determinate.proofs.Rounds.{passed_more}
use Rattle.u_determinate.proofs.Sweeps.{swept_one, swept_other}
use Rattle.u_determinate.proofs.marking.Flow.sweep_passed.Goals as goal
use Rattle.u_determinate.proofs.marking.Flow.sweep_passed.Goals.{then-not-is_marked+then-is_passed, else-not-is_marked, else-not-is_marked-via-then-not-is_marked+else-is_passed, else-not-is_marked-via-else-not-is_marked}

pub loop-number-preserved : goal.loop-number-preserved
loop-number-preserved c =
    let ss = c.args.self.now.statements.now in
    let F = PassedOn ss c.args.control in
    let more = passed_more ss c.args.control in
    let i = c.loop-number.number in
    let now = c.loop-number.passed in
    elim c.if-not-is_marked.branch [
      | then-not-is_marked+then-is_passed w ↦
          rw w.passed-is (rw w.new-is (swept_one F more c.args.passed.now i now c.loop-number.new c.loop-number.invariant (omega (arith, c.loop-number-test.true, c.loop-number.invariant.count)) (sym c.is_marked.ensures ∙ w.if-not-is_marked.true) (w.is_passed.ensures.0 w.if-is_passed.true)))
      | else-not-is_marked w ↦
          rw w.passed-is (rw w.new-is (swept_other F more c.args.passed.now i now c.loop-number.new c.loop-number.invariant (elim w.else-not-is_marked.branch [
            | else-not-is_marked-via-then-not-is_marked+else-is_passed w' ↦ λ f. absurd (false≢true (sym w'.if-is_passed.false ∙ w'.is_passed.ensures.1 f))
            | else-not-is_marked-via-else-not-is_marked w' ↦ λ f. sym c.is_marked.ensures ∙ w'.if-not-is_marked.false
          ])))
    ]

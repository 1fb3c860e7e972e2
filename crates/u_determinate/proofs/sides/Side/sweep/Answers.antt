use Rattle.std.proofs.Common.{arith, sym, ◌∙◌}
use Rattle.std.proofs.lemmas.Bool.{false≢true}
use Rattle.u_determinate.specs.Guards.{StatementOf}
use Rattle.u_determinate.proofs.Rounds.{guards_more}
use Rattle.u_determinate.proofs.Sweeps.{swept_one, swept_other}
use Rattle.u_determinate.proofs.sides.Side.sweep.Goals as goal
use Rattle.u_determinate.proofs.sides.Side.sweep.Goals.{then-not-is_marked+then-statement_has, else-not-is_marked, else-not-is_marked-via-then-not-is_marked+else-statement_has, else-not-is_marked-via-else-not-is_marked}

pub loop-number-preserved : goal.loop-number-preserved
loop-number-preserved c =
    let ss = c.args.self.now.flow.statements.now in
    let F = StatementOf ss c.args.self.now.control c.args.self.now.value in
    let more = guards_more ss c.args.self.now.control c.args.self.now.value in
    let i = c.loop-number.number in
    let now = c.loop-number.marks in
    elim c.if-not-is_marked.branch [
      | then-not-is_marked+then-statement_has w ↦
          rw w.marks-is (rw w.new-is (swept_one F more c.args.marks.now i now c.loop-number.new c.loop-number.invariant (omega (arith, c.loop-number-test.true, c.loop-number.invariant.count)) (sym c.is_marked.ensures ∙ w.if-not-is_marked.true) (w.statement_has.ensures.0 w.if-statement_has.true)))
      | else-not-is_marked w ↦
          rw w.marks-is (rw w.new-is (swept_other F more c.args.marks.now i now c.loop-number.new c.loop-number.invariant (elim w.else-not-is_marked.branch [
            | else-not-is_marked-via-then-not-is_marked+else-statement_has w' ↦ λ f. absurd (false≢true (sym w'.if-statement_has.false ∙ w'.statement_has.ensures.1 f))
            | else-not-is_marked-via-else-not-is_marked w' ↦ λ f. sym c.is_marked.ensures ∙ w'.if-not-is_marked.false
          ])))
    ]

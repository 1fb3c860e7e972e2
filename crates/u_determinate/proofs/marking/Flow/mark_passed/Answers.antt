use Rattle.u_determinate.specs.Guards.{PassedOn}
use Rattle.u_determinate.proofs.Rounds.{passed_more}
use Rattle.u_determinate.proofs.Sweeps.{marked_none, marked_more}
use Rattle.u_determinate.proofs.marking.Flow.mark_passed.Goals as goal
use Rattle.u_determinate.proofs.marking.Flow.mark_passed.Goals.{then-is_next_passed, else-is_next_passed}

pub loop-number-init : goal.loop-number-init
loop-number-init c = marked_none (PassedOn c.args.self.now.statements.now c.args.control) (passed_more c.args.self.now.statements.now c.args.control) c.args.passed.now

pub loop-number-preserved : goal.loop-number-preserved
loop-number-preserved c =
    let ss = c.args.self.now.statements.now in
    let F = PassedOn ss c.args.control in
    elim c.if-is_next_passed.branch [
      | then-is_next_passed w ↦
          rw w.passed-is (marked_more F (passed_more ss c.args.control) c.args.passed.now _ c.loop-number.passed c.loop-number.invariant (c.is_next_passed.ensures.follows w.if-is_next_passed.true))
      | else-is_next_passed w ↦ rw w.passed-is c.loop-number.invariant
    ]

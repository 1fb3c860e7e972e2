use Rattle.u_determinate.specs.Guards.{StatementOf}
use Rattle.u_determinate.proofs.Rounds.{guards_more}
use Rattle.u_determinate.proofs.Sweeps.{marked_none, marked_more}
use Rattle.u_determinate.proofs.sides.Side.mark_all.Goals as goal
use Rattle.u_determinate.proofs.sides.Side.mark_all.Goals.{then-is_next, else-is_next}

pub loop-number-init : goal.loop-number-init
loop-number-init c =
    let ss = c.args.self.now.flow.statements.now in
    marked_none (StatementOf ss c.args.self.now.control c.args.self.now.value) (guards_more ss c.args.self.now.control c.args.self.now.value) c.args.marks.now

pub loop-number-preserved : goal.loop-number-preserved
loop-number-preserved c =
    let ss = c.args.self.now.flow.statements.now in
    let F = StatementOf ss c.args.self.now.control c.args.self.now.value in
    elim c.if-is_next.branch [
      | then-is_next w ↦
          rw w.marks-is (marked_more F (guards_more ss c.args.self.now.control c.args.self.now.value) c.args.marks.now _ c.loop-number.marks c.loop-number.invariant (c.is_next.ensures.follows w.if-is_next.true))
      | else-is_next w ↦ rw w.marks-is c.loop-number.invariant
    ]

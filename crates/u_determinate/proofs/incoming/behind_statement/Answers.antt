use Rattle.std.proofs.Common.{sym, ◌∙◌, subst}
use Rattle.u_determinate.proofs.Links.{BehindFrom, behind_none, behind_one, behind_other, behind_all, statement_there}
use Rattle.u_determinate.proofs.incoming.behind_statement.Goals as goal
use Rattle.u_determinate.proofs.incoming.behind_statement.Goals.{then-is_behind+in_ok-push, else-is_behind}

pub loop-i-init : goal.loop-i-init
loop-i-init c =
    subst (BehindFrom c.args.statements.now c.args.number c.args.statement.now 0) (sym c.new-all.ensures.items) (behind_none c.args.statements.now c.args.number c.args.statement.now)

pub loop-i-preserved : goal.loop-i-preserved
loop-i-preserved c =
    let ss = c.args.statements.now in
    let t = c.index-statements-i.result in
    let there = statement_there ss c.loop-i.i t c.loop-i-test.true c.index-statements-i.is in
    elim c.if-is_behind.branch [
      | then-is_behind+in_ok-push w ↦
          rw w.all-is (rw w.in_ok-push.ensures.items (behind_one ss c.args.number c.args.statement.now c.loop-i.i t there (sym c.is_behind.ensures ∙ w.if-is_behind.true) c.loop-i.all.items c.loop-i.invariant))
      | else-is_behind w ↦
          rw w.all-is (behind_other ss c.args.number c.args.statement.now c.loop-i.i t there (sym c.is_behind.ensures ∙ w.if-is_behind.false) c.loop-i.all.items c.loop-i.invariant)
    ]

pub returns : goal.returns
returns c =
    behind_all c.args.statements.now c.args.number c.args.statement.now c.loop-i.i c.loop-i-test.false c.loop-i.all.items c.loop-i.invariant

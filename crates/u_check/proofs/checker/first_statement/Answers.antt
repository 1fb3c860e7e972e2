use Rattle.std.proofs.Common.{rules, ◌≡◌, ℕ, ◌+◌, ◌≤◌, arith, refl, subst, List, length, true, false, Some, below_more}
use Rattle.std.specs.Prelude.{slice_get}
use Rattle.std.proofs.lemmas.Option.{slice_get_read}
use Rattle.u_program.specs.Parts.{StatementParts}
use Rattle.u_check.specs.Rules.{StatementBreaks, statement_keeps}
use Rattle.u_check.proofs.First.{none_below, statement_passes, statement_breaks, none_at_all}
use Rattle.u_check.proofs.checker.first_statement.Goals as goal

pub loop-i-init : goal.loop-i-init
loop-i-init c = none_below c.args.blocks.now c.args.rule c.args.block.now

pub returns-then-not-statement_keeps-clause-breach : goal.returns-then-not-statement_keeps-clause-breach
returns-then-not-statement_keeps-clause-breach c =
    let at : slice_get c.args.block.now.statements c.loop-i.i ≡ Some c.statement-item.result = subst (λ (ss : List StatementParts). slice_get ss c.loop-i.i ≡ Some c.statement-item.result) c.statements-statement-items.ensures (slice_get_read c.statements-statement-items.result.now _ c.loop-i.i c.statement-item.result refl (omega arith) c.statement-item.is) in
    let failed : statement_keeps c.args.rule c.args.blocks.now c.args.block.now (c.loop-i.i + 1) c.statement-item.result ≡ false = search rules in
    statement_breaks c.args.blocks.now c.args.rule c.args.block.now c.loop-i.i c.statement-item.result at failed

pub loop-i-preserved : goal.loop-i-preserved
loop-i-preserved c =
    let at : slice_get c.args.block.now.statements c.loop-i.i ≡ Some c.statement-item.result = subst (λ (ss : List StatementParts). slice_get ss c.loop-i.i ≡ Some c.statement-item.result) c.statements-statement-items.ensures (slice_get_read c.statements-statement-items.result.now _ c.loop-i.i c.statement-item.result refl (omega arith) c.statement-item.is) in
    let kept : statement_keeps c.args.rule c.args.blocks.now c.args.block.now (c.loop-i.i + 1) c.statement-item.result ≡ true = search rules in
    below_more (λ (m : ℕ). StatementBreaks c.args.blocks.now c.args.rule c.args.block.now m → ⊥) (c.loop-i.i + 1) c.loop-i.invariant (statement_passes c.args.blocks.now c.args.rule c.args.block.now c.loop-i.i c.statement-item.result at kept)

pub returns-clause-none : goal.returns-clause-none
returns-clause-none c =
    let end : length c.args.block.now.statements ≤ c.loop-i.i = search rules in
    none_at_all c.args.blocks.now c.args.rule c.args.block.now c.loop-i.i end c.loop-i.invariant

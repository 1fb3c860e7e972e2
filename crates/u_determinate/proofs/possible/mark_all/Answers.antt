use Rattle.std.proofs.Common.{◌≡◌, ℕ, ◌+◌, ◌-◌, ◌==◌, refl, sym, ap, ◌∙◌, arith, List, length, get_or, Some, subst, false, ◌||◌}
use Rattle.std.specs.Prelude.{slice_get}
use Rattle.std.proofs.lemmas.Option.{slice_get_read}
use Rattle.std.proofs.Common.{Bool}
use Rattle.u_determinate.specs.Strict.{is_test}
use Rattle.u_determinate.specs.Tables.{PossibleBefore}
use Rattle.u_determinate.proofs.GuardTables.{not_possible, possible}
use Rattle.u_determinate.proofs.possible.mark_all.Goals as goal
use Rattle.u_determinate.proofs.possible.mark_all.Goals.{then-is_test, else-is_test}

pub loop-statement-preserved : goal.loop-statement-preserved
loop-statement-preserved c =
    let ss = c.args.statements.now in
    let loops = length c.args.table.now in
    let i = c.loop-statement.statement-index in
    let s = c.statement-item.result in
    let at : slice_get ss i ≡ Some s = slice_get_read ss _ i s refl (omega arith) c.statement-item.is in
    let kind : c.is_test.result ≡ is_test s.kind = c.is_test.ensures ∙ ap is_test c.kind.ensures in
    elim c.if-is_test.branch [
      | then-is_test w ↦
          let long : length w.mark.new.table ≡ length c.loop-statement.table = sym (ap length w.table-is) ∙ c.if-is_test.auto.table in
          subst (λ (t : List Bool). PossibleBefore ss loops (i + 1) t) (sym w.table-is)
          (possible ss i s at loops c.loop-statement.table c.loop-statement.invariant w.mark.new.table (sym kind ∙ w.if-is_test.true) long
          (λ m a b. subst (λ (k : ℕ). get_or w.mark.new.table (m - 1) false ≡ (m == k || get_or c.loop-statement.table (m - 1) false)) (w.from.ensures ∙ w.region.ensures) (w.mark.ensures m a b)))
      | else-is_test w ↦
          subst (λ (t : List Bool). PossibleBefore ss loops (i + 1) t) (sym w.table-is)
          (not_possible ss i s at loops c.loop-statement.table c.loop-statement.invariant (sym kind ∙ w.if-is_test.false))
    ]

use Rattle.std.proofs.Common.{◌≡◌, ℕ, ◌+◌, ◌-◌, ◌==◌, refl, sym, ap, ◌∙◌, arith, List, length, get_or, Some, subst}
use Rattle.std.specs.Prelude.{slice_get, if◌then◌else◌}
use Rattle.std.proofs.lemmas.Option.{slice_get_read}
use Rattle.u_check.specs.Kinds.{back_named}
use Rattle.u_determinate.specs.declared.calls.Calls.{Calls}
use Rattle.u_determinate.specs.declared.calls.Calls.TheVariants.{Nothing}
use Rattle.u_determinate.specs.Tables.{with_call, CallsBefore}
use Rattle.u_determinate.proofs.CallTables.{no_call, call}
use Rattle.u_determinate.proofs.KindFacts.{named_apply}
use Rattle.u_determinate.proofs.calls.add_calls.Goals as goal
use Rattle.u_determinate.proofs.calls.add_calls.Goals.{in-Apply, in_default}

pub loop-statement-preserved : goal.loop-statement-preserved
loop-statement-preserved c =
    let ss = c.args.statements.now in
    let i = c.loop-statement.statement-index in
    let s = c.statement-item.result in
    let at : slice_get ss i ≡ Some s = slice_get_read ss _ i s refl (omega arith) c.statement-item.is in
    elim c.match-kind.branch [
      | in-Apply w ↦
          let long : length w.add_call.new.table ≡ length c.loop-statement.table = sym (ap length w.table-is) ∙ c.match-kind.auto.table in
          subst (λ (t : List Calls). CallsBefore ss (i + 1) t) (sym w.table-is)
          (call ss i s at c.loop-statement.table c.loop-statement.invariant w.in-Apply.number w.add_call.new.table (ap back_named (sym c.kind.ensures ∙ w.in-Apply.is)) long
          (λ m a b. subst (λ (k : ℕ). get_or w.add_call.new.table (m - 1) Nothing ≡ (if m == k then with_call (get_or c.loop-statement.table (m - 1) Nothing) else get_or c.loop-statement.table (m - 1) Nothing)) w.from.ensures (w.add_call.ensures m a b)))
      | in_default w ↦
          subst (λ (t : List Calls). CallsBefore ss (i + 1) t) (sym w.table-is)
          (no_call ss i s at c.loop-statement.table c.loop-statement.invariant (λ n e. let a = named_apply s.kind n e in w.in_default.not-Apply n a.0 (c.kind.ensures ∙ a.1)))
    ]

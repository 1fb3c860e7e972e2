use Rattle.std.proofs.Common.{◌≡◌, ℕ, ◌+◌, ◌-◌, ◌==◌, refl, sym, ap, ◌∙◌, arith, List, length, get_or, Some, subst}
use Rattle.std.specs.Prelude.{slice_get, if◌then◌else◌}
use Rattle.std.proofs.lemmas.Option.{slice_get_read}
use Rattle.u_determinate.specs.declared.guards.Guards.{Guards}
use Rattle.u_determinate.specs.declared.guards.Guards.TheVariants.{Nothing}
use Rattle.u_determinate.specs.Tables.{side_of, with_guard, GuardsBefore}
use Rattle.u_determinate.proofs.GuardTables.{no_guard, guard}
use Rattle.u_determinate.proofs.guards.add_guards.Goals as goal
use Rattle.u_determinate.proofs.guards.add_guards.Goals.{in-Some, in_default}

pub loop-place-preserved : goal.loop-place-preserved
loop-place-preserved c =
    let ss = c.args.statements.now in
    let loops = length c.args.table.now in
    let i = c.loop-place.place in
    let s = c.index-statements-place.result in
    let at : slice_get ss i ≡ Some s = slice_get_read ss _ i s refl (omega arith) c.index-statements-place.is in
    elim c.match-side_of.branch [
      | in-Some w ↦
          let f = w.in-Some.on_false in
          let test = w.guard_of-test.result in
          let long : length w.add_guard.new.table ≡ length c.loop-place.table = sym (ap length w.table-is) ∙ c.match-side_of.auto.table in
          let side : side_of s.kind ≡ Some f = ap side_of (sym c.kind.ensures) ∙ sym c.side_of.ensures ∙ w.in-Some.is in
          subst (λ (t : List Guards). GuardsBefore ss loops (i + 1) t) (sym w.table-is)
          (guard ss i s at loops c.loop-place.table c.loop-place.invariant f test w.add_guard.new.table side w.guard_of-test.ensures long
          (λ m a b. subst (λ (k : ℕ). get_or w.add_guard.new.table (m - 1) Nothing ≡ (if m == k then with_guard (get_or c.loop-place.table (m - 1) Nothing) test else get_or c.loop-place.table (m - 1) Nothing)) (w.from.ensures ∙ w.region.ensures) (w.add_guard.ensures m a b)))
      | in_default w ↦
          subst (λ (t : List Guards). GuardsBefore ss loops (i + 1) t) (sym w.table-is)
          (no_guard ss i s at loops c.loop-place.table c.loop-place.invariant (ap side_of (sym c.kind.ensures) ∙ sym c.side_of.ensures ∙ w.in_default.is))
    ]

use Rattle.std.proofs.Common.{◌≡◌, ℕ, ◌+◌, ◌*◌, arith, subst, length, true}
use Rattle.u_determinate.specs.Tables.{ArcsBefore, list_number}
use Rattle.u_determinate.proofs.sources.add_all.Goals as goal

pub loop-place-preserved : goal.loop-place-preserved
loop-place-preserved c =
    let e : list_number (c.loop-place.place + 1) true + 1 ≡ 2 * (c.loop-place.place + 1 + 1) = omega arith in
    subst (λ (k : ℕ). ArcsBefore c.args.statements.now c.args.port k 0 c.add_list-in-loop-place.new.table) e c.add_list-in-loop-place.ensures

pub returns : goal.returns
returns c =
    let e : c.loop-place.place ≡ length c.args.statements.now = omega arith in
    subst (λ (k : ℕ). ArcsBefore c.args.statements.now c.args.port (2 * (k + 1)) 0 c.loop-place.table) e c.loop-place.invariant

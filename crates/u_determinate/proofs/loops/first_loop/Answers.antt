use Rattle.std.proofs.Common.{◌≡◌, ℕ, ◌+◌, ◌<◌, sym, ap, ◌∙◌, arith, List, length, get_or, below_more, true, false}
use Rattle.u_program.specs.Parts.{StatementParts}
use Rattle.u_determinate.specs.declared.guards.Guards.TheVariants.{Nothing}
use Rattle.u_determinate.specs.Breaches.{LoopIsTested}
use Rattle.u_determinate.specs.Tables.{is_tested}
use Rattle.u_determinate.proofs.GuardTables.{tested, not_tested, guards_at, possible_at}
use Rattle.u_determinate.proofs.loops.first_loop.Goals as goal

pub loop-place-init : goal.loop-place-init
loop-place-init c = λ m h f t. absurd (omega (arith, h, f))

pub loop-place-preserved : goal.loop-place-preserved
loop-place-preserved c =
    let ss = c.args.block.now.statements in
    let i = c.loop-place.place in
    let long = ap length c.loops-place-end.ensures in
    let lt : i < length c.args.block.now.loops = omega (arith, long) in
    let guards = guards_at ss (length c.args.block.now.loops) (length ss) c.args.table.now i c.requires.guards lt in
    let possible = possible_at ss (length c.args.block.now.loops) (length ss) c.args.possible.now i c.requires.possible lt in
    let e : is_tested ss (i + 1) (get_or c.args.table.now i Nothing) (get_or c.args.possible.now i false) ≡ true = ap (λ (ss : List StatementParts). is_tested ss (i + 1) (get_or c.args.table.now i Nothing) (get_or c.args.possible.now i false)) (sym c.statements.ensures) ∙ sym c.is_tested.ensures ∙ c.if-not-is_tested.false in
    below_more (λ (m : ℕ). LoopIsTested c.args.block.now m) (i + 1) c.loop-place.invariant (λ f t. tested ss (i + 1) (get_or c.args.table.now i Nothing) (get_or c.args.possible.now i false) guards possible e)

pub returns : goal.returns
returns c = λ n f t.
    let long = ap length c.loops-place-end.ensures in
    c.loop-place.invariant n (omega (arith, long, t)) f t

pub returns-then-not-is_tested : goal.returns-then-not-is_tested
returns-then-not-is_tested c =
    let ss = c.args.block.now.statements in
    let i = c.loop-place.place in
    let long = ap length c.loops-place-end.ensures in
    let lt : i < length c.args.block.now.loops = omega (arith, long) in
    let guards = guards_at ss (length c.args.block.now.loops) (length ss) c.args.table.now i c.requires.guards lt in
    let possible = possible_at ss (length c.args.block.now.loops) (length ss) c.args.possible.now i c.requires.possible lt in
    let e : is_tested ss (i + 1) (get_or c.args.table.now i Nothing) (get_or c.args.possible.now i false) ≡ false = ap (λ (ss : List StatementParts). is_tested ss (i + 1) (get_or c.args.table.now i Nothing) (get_or c.args.possible.now i false)) (sym c.statements.ensures) ∙ sym c.is_tested.ensures ∙ c.if-not-is_tested.true in
    (λ asks. not_tested ss (i + 1) (get_or c.args.table.now i Nothing) (get_or c.args.possible.now i false) guards possible e (asks (omega arith) (omega (arith, lt))), c.loop-place.invariant)

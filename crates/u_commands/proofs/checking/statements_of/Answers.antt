use Rattle.std.proofs.Common.{◌≡◌, ◌∙◌, ◌+◌, ◌<◌, ◌≤◌, List, take, length, get_or, subst, ap, arith}
use Rattle.u_program.specs.Parts.{BlockParts}
use Rattle.u_commands.proofs.Counts.{statements_more, statements_few}
use Rattle.u_commands.specs.Checks.{statements_of}
use Rattle.u_commands.proofs.checking.statements_of.Goals as goal

next : (c : goal.After-statements) → c.loop-block.count + length c.statements.result.now ≡ statements_of (take (c.loop-block.block-index + 1) c.args.program.now.blocks)
next c =
    let e = c.blocks-block-items.ensures.blocks in
    let below : c.loop-block.block-index < length c.args.program.now.blocks = subst (λ (p : List BlockParts). c.loop-block.block-index < length p) e c.loop-block-test.true in
    let is = subst (λ (p : List BlockParts). c.block-item.result ≡ get_or p c.loop-block.block-index c.block-item.result) e c.block-item.is in
    ap (λ (ss : _). c.loop-block.count + length ss) c.statements.ensures ∙ statements_more c.args.program.now.blocks c.loop-block.block-index c.block-item.result c.loop-block.count below is c.loop-block.invariant

pub overflow_add-count : goal.overflow_add-count
overflow_add-count c =
    let e = next c in
    let f = statements_few c.args.program.now.blocks (c.loop-block.block-index + 1) c.blocks-block-items.ensures.limits.each in
    let g : length c.args.program.now.blocks ≤ 64 = c.blocks-block-items.ensures.limits.few in
    omega (arith, e, f, g)

pub loop-block-preserved : goal.loop-block-preserved
loop-block-preserved c = next c

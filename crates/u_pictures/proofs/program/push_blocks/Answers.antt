use Rattle.u_pictures.specs.ProgramPicture.{block_picture}
use Rattle.u_pictures.proofs.Shows.{flat_more, lent_more}
use Rattle.u_pictures.proofs.program.push_blocks.Goals as goal

pub loop-block-preserved : goal.loop-block-preserved
loop-block-preserved c =
    let bs = c.args.blocks.now in
    let i = c.loop-block.block-index in
    let b = c.block-item.result in
    flat_more (block_picture c.args.origins.now c.args.version) bs i b c.args.out.now.items c.loop-block.out.items c.push_block.new.out.items
    (lent_more bs i b c.loop-block-test.true c.block-item.is)
    c.loop-block.invariant c.in_ok-push_block.ensures.ok

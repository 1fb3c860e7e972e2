use Rattle.std.proofs.Common.{◌∷◌}
use Rattle.u_pictures.specs.Dot.{numbered}
use Rattle.u_pictures.specs.Clusters.{the_block, the_loop}
use Rattle.u_pictures.specs.Arcs.{the_arcs}
use Rattle.u_pictures.specs.ProgramPicture.{block_picture, the_node}
use Rattle.u_pictures.proofs.Shows.{text_three}
use Rattle.u_pictures.proofs.program.push_block.Goals as goal

pub returns-clause-ok : goal.returns-clause-ok
unfolding block_picture
returns-clause-ok c =
    let b = c.args.block.now in
    text_three (the_block b ∷ numbered (the_loop b) 1 b.loops) (numbered (the_node c.args.origins.now c.args.version b) 1 b.statements) (the_arcs b 1 b.statements)
    c.args.out.now.items c.push_clusters.new.out.items c.push_nodes.new.out.items c.push_arcs.new.out.items
    c.in_ok-push_clusters.ensures.ok c.in_ok-push_nodes.ensures.ok c.in_ok-push_arcs.ensures.ok

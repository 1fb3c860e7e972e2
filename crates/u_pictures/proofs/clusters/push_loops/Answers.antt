use Rattle.std.proofs.Common.{◌++◌, ◌<◌, ◌∷◌, [], ◌∙◌, ap, sym, arith, take, get_or, length}
use Rattle.std.proofs.lemmas.List.{take_more}
use Rattle.u_pictures.specs.Clusters.{the_loop}
use Rattle.u_pictures.proofs.Shows.{numbered_more}
use Rattle.u_pictures.proofs.clusters.push_loops.Goals as goal

pub loop-i-preserved : goal.loop-i-preserved
loop-i-preserved c =
    let b = c.args.block.now in
    let i = c.loop-i.i in
    let e = c.loops-held_by-items.ensures in
    let h : i < length b.loops = omega (arith, c.loop-i-test.true, ap length e) in
    numbered_more (the_loop b) b.loops i (get_or c.loops-held_by-items.result.now i 0) c.args.out.now.items c.loop-i.out.items c.push_loop.new.out.items h
    (take_more b.loops i 0 h ∙ ap (λ xs. take i b.loops ++ (get_or xs i 0 ∷ [])) (sym e))
    c.loop-i.invariant c.in_ok-push_loop.ensures.ok

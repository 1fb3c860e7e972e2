use Rattle.std.proofs.Common.{◌≡◌, ◌++◌, ◌-◌, ◌∙◌, ap, arith, map}
use Rattle.u_pictures.specs.Dot.{all_closed}
use Rattle.u_pictures.specs.ProgramNames.{loop_cluster}
use Rattle.u_pictures.specs.Clusters.{holder, nest}
use Rattle.u_pictures.proofs.Nests.{closed_deeper}
use Rattle.u_pictures.proofs.clusters.+push_unnest.Goals as goal

pub returns-clause-ok : goal.returns-clause-ok
returns-clause-ok t c =
    let o = c.args.out.now.items in
    let b = c.args.block.now in
    let d = c.args.depth in
    let r = c.args.region in
    let n1 = c.push_unnest.new.out.items in
    let e : n1 ≡ o ++ all_closed (map (loop_cluster b.name) (nest (d - 1) b.loops (holder b.loops r))) =
    c.in_ok-push_unnest.ensures.ok ∙ ap (λ h. o ++ all_closed (map (loop_cluster b.name) (nest (d - 1) b.loops h))) (c.holder.ensures ∙ ap (λ l. holder l r) c.loops.ensures) in
    closed_deeper (loop_cluster b.name) b.loops d r o n1 c.extend_from_slice.new.self.items (omega (arith, c.if-depth-eq0.false)) (omega (arith, c.if-region-eq0.false)) e c.in_ok-extend_from_slice.ensures.items

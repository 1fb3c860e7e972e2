use Rattle.std.proofs.Common.{◌≡◌, ◌++◌, ◌-◌, ◌∙◌, ap, arith, map}
use Rattle.u_pictures.specs.Dot.{opened, all_opened}
use Rattle.u_pictures.specs.ProgramNames.{loop_cluster}
use Rattle.u_pictures.specs.Clusters.{holder, nest}
use Rattle.u_pictures.proofs.Nests.{opened_deeper}
use Rattle.u_pictures.proofs.clusters.+push_nest.Goals as goal

pub returns-clause-ok : goal.returns-clause-ok
returns-clause-ok t c =
    let o = c.args.out.now.items in
    let b = c.args.block.now in
    let d = c.args.depth in
    let r = c.args.region in
    let n1 = c.push_nest.new.out.items in
    let e : n1 ≡ o ++ all_opened (map (loop_cluster b.name) (nest (d - 1) b.loops (holder b.loops r))) =
    c.in_ok-push_nest.ensures.ok ∙ ap (λ h. o ++ all_opened (map (loop_cluster b.name) (nest (d - 1) b.loops h))) (c.holder.ensures ∙ ap (λ l. holder l r) c.loops.ensures) in
    let f : c.push_opened.new.out.items ≡ n1 ++ opened (loop_cluster b.name r) =
    c.in_ok-push_opened.ensures.ok ∙ ap (λ t. n1 ++ opened t) (c.deref.ensures.value ∙ c.in_ok-name.ensures ∙ ap (λ b. loop_cluster b r) (c.as_bytes.ensures.value ∙ c.name.ensures)) in
    opened_deeper (loop_cluster b.name) b.loops d r o n1 c.push_opened.new.out.items (omega (arith, c.if-depth-eq0.false)) (omega (arith, c.if-region-eq0.false)) e f

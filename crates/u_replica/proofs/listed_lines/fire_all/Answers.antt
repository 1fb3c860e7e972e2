use Rattle.std.proofs.Common.{◌∙◌, [], refl, ap}
use Rattle.u_replica.specs.ListedLines.{texts}
use Rattle.u_replica.proofs.ListedLaws.{among_none, among_found}
use Rattle.u_replica.proofs.listed_lines.fire_all.Goals as goal

pub loop-fired-init : goal.loop-fired-init
loop-fired-init g c = (refl, [], refl, among_none c.args.machine.now (texts c.args.listed.now.lines.items) c.requires)

pub loop-fired-preserved-then-fired-eq0 : goal.loop-fired-preserved-then-fired-eq0
loop-fired-preserved-then-fired-eq0 g c =
    let i = c.loop-fired.invariant in
    let more = among_found (ap (λ ls. ls.items) i.0) c.if-not-branch.false i.1 i.2 i.3 c.in_ok-fire_found.ensures.fires in
    (c.fire_found.ensures.lines ∙ i.0, more.0, more.1, more.2)

pub loop-fired-preserved : goal.loop-fired-preserved
loop-fired-preserved g c =
    let i = c.loop-fired.invariant in
    let more = among_found (ap (λ ls. ls.items) i.0) c.if-not-branch.false i.1 i.2 i.3 c.in_ok-fire_found.ensures.fires in
    (c.fire_found.ensures.lines ∙ i.0, more.0, more.1, more.2)

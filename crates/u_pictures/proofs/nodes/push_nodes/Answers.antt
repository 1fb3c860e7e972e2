use Rattle.std.proofs.Common.{◌<◌, ◌∙◌, ap, arith, get_or, length}
use Rattle.u_pictures.specs.ProgramPicture.{the_node}
use Rattle.u_pictures.proofs.Shows.{numbered_more, lent_more}
use Rattle.u_pictures.proofs.nodes.push_nodes.Goals as goal

pub loop-i-preserved : goal.loop-i-preserved
loop-i-preserved c =
    let sheet = c.args.sheet.now in
    let b = sheet.block.now in
    let i = c.loop-i.i in
    let s = c.statement-item.result in
    let e = c.statements-statement-items.ensures in
    let h : i < length b.statements = omega (arith, c.loop-i-test.true, ap length e) in
    numbered_more (the_node sheet.origins.now sheet.version b) b.statements i s c.args.out.now.items c.loop-i.out.items c.push_statement.new.out.items h
    (lent_more b.statements i s h (c.statement-item.is ∙ ap (λ xs. get_or xs i s) e))
    c.loop-i.invariant c.in_ok-push_statement.ensures.ok

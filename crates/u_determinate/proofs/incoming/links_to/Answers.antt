use Rattle.std.proofs.Common.{◌+◌, true, false, List, sym, subst, ◌⊎◌}
use Rattle.std.specs.Prelude.{Contains, ◌↔◌}
use Rattle.u_program.specs.declared.program.Destination.{Destination}
use Rattle.u_determinate.specs.Flow.{IsListed}
use Rattle.u_determinate.specs.declared.incoming.Link.{Link}
use Rattle.u_determinate.proofs.Links.{LinksFrom, links_none, links_more, links_all, statement_there}
use Rattle.u_determinate.proofs.incoming.links_to.Goals as goal

pub loop-i-init : goal.loop-i-init
loop-i-init c =
    subst (LinksFrom c.args.statements.now c.args.to 0) (sym c.new-links.ensures.items) (links_none c.args.statements.now c.args.to)

pub loop-i-preserved : goal.loop-i-preserved
loop-i-preserved c =
    let ss = c.args.statements.now in
    let s = c.index-statements-i.result in
    let a = c.loop-i.links.items in
    let b = c.add_links.new.links.items in
    let d = c.add_links-in-loop-i.new.links.items in
    links_more ss c.args.to c.loop-i.i s (statement_there ss c.loop-i.i s c.loop-i-test.true c.index-statements-i.is) a b d c.loop-i.invariant
    (subst (λ (ds : List Destination). (l : Link) → Contains b l ↔ (Contains a l ⊎ IsListed ds (c.loop-i.i + 1) false c.args.to l)) c.destinations.ensures c.in_ok-add_links.ensures)
    (subst (λ (ds : List Destination). (l : Link) → Contains d l ↔ (Contains b l ⊎ IsListed ds (c.loop-i.i + 1) true c.args.to l)) c.otherwise.ensures c.in_ok-add_links-2.ensures)

pub returns : goal.returns
returns c =
    links_all c.args.statements.now c.args.to c.loop-i.i c.loop-i-test.false c.loop-i.links.items c.loop-i.invariant

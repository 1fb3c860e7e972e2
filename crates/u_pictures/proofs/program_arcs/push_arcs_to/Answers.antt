use Rattle.std.proofs.Common.{get_or}
use Rattle.std.proofs.lemmas.List.{take_more}
use Rattle.u_program.specs.declared.program.Destination.{Destination}
use Rattle.u_pictures.specs.Arcs.{arc_to}
use Rattle.u_pictures.proofs.Shows.{mapped_more}
use Rattle.u_pictures.proofs.program_arcs.push_arcs_to.Goals as goal

pub loop-destination-preserved : goal.loop-destination-preserved
loop-destination-preserved c =
    let to = c.args.to.now in
    let i = c.loop-destination.destination-index in
    let z : Destination = record { statement = 0; port = 0 } in
    mapped_more (arc_to c.args.block.now c.args.from.now c.args.exit) to i (get_or to i z) c.args.out.now.items c.loop-destination.out.items c.push_arc_to.new.out.items
    (take_more to i z c.loop-destination-test.true) c.loop-destination.invariant c.in_ok-push_arc_to.ensures.ok

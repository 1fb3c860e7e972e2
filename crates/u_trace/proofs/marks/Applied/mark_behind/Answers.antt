use Rattle.std.proofs.Common.{get_or}
use Rattle.u_trace.proofs.PlacedLaws.{get_there}
use Rattle.u_trace.proofs.OwnerLaws.{owner_is}
use Rattle.u_trace.proofs.marks.Applied.mark_behind.Goals as goal

pub mark_needs-requires-clause-number : goal.mark_needs-requires-clause-number
mark_needs-requires-clause-number c =
    let f = c.index-self-place.result in
    let log = c.args.self.now.log.now in
    owner_is c.args.self.now.givers.now log c.args.place c.owner-number.result (get_or log c.args.place f) c.requires.owners (get_there log c.args.place f c.requires.place) c.owner-number.ensures

use Rattle.std.proofs.Common.{sym, ◌∙◌, ap, w64, to_z}
use Rattle.std.proofs.lemmas.Int.{to_z-of_z}
use Rattle.u_base.proofs.SignedLaws.{signed_Reads}
use Rattle.u_replica.proofs.SpelledTexts.{signed_there}
use Rattle.u_replica.proofs.spelled_context.behind_signed.Goals as goal

pub returns-in-Ok : goal.returns-in-Ok
returns-in-Ok c =
    let fits = (signed_Reads.sound c.args.bytes.now c.in-Ok.read c.in-Ok.rest.now c.in-Ok.ensures).0 in
    let same = sym (to_z-of_z w64 c.in-Ok.read fits) ∙ ap (to_z w64) c.if-read-number.true ∙ to_z-of_z w64 c.args.number c.ranges.number in
    signed_there c.args.bytes.now c.in-Ok.read c.args.number c.in-Ok.rest.now same c.in-Ok.ensures

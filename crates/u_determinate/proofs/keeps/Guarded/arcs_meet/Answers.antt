use Rattle.std.proofs.Common.{refl, sym, subst}
use Rattle.std.proofs.lemmas.Option.{slice_get_read}
use Rattle.u_determinate.specs.Determinate.{MayMeet}
use Rattle.u_determinate.specs.Flow.{AreLinks}
use Rattle.u_determinate.proofs.Opposed.{arcs_of}
use Rattle.u_determinate.proofs.keeps.Guarded.arcs_meet.Goals as goal

pub returns-in-Some : goal.returns-in-Some
returns-in-Some c =
    let ss = c.args.self.now.flow.statements.now in
    let e = (c.requires.sources.each c.args.number c.in-Some.sources.now (slice_get_read c.args.self.now.flow.sources.now _ c.args.number c.in-Some.sources.now refl c.in-Some.ensures.lookup.3.0 c.in-Some.ensures.lookup.1)).links in
    arcs_of ss c.args.number c.deref.result.now (subst (AreLinks ss c.args.number) (sym c.deref.ensures.value) e) (MayMeet ss) c.all_meet.result c.all_meet.ensures

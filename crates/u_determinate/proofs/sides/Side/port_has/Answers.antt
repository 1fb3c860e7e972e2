use Rattle.std.proofs.Common.{ℕ, refl, sym, subst}
use Rattle.std.proofs.lemmas.Option.{slice_get_read}
use Rattle.u_determinate.specs.Arcs.{Leads}
use Rattle.u_determinate.specs.Flow.{arc_of, AreLinks}
use Rattle.u_determinate.proofs.Links.{link}
use Rattle.u_determinate.proofs.sides.Side.port_has.Goals as goal

pub returns-in-Some : goal.returns-in-Some
returns-in-Some c =
    let ss = c.args.self.now.flow.statements.now in
    let e = (c.requires.sources.each c.args.number c.in-Some.sources.now (slice_get_read c.args.self.now.flow.sources.now _ c.args.number c.in-Some.sources.now refl c.in-Some.ensures.lookup.3.0 c.in-Some.ensures.lookup.1)).links in
    let h = subst (AreLinks ss c.args.number) (sym c.deref.ensures.value) e in
    ((λ t a l. c.links_have.ensures.0 t (link a.statement a.on_false a.place c.args.port) ((h (link a.statement a.on_false a.place c.args.port)).1 l) refl), λ f. c.links_have.ensures.1 (λ k m q. f (arc_of k) (subst (λ (p : ℕ). Leads ss c.args.number p (arc_of k)) q ((h k).0 m))))

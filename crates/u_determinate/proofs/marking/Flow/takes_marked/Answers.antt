use Rattle.std.proofs.Common.{refl, sym, ◌∙◌, subst}
use Rattle.std.proofs.lemmas.Bool.{false≢true}
use Rattle.std.proofs.lemmas.Option.{slice_get_read}
use Rattle.u_determinate.specs.Flow.{AreLinks, IsMarked}
use Rattle.u_determinate.proofs.PortLaws.{takes_one, takes_none}
use Rattle.u_determinate.proofs.marking.Flow.takes_marked.Goals as goal

pub returns-in-Some-only_link : goal.returns-in-Some-only_link
returns-in-Some-only_link c =
    let h = (c.requires.sources.each c.args.number c.in-Some.sources.now (slice_get_read c.args.self.now.sources.now _ c.args.number c.in-Some.sources.now refl c.in-Some.ensures.lookup.3.0 c.in-Some.ensures.lookup.1)).links in
    let l = subst (AreLinks c.args.self.now.statements.now c.args.number) (sym c.deref.ensures.value) h in
    takes_one c.args.self.now.statements.now c.args.number c.args.port c.deref.result.now l (IsMarked c.args.marks.now) c.in-Some-only_link.link c.in-Some-only_link.ensures.some c.is_marked.result ((λ t. sym c.is_marked.ensures ∙ t), λ m. c.is_marked.ensures ∙ m)

pub returns-in-None-only_link : goal.returns-in-None-only_link
returns-in-None-only_link c =
    let h = (c.requires.sources.each c.args.number c.in-Some.sources.now (slice_get_read c.args.self.now.sources.now _ c.args.number c.in-Some.sources.now refl c.in-Some.ensures.lookup.3.0 c.in-Some.ensures.lookup.1)).links in
    let l = subst (AreLinks c.args.self.now.statements.now c.args.number) (sym c.deref.ensures.value) h in
    ((λ t. absurd (false≢true t)), λ t. absurd (takes_none c.args.self.now.statements.now c.args.number c.args.port c.deref.result.now l (IsMarked c.args.marks.now) c.in-None-only_link.ensures.none t))

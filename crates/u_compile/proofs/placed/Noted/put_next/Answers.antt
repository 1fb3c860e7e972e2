use Rattle.std.proofs.Common.{◌≡◌, ℕ, List, [], ◌∷◌, ◌++◌, inl, refl, sym, ap, ◌∙◌, subst}
use Rattle.u_program.specs.declared.program.Kind.TheVariants.{Next}
use Rattle.u_compile.specs.Drafts.{DraftParts, draft}
use Rattle.u_compile.specs.Graphs.{GraphParts, graph}
use Rattle.u_compile.specs.Scoped.{GuardedRegionParts}
use Rattle.u_compile.specs.Placed.{PlacedParts, NoteParts, note, placed, IsPlaced, FitsIn, IsLastFull}
use Rattle.u_compile.proofs.PlacedLaws.{statement_placed}
use Rattle.u_compile.proofs.placed.Noted.put_next.Goals as goal

pub invariant_of-self-in-Ok : goal.invariant_of-self-in-Ok
invariant_of-self-in-Ok c =
    let s = c.self.inside in
    let g = s.graph in
    let at = c.args.place.now in
    let enter = c.args.enter in
    let here = placed g s.notes.items s.arounds.items s.tests.items s.unfinished in
    let x = draft at.region Next enter in
    let is-x : c.new-new.result ≡ draft at.region Next enter = c.new-new.ensures ∙ ap (λ (r : ℕ). draft r Next enter) c.region.ensures in
    let fits : FitsIn here x at = subst (λ (p : PlacedParts). FitsIn p x at) (sym c.self.view_is) (subst (λ (v : DraftParts). FitsIn c.args.self.now v at) is-x (c.fits.ensures c.if-not-fits.false)) in
    let last : IsLastFull g = subst (λ (p : PlacedParts). IsLastFull p.graph) (sym c.self.view_is) (c.is_last_full.ensures c.if-not-is_last_full.false) in
    let well = statement_placed here c.len.ensures.graph c.self.invariant x at 0 s.unfinished fits last (inl refl) (λ q. cc) (λ n q. cc) in
    let new = graph g.loops (g.statements ++ (x ∷ [])) g.links in
    let is-new : c.put_next.new.self ≡ new = c.in-Ok.ensures.1 ∙ ap (λ (r : ℕ). graph g.loops (g.statements ++ (draft r Next enter ∷ [])) g.links) c.region-2.ensures in
    let notes : c.push.new.self.items ≡ s.notes.items ++ (note at 0 ∷ []) =
    c.in_ok-push.ensures.items ∙ ap (λ (v : NoteParts). s.notes.items ++ (v ∷ [])) (c.new-note.ensures ∙ ap (λ (v : GuardedRegionParts). note v 0) c.in_ok-copy.ensures) in
    subst (λ (v : GraphParts). IsPlaced (placed v c.push.new.self.items s.arounds.items s.tests.items s.unfinished)) (sym is-new)
    (subst (λ (v : List NoteParts). IsPlaced (placed new v s.arounds.items s.tests.items s.unfinished)) (sym notes) well)

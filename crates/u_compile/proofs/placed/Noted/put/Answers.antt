use Rattle.std.proofs.Common.{◌≡◌, ℕ, ◌+◌, List, [], ◌∷◌, ◌++◌, length, true, cond, sym, ap, ◌∙◌, subst}
use Rattle.u_compile.specs.Drafts.{DraftParts, draft}
use Rattle.u_compile.specs.Graphs.{GraphParts, graph}
use Rattle.u_compile.specs.Scoped.{GuardedRegionParts}
use Rattle.u_compile.specs.Placed.{PlacedParts, NoteParts, note, placed, IsPlaced, FitsIn, opens, IsLastFull}
use Rattle.u_compile.proofs.PlacedLaws.{put_placed}
use Rattle.u_compile.proofs.placed.Noted.put.Goals as goal

pub invariant_of-self-in-Ok : goal.invariant_of-self-in-Ok
invariant_of-self-in-Ok c =
    let s = c.self.inside in
    let g = s.graph in
    let at = c.args.place.now in
    let kind = c.args.kind.now in
    let here = placed g s.notes.items s.arounds.items s.tests.items s.unfinished in
    let x = draft at.region kind (length g.statements + 1) in
    let many : c.len.result ≡ length g.statements = c.len.ensures.len in
    let is-x : c.new-new.result ≡ draft at.region kind (length g.statements + 1) =
    c.new-new.ensures ∙ (ap (λ (r : ℕ). draft r kind (c.len.result + 1)) c.region.ensures ∙ ap (λ (n : ℕ). draft at.region kind (n + 1)) many) in
    let fits : FitsIn here x at = subst (λ (p : PlacedParts). FitsIn p x at) (sym c.self.view_is) (subst (λ (v : DraftParts). FitsIn c.args.self.now v at) is-x (c.fits.ensures c.if-not-fits.false)) in
    let zero : opens kind ≡ true → s.unfinished ≡ 0 = subst (λ (p : PlacedParts). opens kind ≡ true → p.unfinished ≡ 0) (sym c.self.view_is) (c.may_open.ensures c.if-not-may_open.false) in
    let last : IsLastFull g = subst (λ (p : PlacedParts). IsLastFull p.graph) (sym c.self.view_is) (c.is_last_full.ensures c.if-not-is_last_full.false) in
    let well = put_placed here c.len.ensures.graph c.self.invariant x at c.args.control fits last zero in
    let new = graph g.loops (g.statements ++ (x ∷ [])) g.links in
    let is-new : c.put.new.self ≡ new =
    c.in-Ok.ensures.1 ∙ (ap (λ (r : ℕ). graph g.loops (g.statements ++ (draft r kind c.in-Ok.added ∷ [])) g.links) c.region-2.ensures ∙ ap (λ (n : ℕ). graph g.loops (g.statements ++ (draft at.region kind n ∷ [])) g.links) c.in-Ok.ensures.0) in
    let notes : c.push.new.self.items ≡ s.notes.items ++ (note at c.args.control ∷ []) =
    c.in_ok-push.ensures.items ∙ ap (λ (v : NoteParts). s.notes.items ++ (v ∷ [])) (c.new-note.ensures ∙ ap (λ (v : GuardedRegionParts). note v c.args.control) c.in_ok-copy.ensures) in
    let waits : c.unfinished_with-unfinished.result ≡ cond (opens kind) (length g.statements + 1) s.unfinished =
    c.unfinished_with-unfinished.ensures ∙ (ap (λ (n : ℕ). cond (opens kind) (n + 1) c.args.self.now.unfinished) many ∙ ap (λ (p : PlacedParts). cond (opens kind) (length g.statements + 1) p.unfinished) (sym c.self.view_is)) in
    subst (λ (v : GraphParts). IsPlaced (placed v c.push.new.self.items s.arounds.items s.tests.items c.unfinished_with-unfinished.result)) (sym is-new)
    (subst (λ (v : List NoteParts). IsPlaced (placed new v s.arounds.items s.tests.items c.unfinished_with-unfinished.result)) (sym notes)
    (subst (λ (n : ℕ). IsPlaced (placed new (s.notes.items ++ (note at c.args.control ∷ [])) s.arounds.items s.tests.items n)) (sym waits) well))

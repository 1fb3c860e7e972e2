use Rattle.std.proofs.Common.{◌≡◌, ◌∙◌, List, sym, ap, subst}
use Rattle.u_compile.specs.Drafts.{DraftParts}
use Rattle.u_compile.specs.Placed.{PlacedParts, placed, IsLastFull, EachIsFull, EachGoesOn}
use Rattle.u_compile.proofs.PlacedLaws.{each_full}
use Rattle.u_compile.proofs.PlacedTests.{determinate_of, kept_of, always_ok}
use Rattle.u_compile.proofs.placed.Noted.complete.Goals as goal

pub returns-clause-determinate : goal.returns-clause-determinate
returns-clause-determinate c =
    let here = placed c.self.inside.graph c.self.inside.notes.items c.self.inside.arounds.items c.self.inside.tests.items c.self.inside.unfinished in
    let finished : c.self.inside.unfinished ≡ 0 = ap (λ (p : PlacedParts). p.unfinished) c.self.view_is ∙ c.is_finished.ensures c.if-not-is_finished.false in
    determinate_of c.complete.result here c.self.invariant finished c.complete.ensures.determinate

pub returns-clause-linked : goal.returns-clause-linked
returns-clause-linked c =
    let s = c.self.inside in
    let here = placed s.graph s.notes.items s.arounds.items s.tests.items s.unfinished in
    let last : IsLastFull c.args.self.graph = c.is_last_full.ensures c.if-not-is_last_full.false in
    let all : EachIsFull s.graph = each_full here c.self.invariant (subst (λ (p : PlacedParts). IsLastFull p.graph) (sym c.self.view_is) last) in
    always_ok c.complete.result (EachIsFull c.args.self.graph) (subst (λ (p : PlacedParts). EachIsFull p.graph) c.self.view_is all)

pub returns-clause-next : goal.returns-clause-next
returns-clause-next c =
    let same = c.drafts.ensures ∙ ap (λ (p : PlacedParts). p.graph.statements) c.self.view_is in
    let on = subst (λ (ds : List DraftParts). EachGoesOn ds ds) same (c.goes_on.ensures c.if-not-goes_on.false) in
    always_ok c.complete.result (EachGoesOn c.args.self.graph.statements c.args.self.graph.statements) on

pub returns-clause-kept : goal.returns-clause-kept
returns-clause-kept c =
    let s = c.self.inside in
    let here = placed s.graph s.notes.items s.arounds.items s.tests.items s.unfinished in
    let finished : s.unfinished ≡ 0 = ap (λ (p : PlacedParts). p.unfinished) c.self.view_is ∙ c.is_finished.ensures c.if-not-is_finished.false in
    let last : IsLastFull c.args.self.graph = c.is_last_full.ensures c.if-not-is_last_full.false in
    let all : EachIsFull s.graph = each_full here c.self.invariant (subst (λ (p : PlacedParts). IsLastFull p.graph) (sym c.self.view_is) last) in
    kept_of c.complete.result here c.self.invariant finished all c.complete.ensures.kept

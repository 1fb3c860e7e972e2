use Rattle.std.proofs.Common.{subst, sym, ap}
use Rattle.u_source.specs.Phrases.{IsSpelled}
use Rattle.u_source.specs.Trees.{IsTree}
use Rattle.u_source.proofs.OneTree.{one_tree}
use Rattle.u_source.proofs.Spelling.{spelled}
use Rattle.u_source.proofs.source.Source.nodes.Goals as goal

pub returns-clause-tree : goal.returns-clause-tree
returns-clause-tree c = subst IsTree (sym c.deref.ensures.value) (one_tree c.self.inside.tokens.items c.self.inside.nodes.items c.self.invariant)

pub returns-clause-spelled : goal.returns-clause-spelled
returns-clause-spelled c =
    let here : IsSpelled c.self.inside.tokens.items c.self.inside.nodes.items = spelled c.self.inside.tokens.items c.self.inside.nodes.items c.self.invariant in
    let there : IsSpelled c.self.inside.tokens.items c.deref.result.now = subst (IsSpelled c.self.inside.tokens.items) (sym c.deref.ensures.value) here in
    subst (λ x. IsSpelled x c.deref.result.now) (ap (λ s. s.tokens) c.self.view_is) there

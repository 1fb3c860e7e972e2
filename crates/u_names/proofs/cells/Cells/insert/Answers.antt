use Rattle.std.proofs.Common.{◌↔◌, Some, Contains, IsTrue, subst, sym, ap, ◌∙◌}
use Rattle.u_name.specs.Name.{Activity}
use Rattle.u_sets.specs.Members.{GoesLast, IsWith}
use Rattle.u_names.specs.CellPairs.{pairs_at, ArePairs}
use Rattle.u_names.proofs.Celled.{pairs_still, still_pairs, more_pairs, pair_more, was_there}
use Rattle.u_names.proofs.Mapped.{on_err}
use Rattle.u_names.proofs.cells.Cells.insert.Goals as goal

pub invariant_of-self-in_err-added : goal.invariant_of-self-in_err-added
invariant_of-self-in_err-added g c =
    let at = c.in-Ok.ensures.number ∙ ap (λ (a : Activity). Some a) c.name.ensures.value in
    let last = subst (λ (a : Activity). GoesLast c.self.inside.structures a c.id_of.new.self) c.name.ensures.value c.in-Ok.ensures.ok in
    subst (λ ps. ArePairs c.id_of.new.self ps) (sym c.in_err-added.ensures.err) (still_pairs c.self.inside.structures c.id_of.new.self c.args.cell.now.name c.self.inside.pairs last c.in-Ok.ensures.distinct c.self.invariant)

pub returns-in_err-added-clause-err : goal.returns-in_err-added-clause-err
returns-in_err-added-clause-err g c =
    let at = c.in-Ok.ensures.number ∙ ap (λ (a : Activity). Some a) c.name.ensures.value in
    let last = subst (λ (a : Activity). GoesLast c.self.inside.structures a c.id_of.new.self) c.name.ensures.value c.in-Ok.ensures.ok in
    on_err c.from_residual.result _ (ap (λ ps. pairs_at c.id_of.new.self ps) c.in_err-added.ensures.err ∙ pairs_still c.self.inside.structures c.id_of.new.self c.args.cell.now.name c.self.inside.pairs last c.self.invariant.placed ∙ c.self.view_is)

pub invariant_of-self-2 : goal.invariant_of-self-2
invariant_of-self-2 g c =
    let at = c.in-Ok.ensures.number ∙ ap (λ (a : Activity). Some a) c.name.ensures.value in
    let last = subst (λ (a : Activity). GoesLast c.self.inside.structures a c.id_of.new.self) c.name.ensures.value c.in-Ok.ensures.ok in
    let w = subst (λ s. IsWith c.self.inside.pairs (s, c.args.value) c.put.new.pairs) c.of.ensures.spot c.in_ok-added.ensures.ok in
    more_pairs c.self.inside.structures c.id_of.new.self c.self.inside.pairs c.put.new.pairs c.in-Ok.structure c.args.cell.now c.args.value c.self.invariant last c.in-Ok.ensures.distinct at w

pub returns-clause-ok : goal.returns-clause-ok
returns-clause-ok g c =
    let at = c.in-Ok.ensures.number ∙ ap (λ (a : Activity). Some a) c.name.ensures.value in
    let last = subst (λ (a : Activity). GoesLast c.self.inside.structures a c.id_of.new.self) c.name.ensures.value c.in-Ok.ensures.ok in
    let w = subst (λ s. IsWith c.self.inside.pairs (s, c.args.value) c.put.new.pairs) c.of.ensures.spot c.in_ok-added.ensures.ok in
    subst (λ ps. IsWith ps (c.args.cell.now, c.args.value) (pairs_at c.id_of.new.self c.put.new.pairs)) c.self.view_is (pair_more c.self.inside.structures c.id_of.new.self c.self.inside.pairs c.put.new.pairs c.in-Ok.structure c.args.cell.now c.args.value c.self.invariant last c.in-Ok.ensures.distinct at w)

pub returns-clause-new : goal.returns-clause-new
returns-clause-new g c =
    let at = c.in-Ok.ensures.number ∙ ap (λ (a : Activity). Some a) c.name.ensures.value in
    let last = subst (λ (a : Activity). GoesLast c.self.inside.structures a c.id_of.new.self) c.name.ensures.value c.in-Ok.ensures.ok in
    let w = subst (λ s. IsWith c.self.inside.pairs (s, c.args.value) c.put.new.pairs) c.of.ensures.spot c.in_ok-added.ensures.ok in
    let there = was_there c.self.inside.structures c.id_of.new.self c.self.inside.pairs c.put.new.pairs c.in-Ok.structure c.args.cell.now c.args.value c.self.invariant last c.in-Ok.ensures.distinct at w in
    let new = subst (λ s. IsTrue c.in_ok-added.added ↔ (Contains c.self.inside.pairs (s, c.args.value) → ⊥)) c.of.ensures.spot c.in_ok-added.ensures.new in
    subst (λ ps. IsTrue c.in_ok-added.added ↔ (Contains ps (c.args.cell.now, c.args.value) → ⊥)) c.self.view_is ((λ t m. new.0 t (there.1 m)), λ n. new.1 (λ m. n (there.0 m)))

pub returns-clause-still : goal.returns-clause-still
returns-clause-still g c known =
    let at = c.in-Ok.ensures.number ∙ ap (λ (a : Activity). Some a) c.name.ensures.value in
    let last = subst (λ (a : Activity). GoesLast c.self.inside.structures a c.id_of.new.self) c.name.ensures.value c.in-Ok.ensures.ok in
    ap (λ ps. pairs_at c.id_of.new.self ps) (c.in_ok-added.ensures.still known) ∙ pairs_still c.self.inside.structures c.id_of.new.self c.args.cell.now.name c.self.inside.pairs last c.self.invariant.placed ∙ c.self.view_is

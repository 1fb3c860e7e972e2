use Rattle.std.proofs.Common.{sym, ◌∙◌, inl, inr}
use Rattle.std.proofs.lemmas.Bool.{false≢true}
use Rattle.u_determinate.proofs.keeps.Guarded.are_opposed.Goals as goal

pub returns-else-are_sides : goal.returns-else-are_sides
returns-else-are_sides c = (
  (λ t. inr (c.are_sides-else-are_sides.ensures.0 t)),
  λ o. elim o [
    | inl h ↦ absurd (false≢true (sym c.if-are_sides.false ∙ c.are_sides.ensures.1 h))
    | inr h ↦ c.are_sides-else-are_sides.ensures.1 h
  ],
)

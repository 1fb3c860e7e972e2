-- Names and cells have total orders in which only a thing itself ties with it. These laws stand
-- here because the impls of `ExactOrd` cite them.
use Rattle.std.specs.Prelude.{◌≡◌, ℕ, List, refl, true}
use Rattle.std.proofs.Common.{ap, ◌∙◌, sym}
use Rattle.std.specs.Ordering.{nat_cmp}
use Rattle.std.specs.Cmp.{IsTotalOrder, Equal-is}
use Rattle.std.specs.Cmp.Lexicographic.{slice_cmp}
use Rattle.std.specs.FinMap.{nat_cmp-IsAntisymmetric, slice_cmp-IsAntisymmetric}
use Rattle.std.specs.declared.cmp.Ordering.TheVariants.{Equal}
use Rattle.std.proofs.lemmas.Cmp.{nat_cmp_total, on_total, then_total}
use Rattle.u_name.specs.ContextLaws.{both}
use Rattle.u_name.specs.NameOrder.{name_cmp_total, name_cmp_ties}
use Rattle.u_name.specs.Cell.{CellOf, cell_of, cell_cmp}
use Rattle.u_name.specs.contracts.cell.CellOrd.TheImpl as cell_ord
use Rattle.u_name.specs.contracts.cell.CellOrd.TheImpl.Laws as cell_laws
use Rattle.u_name.specs.contracts.cell.CellPartialEq.TheImpl as cell_eq

-- blocks that tie are the same
pub block_cmp_ties : (a b : List ℕ) → slice_cmp nat_cmp a b ≡ Equal → a ≡ b
block_cmp_ties a b h = slice_cmp-IsAntisymmetric nat_cmp-IsAntisymmetric a b h

-- the derived order of cells
pub derived_cell_cmp : (a b : CellOf) → (cell_ord.ghosts).cmp a b ≡ cell_cmp a b
derived_cell_cmp a b = refl

pub cell_cmp_total : IsTotalOrder cell_cmp
cell_cmp_total = then_total (on_total (λ (c : CellOf). c.name) name_cmp_total) (on_total (λ (c : CellOf). c.index) nat_cmp_total)

-- cells that tie are the same
pub cell_cmp_ties : (a b : CellOf) → cell_cmp a b ≡ Equal → a ≡ b
cell_cmp_ties a b h =
    let u = both _ _ h in
    ap (λ n. cell_of n a.index) (name_cmp_ties a.name b.name u.0)
    ∙ ap (λ i. cell_of b.name i) (nat_cmp-IsAntisymmetric a.index b.index u.1)

-- cells of which `==` holds are the same
pub same_cell : (a b : CellOf) → (cell_eq.ghosts).eq a b ≡ true → a ≡ b
same_cell a b h = cell_cmp_ties a b ((Equal-is (cell_cmp a b)).0 (sym (cell_laws.matches_eq-law a b) ∙ h))

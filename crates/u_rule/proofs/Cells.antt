-- Which cell two values name.
use Rattle.std.proofs.Common.{◌≡◌, ◌↔◌, ◌∙◌, sym, ap, ℕ, Bool, true, false, ◌&&◌, IsTrue, Ok, Err}
use Rattle.std.specs.Prelude.{Result, if◌then◌else◌}
use Rattle.std.specs.Ordering.{eq_by_cmp, is_eq}
use Rattle.std.specs.Cmp.{tied_itself, Equal-is}
use Rattle.u_name.specs.Name.{Activity}
use Rattle.u_name.specs.NameOrder.{name_cmp, name_cmp_total, name_cmp_ties}
use Rattle.u_name.specs.Cell.{CellOf, cell_of}
use Rattle.u_value.specs.declared.fault_kind.FaultKind.{FaultKind}

pub same_name : (a b : Activity) → IsTrue (eq_by_cmp name_cmp a b) ↔ (a ≡ b)
same_name a b =
    ((λ h. name_cmp_ties a b ((Equal-is (name_cmp a b)).0 h)), λ e. ap (λ (x : Activity). eq_by_cmp name_cmp a x) (sym e) ∙ ap is_eq (tied_itself name_cmp_total a))

pub one_cell : (n : Activity) (i : ℕ) (c : CellOf) → (cell_of n i ≡ c) ↔ ((n ≡ c.name) × (i ≡ c.index))
one_cell n i c =
    ((λ e. (ap (λ (x : CellOf). x.name) e, ap (λ (x : CellOf). x.index) e)), λ p. ap (λ (m : Activity). cell_of m i) p.0 ∙ ap (λ (k : ℕ). cell_of c.name k) p.1)

ok_same : (c d : CellOf) → ◌≡◌ {A = Result CellOf FaultKind} (Ok c) (Ok d) → c ≡ d
ok_same c d e = cc

-- a cell is named where the index is in bounds, and it is the one
pub named_or : (b : Bool) (c d : CellOf) (k : FaultKind) (same : Bool) → (IsTrue same ↔ (c ≡ d)) → IsTrue (b && same) ↔ (◌≡◌ {A = Result CellOf FaultKind} (if b then Ok c else Err k) (Ok d))
named_or true c d k same s = ((λ t. ap (λ (x : CellOf). Ok x) (s.0 t)), λ e. s.1 (ok_same c d e))
named_or false c d k same s = ((λ t. absurd (cc)), λ e. absurd (cc))

-- References are equal where their lengths and their names are.
use Rattle.std.specs.Prelude.{◌≡◌, Bool, true, false, refl}
use Rattle.std.proofs.Common.{sym, ap}
use Rattle.std.specs.declared.cmp.Ordering.{Ordering}
use Rattle.std.specs.declared.cmp.Ordering.TheVariants.{Less, Equal, Greater}
use Rattle.std.specs.Ordering.{is_eq, eq_by_cmp, ordering_then}
use Rattle.std.proofs.lemmas.Cmp.{nat_cmp_total, tied_itself}
use Rattle.u_name.specs.NameOrder.{name_cmp}
use Rattle.u_value.specs.Pointer.{Pointer}
use Rattle.u_value.specs.PointerOrder.{pointer_cmp, same_pointer}

pub other_length : (p q : Pointer) → (p.length ≡ q.length → ⊥) → false ≡ eq_by_cmp pointer_cmp p q
other_length p q h = decide (eq_by_cmp pointer_cmp p q) refl
  where
    decide : (r : Bool) → eq_by_cmp pointer_cmp p q ≡ r → false ≡ r
    decide true e = absurd (h (ap (λ (x : Pointer). x.length) (same_pointer p q e)))
    decide false e = refl

then_equal : (o : Ordering) → ordering_then o Equal ≡ o
then_equal Less = refl
then_equal Equal = refl
then_equal Greater = refl

alike : (p q : Pointer) → p.length ≡ q.length → pointer_cmp p q ≡ name_cmp p.name q.name
alike p q e = rw (← e, tied_itself nat_cmp_total p.length) (then_equal (name_cmp p.name q.name))

pub same_but_name : (p q : Pointer) → p.length ≡ q.length → eq_by_cmp name_cmp p.name q.name ≡ eq_by_cmp pointer_cmp p q
same_but_name p q e = ap is_eq (sym (alike p q e))

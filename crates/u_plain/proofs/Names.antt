-- What the test on two names says.
use Rattle.std.proofs.Common.{◌≡◌, ◌↔◌, ◌∙◌, sym, subst, ap, Bool, true, false, IsTrue}
use Rattle.std.specs.Cmp.{tied_itself}
use Rattle.std.specs.Ordering.{eq_by_cmp, is_eq}
use Rattle.std.specs.declared.cmp.Ordering.TheVariants.{Equal}
use Rattle.u_name.specs.Name.{Activity}
use Rattle.u_name.specs.NameOrder.{name_cmp, name_cmp_total, same_name}

pub name_eq_true : (a b : Activity) → a ≡ b → eq_by_cmp name_cmp a b ≡ true
name_eq_true a b e = ap is_eq (subst (λ (n : Activity). name_cmp a n ≡ Equal) e (tied_itself name_cmp_total a))

pub name_eq_exact : (a b : Activity) (r : Bool) → r ≡ eq_by_cmp name_cmp a b → IsTrue r ↔ (a ≡ b)
name_eq_exact a b r h = ((λ t. same_name a b (sym h ∙ t)), λ e. h ∙ name_eq_true a b e)

pub name_eq_false : (a b : Activity) → eq_by_cmp name_cmp a b ≡ false → a ≡ b → ⊥
name_eq_false a b h e = let t = name_eq_true a b e in cc

-- What the tests on two entries and on two firings say.
use Rattle.std.proofs.Common.{◌≡◌, ◌↔◌, ◌∙◌, sym, refl, subst, ap, Bool, true, IsTrue, Ordering}
use Rattle.std.specs.Cmp.{tied_itself}
use Rattle.std.specs.Ordering.{is_eq}
use Rattle.std.specs.declared.cmp.Ordering.TheVariants.{Less, Equal, Greater}
use Rattle.u_rule.specs.EntryOrder.{entry_cmp, firing_cmp}
use Rattle.u_rule.specs.ExactOrders.{entry_cmp_total, entry_cmp_ties, firing_cmp_total, firing_cmp_ties}
use Rattle.u_rule.specs.declared.entry.Entry.{Entry}
use Rattle.u_rule.specs.declared.firing.Firing.{Firing}

is_equal : (o : Ordering) → is_eq o ≡ true → o ≡ Equal
is_equal Less h = cc
is_equal Equal h = refl
is_equal Greater h = cc

pub entry_tied_exact : (a b : Entry) (r : Bool) → r ≡ is_eq (entry_cmp a b) → IsTrue r ↔ (a ≡ b)
entry_tied_exact a b r h = ((λ t. entry_cmp_ties a b (is_equal (entry_cmp a b) (sym h ∙ t))), λ e. h ∙ ap is_eq (subst (λ (x : Entry). entry_cmp a x ≡ Equal) e (tied_itself entry_cmp_total a)))

pub firing_tied_exact : (a b : Firing) (r : Bool) → r ≡ is_eq (firing_cmp a b) → IsTrue r ↔ (a ≡ b)
firing_tied_exact a b r h = ((λ t. firing_cmp_ties a b (is_equal (firing_cmp a b) (sym h ∙ t))), λ e. h ∙ ap is_eq (subst (λ (x : Firing). firing_cmp a x ≡ Equal) e (tied_itself firing_cmp_total a)))

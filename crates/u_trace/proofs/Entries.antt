-- Entries are the same or not.
use Rattle.std.proofs.Common.{◌≡◌, ◌⊎◌, inl, inr, refl, subst, Ordering}
use Rattle.std.specs.Cmp.{tied_itself}
use Rattle.std.specs.declared.cmp.Ordering.TheVariants.{Less, Equal, Greater}
use Rattle.u_rule.specs.EntryOrder.{entry_cmp}
use Rattle.u_rule.specs.ExactOrders.{entry_cmp_total, entry_cmp_ties}
use Rattle.u_rule.specs.declared.entry.Entry.{Entry}

pub same_entries : (x y : Entry) → (x ≡ y) ⊎ (x ≡ y → ⊥)
same_entries x y = at (entry_cmp x y) refl
  where
    tied : x ≡ y → entry_cmp x y ≡ Equal
    tied q = subst (λ (z : Entry). entry_cmp x z ≡ Equal) q (tied_itself entry_cmp_total x)

    at : (o : Ordering) → entry_cmp x y ≡ o → (x ≡ y) ⊎ (x ≡ y → ⊥)
    at Equal e = inl (entry_cmp_ties x y e)
    at Less e = inr (λ q. let t = tied q in cc)
    at Greater e = inr (λ q. let t = tied q in cc)
